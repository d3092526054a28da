-- The invariant: what is held, counted and printed is that of the bytes read so far. The bound leaves room for each line.
use mathlib.Core.Path.{◌≡◌}
use Prim.Native.Nat.{◌-◌, ◌≤◌}
use lib.ListN.{length, take}
use Rattle.machine.specs.inner.Blocks.{fed_out}
use Rattle.text.specs.inner.Held.{held_in, kept_of, fed_held, put_at}
use Rattle.text.proofs.cut.feed_over.Given as goal

abbrev pub invariant-loop-s : goal.invariant-loop-s
invariant-loop-s l = (l.at ≤ length l.bytes) × ((length l.line ≡ 32769) × ((length l.code ≡ 16384) × ((length l.out ≡ length l.initial.out) × ((held_in l.s l.line l.code ≡ fed_held (held_in l.initial.s l.initial.line l.initial.code) (take l.at l.bytes)) × ((l.s.full ≡ length (fed_out (kept_of (held_in l.initial.s l.initial.line l.initial.code)) (take l.at l.bytes))) × (l.out ≡ put_at l.initial.out 0 (fed_out (kept_of (held_in l.initial.s l.initial.line l.initial.code)) (take l.at l.bytes))))))))

abbrev pub decreases-loop-s : goal.decreases-loop-s
decreases-loop-s l = length l.bytes - l.at
