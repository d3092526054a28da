-- After n turns the pairs of the first n columns that are above e stand.
use mathlib.Core.Path.{◌≡◌}
use mathlib.Core.List.{◌++◌}
use Prim.Native.Nat.{◌*◌}
use lib.ListN.{length, drop}
use Rattle.trellis.specs.Lists.{blocks}
use Rattle.sweep.specs.inner.Groups.{sent_of, pair_above, pair_count}
use Rattle.sweep.proofs.group.pairs.Given as goal

abbrev pub invariant-loop-n : goal.invariant-loop-n
invariant-loop-n l = (length l.out ≡ length l.fn.out) × ((l.c ≡ pair_count l.e (sent_of l.sent l.q l.a) l.n) × (l.out ≡ blocks (pair_above l.e (sent_of l.sent l.q l.a)) l.n ++ drop (pair_count l.e (sent_of l.sent l.q l.a) l.n * 2) l.fn.out))
