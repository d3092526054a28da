use mathlib.Core.Path.{◌≡◌, sym, ap, ◌∙◌}
use Prim.Native.Nat.{◌+◌, ◌*◌, ◌/◌}
use native.Mathlib.Omega.{arith}
use lib.ListN.{length, get_or}
use lib.Seq.{take_all}
use Rattle.trellis.specs.Lists.{tab}
use Rattle.machine.specs.Line.{byte_at, line_bytes, is_digit}
use Rattle.text.proofs.Digits.{all-at}
use Rattle.text.proofs.hex.fill.Goals as goal

pub nibble-requires : goal.nibble-requires
nibble-requires c =
    all-at (λ i. is_digit (get_or c.args.text.now i 0)) (2 * c.loop-i.i) (length c.args.text.now) (omega arith) c.requires.0

pub nibble-requires-in-loop-i : goal.nibble-requires-in-loop-i
nibble-requires-in-loop-i c =
    all-at (λ i. is_digit (get_or c.args.text.now i 0)) (2 * c.loop-i.i + 1) (length c.args.text.now) (omega arith) c.requires.0

pub returns : goal.returns
unfolding line_bytes
returns c =
    let e : c.loop-i.i ≡ length c.args.text.now / 2 = omega arith in
    sym (take_all c.loop-i.i c.loop-i.out (omega arith)) ∙ c.loop-i.invariant.1 ∙ ap (tab (byte_at c.args.text.now)) e
