use mathlib.Core.Path.{◌≡◌, sym, ◌∙◌}
use mathlib.Core.Bool.{cond}
use Prim.Native.Nat.{◌%◌}
use native.Mathlib.Omega.{arith}
use borrow.Author.Tests.{eq-eqb, ne_eqb}
use lib.Dec.{eqb}
use Rattle.trellis.specs.Field.{xor}
use Rattle.trellis.proofs.Xor.{xor-zero, xor_right}
use Rattle.trellis.proofs.Recurrence.{product_turn, product-done}
use Rattle.field.proofs.field.times.Goals as goal
use Rattle.field.proofs.field.times.Goals.{then-left-eq1, else-left-eq1}

pub loop-left-init : goal.loop-left-init
loop-left-init c = (c.requires.1.1.0, (c.requires.1.1.1, xor-zero _))

pub loop-left-preserved : goal.loop-left-preserved
unfolding xor
loop-left-preserved c =
    let s : c.if-left-eq1.sum ≡ xor c.loop-left.sum (cond (eqb (c.loop-left.left % 2) 1) c.loop-left.factor 0) =
    elim c.if-left-eq1.branch [
      | then-left-eq1 w ↦ rw (eq-eqb _ 1 w.if-left-eq1.true) w.sum-is
      | else-left-eq1 w ↦ rw (ne_eqb _ 1 w.if-left-eq1.false) (w.sum-is ∙ sym (xor_right _))
    ] in (
      c.double-factor.ensures.1,
      (
        omega (arith, c.loop-left.invariant.1.0),
        sym (product_turn c.args.p c.loop-left.factor c.loop-left.left c.loop-left.sum c.loop-left.invariant.1.0 c.double-factor.ensures.0 s) ∙ c.loop-left.invariant.1.1,
      ),
    )

pub returns : goal.returns
returns c = sym (product-done c.args.p c.loop-left.factor c.loop-left.left c.loop-left.sum (omega arith)) ∙ c.loop-left.invariant.1.1
