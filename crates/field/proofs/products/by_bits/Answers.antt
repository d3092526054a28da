use mathlib.Core.Path.{◌∙◌}
use native.Mathlib.Omega.{arith}
use borrow.Author.Rules.{rules}
use Rattle.trellis.specs.Field.{product}
use Rattle.trellis.proofs.Loops.{fill_next}
use Rattle.engine.proofs.Products.{bits_are}
use Rattle.field.proofs.products.by_bits.Goals as goal

pub loop-x-preserved : goal.loop-x-preserved
loop-x-preserved c =
    let a = c.args in
    let x = c.loop-x.x in
    let e = bits_are a.p a.h x c.requires.factor.high (omega (arith, c.loop-x.invariant.0)) c.double-b.ensures.0 c.double-c.ensures.0 c.double-d.ensures.0 c.double-e.ensures.0 c.double-f.ensures.0 in
    (search rules, fill_next (product a.p a.h) c.loop-x.row x _ (omega arith) c.loop-x.invariant.1 (c.of_bits.ensures ∙ e))
