-- Each callee's equation in turn.
use Rattle.field.proofs.Filling.{bits_six}
use Rattle.field.proofs.products.of_bits.Goals as goal

pub returns : goal.returns
returns c =
    let s = c.args in
    bits_six s.a s.b s.c s.d s.e s.f s.x c.added-4.ensures c.added-5.ensures c.added-6.ensures c.added.ensures c.added-2.ensures c.added-3.ensures
