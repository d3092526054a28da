-- What the requires say is what product tests, so its answer is the product.
use Rattle.field.proofs.ProductCall.{is_product, never_refused}
use Rattle.layered.proofs.Satisfied.{ok_by}
use Rattle.layered.proofs.parity.times.Goals as goal

pub unwrap-requires : goal.unwrap-requires
unwrap-requires c =
    ok_by c.product.result (never_refused c.args.p c.args.a c.args.b c.requires.0 c.requires.1.0 c.requires.1.1.0 c.requires.1.1.1 c.product.result c.product.ensures)

pub returns : goal.returns
returns c =
    is_product c.args.p c.args.a c.args.b c.requires.0 c.requires.1.0 c.requires.1.1.0 c.requires.1.1.1 c.product.result c.product.ensures c.unwrap.result c.unwrap.ensures
