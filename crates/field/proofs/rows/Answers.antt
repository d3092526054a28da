-- Where the products fit they are filled in, else nothing changes.
use mathlib.Core.Path.{◌∙◌, sym}
use lib.ListN.{length}
use Rattle.field.proofs.RowsCall.{fitting}
use Rattle.field.proofs.rows.Goals as goal

pub fill-requires : goal.fill-requires
fill-requires c =
    record {
      factors = (fitting c.args.p c.args.weights.now (length c.args.out.now) (sym c.rows_fit.ensures ∙ c.if-rows_fit.true)).0;
      out_len = (fitting c.args.p c.args.weights.now (length c.args.out.now) (sym c.rows_fit.ensures ∙ c.if-rows_fit.true)).1;
    }
