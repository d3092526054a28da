use mathlib.Core.Path.{refl, ap, ◌∙◌}
use Prim.Native.Nat.{◌-◌, ◌*◌}
use native.Mathlib.Omega.{arith}
use lib.ListN.{length}
use Rattle.trellis.specs.Lists.{part, patch}
use Rattle.tables.specs.inner.Tables.{last_table}
use Rattle.tables.proofs.Parts.{part_of}
use Rattle.tables.proofs.Passing.{before-start}
use Rattle.tables.proofs.rows.first.Goals as goal

pub returns : goal.returns
returns c =
    record {
      before_then = before-start c.args.shape.greatest c.args.shape.q c.args.shape.l c.args.shape.k c.args.lines.now c.args.d (omega arith) c.requires.le_d.1.0 (omega arith) c.begin.ensures;
      out_then = c.end.ensures ∙ ap (λ z. patch c.args.out.now (0 * c.args.shape.l) c.args.shape.l (last_table c.args.shape.l c.args.shape.k z)) (part_of c.args.after.now _ _ (c.args.d - 2) (length c.args.before.now) c.part_at-e.ensures.0 refl ∙ ap (λ z. part c.args.after.now ((c.args.d - 2) * z) z) c.requires.before_len.0);
    }
