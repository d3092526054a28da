use mathlib.Core.Path.{refl}
use native.Mathlib.Omega.{arith}
use Rattle.tables.proofs.Parts.{past_first, part_length}
use Rattle.tables.proofs.Growing.{rise_in_is}
use Rattle.tables.proofs.Passing.{met_is}
use Rattle.tables.proofs.rows.rise_both.Goals as goal

pub overflow_sub-m : goal.overflow_sub-m
overflow_sub-m c =
    omega (arith, (past_first c.args.j c.args.shape.l (omega arith)), c.part_at-m.ensures)

pub join-requires : goal.join-requires
join-requires c =
    record {
      u_len = (part_length c.args.after.now _ _ c.args.shape.l refl (omega (arith, c.part_at-a.ensures, c.requires.le_j.1)), (omega arith, c.requires.line_len.1.1));
    }

pub join-requires-2 : goal.join-requires-2
join-requires-2 c =
    record {
      u_len = (c.requires.line_len.0, (omega (arith, c.copy.auto, c.requires.line_len), part_length c.args.before.now _ _ c.args.shape.l refl (omega (arith, c.part_at-m.ensures, c.requires.le_j.1))));
    }

pub returns : goal.returns
returns c =
    record {
      before_then = rise_in_is c.args.shape.greatest c.args.shape.q c.args.shape.l c.args.shape.k c.args.line.now c.args.before.now _ c.args.j _ _ (omega arith) c.part_at-m.ensures.0 refl c.copy.ensures c.join-2.ensures;
      out_then = met_is c.args.shape.greatest c.args.shape.q c.args.shape.l c.args.shape.k c.args.before.now c.args.after.now c.args.out.now _ c.args.j _ _ _ (omega arith) c.part_at-m.ensures.0 c.part_at-a.ensures.0 refl c.copy.ensures c.join.ensures;
    }
