use mathlib.Core.Path.{refl}
use native.Mathlib.Omega.{arith}
use Rattle.tables.proofs.Parts.{past_first, part_length}
use Rattle.tables.proofs.Growing.{rise_in_is}
use Rattle.tables.proofs.grow.rise.Goals as goal

pub overflow_sub-m : goal.overflow_sub-m
overflow_sub-m c =
    omega (arith, (past_first c.args.j c.args.shape.l (omega arith)), c.part_at-m.ensures)

pub join-requires : goal.join-requires
join-requires c =
    record {
      u_len = (c.requires.line_len.0, (omega (arith, c.requires.line_len.1), part_length c.args.table.now _ _ c.args.shape.l refl (omega (arith, c.part_at-m.ensures, c.requires.le_j))));
    }

pub returns : goal.returns
returns c =
    rise_in_is c.args.shape.greatest c.args.shape.q c.args.shape.l c.args.shape.k c.args.line.now c.args.table.now _ c.args.j _ _ (omega arith) c.part_at-m.ensures.0 refl
    c.copy.ensures c.join.ensures
