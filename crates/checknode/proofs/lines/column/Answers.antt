-- The decision, then the rests in their rows.
use mathlib.Core.Path.{ap, ◌∙◌}
use Rattle.std.proofs.lemmas.List.{map-id}
use Rattle.trellis.specs.Check.{first_zero}
use Rattle.field.proofs.Filling.{four_divides}
use Rattle.checknode.proofs.Lining.{place-room}
use Rattle.checknode.proofs.lines.column.Goals as goal

pub place-requires : goal.place-requires
place-requires c =
    record {
      put_room = place-room c.args.costs.now c.args.row.now c.args.line.now c.requires (c.decide-z.ensures.0.0 ∙ ap first_zero (map-id c.args.costs.now));
      costs_len = rw c.requires.of_costs (four_divides c.requires.p c.requires.low);
    }
