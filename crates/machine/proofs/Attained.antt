-- The offset of 255 is used whole: on frame_6, in the second iteration, column 2 of check 0 has a symbol of cost 0 whose old scaled cost is 255.
--
-- The check takes the files by name, each after what it imports. Through this one the examples come first: an edit of a definition then meets an
-- equation that it makes false before a proof whose text it no longer fits.
use mathlib.Core.Path.{◌≡◌, refl}
use Rattle.trellis.specs.Field.{xor}
use Rattle.trellis.specs.Check.{sent, least_cost, choices}
use Rattle.machine.specs.Machine.{iteration, update, spread, arriving, outgoing, incoming, message}
use Rattle.machine.proofs.Examples.{code_3, frame_6}
use Rattle.machine.proofs.Offset.{before_update, edge_cost_in, old_in}

pub attained : (edge_cost_in code_3 (before_update code_3 frame_6 1 0) 0 2 1 ≡ 0) × (old_in code_3 (before_update code_3 frame_6 1 0) 0 2 1 ≡ 255)
unfolding iteration update spread arriving outgoing incoming message sent least_cost choices xor
attained = (refl, refl)
