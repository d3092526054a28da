use mathlib.Core.Path.{ap, ◌∙◌}
use mathlib.Core.Bool.{Bool}
use mathlib.Core.List.{List}
use Rattle.std.proofs.Common.{w8, eqb}
use lib.Lanes.{sel_l}
use Rattle.std.proofs.lemmas.Simd.{tops_compared}
use Rattle.expansion.proofs.Transposing.{beside_lanes}
use Rattle.expansion.proofs.expansion.pair.Goals as goal

pub returns : goal.returns
returns c =
    let a = c.args in
    ap (λ (ms : List Bool). sel_l ms a.s a.v) (tops_compared w8 eqb a.c _) ∙ beside_lanes a.n 16 a.c a.s a.v c.fits-c.0 c.fits-s.0 c.fits-v.0
