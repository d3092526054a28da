-- The test decides between the two cases of the definition; each part has q costs.
use mathlib.Core.Path.{◌≡◌, refl}
use native.Mathlib.Omega.{arith}
use lib.ListN.{length, take, length-take}
use Rattle.sweep.proofs.Laws.{count-first, count-later}
use Rattle.sweep.proofs.step.count.Goals as goal

pub returns-then-j-eq0 : goal.returns-then-j-eq0
returns-then-j-eq0 c =
    let k = c.args.column.now in
    let q = length k.products.now in
    let e : length (take q c.args.cells.now) ≡ q = simp length-take (omega (arith, c.requires.cells_len)) in
    count-first c.args.column.now.greatest q k.products.now k.moves.now c.args.cells.now k.decided c.args.j _ c.if-j-eq0.true e c.kept.ensures

pub returns : goal.returns
returns c =
    let k = c.args.column.now in
    count-later c.args.column.now.greatest (length k.products.now) k.products.now k.moves.now c.args.cells.now k.decided c.args.j _ c.if-j-eq0.false refl c.layer.ensures
