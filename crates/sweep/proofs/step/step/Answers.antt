use native.Mathlib.Omega.{arith}
use mathlib.Core.Path.{◌≡◌}
use Prim.Native.Nat.{◌+◌, ◌*◌}
use lib.ListN.{length}
use Rattle.sweep.specs.inner.Cells.{count_cells, step_cells}
use Rattle.sweep.proofs.Laws.{front_whole}
use Rattle.sweep.proofs.step.step.Goals as goal

pub returns : goal.returns
unfolding step_cells
returns c =
    let a = c.args in
    let f = count_cells a.column.now.greatest (length a.column.now.products.now) a.column.now.products.now a.column.now.moves.now a.cells.now a.column.now.decided in
    let e : c.loop-j.j ≡ a.k + 1 = omega arith in
    front_whole c.loop-j.out ((a.k + 1) * (length a.column.now.products.now)) (rw e at c.loop-j.invariant.1) (omega (arith, c.loop-j.invariant.0, c.requires.cells_len.1))
