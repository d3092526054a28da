use mathlib.Core.Path.{◌≡◌, ap, ◌∙◌}
use mathlib.Core.List.{◌++◌}
use Prim.Native.Nat.{suc, ◌-◌, ◌*◌}
use native.Mathlib.Omega.{arith}
use lib.ListN.{take, drop}
use Rattle.tables.specs.inner.Tables.{grown_list}
use Rattle.tables.proofs.Growing.{half_start, half_turn, half_end}
use Rattle.tables.proofs.grow.grow.Goals as goal

pub loop-j-init : goal.loop-j-init
loop-j-init c = half_start c.args.shape.greatest c.args.shape.q c.args.shape.l c.args.shape.k c.args.line.now c.args.table.now c.requires.table_len (c.args.shape.k - 1) (omega (arith, c.args.shape.shaped.some))

pub loop-j-preserved : goal.loop-j-preserved
loop-j-preserved c =
    let i = c.loop-j.j - 1 in
    half_turn c.args.shape.greatest c.args.shape.q c.args.shape.l c.args.shape.k c.args.line.now c.args.table.now c.requires.table_len (i - 1) i c.loop-j.table (omega arith) (omega arith) c.loop-j.invariant c.rise.ensures

pub returns : goal.returns
returns c =
    let z : c.loop-j.j - 1 ≡ 0 = omega arith in
    half_end c.args.shape.greatest c.args.shape.q c.args.shape.l c.args.shape.k c.args.line.now c.args.table.now c.requires.table_len c.loop-j.table (omega (arith, c.args.shape.shaped.some))
    (c.loop-j.invariant ∙ ap (λ y. take (suc y * c.args.shape.l) c.args.table.now ++ drop (suc y * c.args.shape.l) (grown_list c.args.shape.greatest c.args.shape.q c.args.shape.l c.args.shape.k c.args.line.now c.args.table.now)) z)
    c.raise.ensures
