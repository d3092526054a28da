use mathlib.Core.Path.{◌≡◌, ap, ◌∙◌}
use mathlib.Core.Bool.{Bool}
use mathlib.Core.List.{List}
use Prim.Native.Nat.{ℕ, ◌+◌, ◌-◌, ◌*◌, ◌≤◌, ◌<◌}
use native.Mathlib.Omega.{arith}
use borrow.Author.Rules.{rules}
use lib.ListN.{length, take, drop, length-take, length-drop}
use Rattle.slices.proofs.Copies.{copied_is}
use Rattle.trellis.specs.Ready.{Ready}
use Rattle.sweep.specs.Kept.{cell_count}
use Rattle.sweep.specs.inner.Cells.{is_back}
use Rattle.field.proofs.Blocks.{part_room}
use Rattle.sweep.proofs.Swept.{cells_some, table-start, start-length, table_turn, table_copied, table-next, next-length}
use Rattle.sweep.proofs.columns.fill.Goals as goal

pub begin-requires : goal.begin-requires
begin-requires c =
    simp length-take (omega (arith, part_room 0 (length c.args.check.now.weights.now) c.cell_count-w.result (omega (arith, c.args.check.now.ready.two)), ap (λ y. (length c.args.check.now.weights.now) * y) c.cell_count-w.ensures.0, c.requires.cells_len.1, c.cell_count-w.ensures.0, cells_some c.args.check.now.first c.args.check.now.weights.now c.args.check.now.costs.now c.args.check.now.ready))

pub loop-i-init : goal.loop-i-init
loop-i-init c =
    let ws : List ℕ = c.args.check.now.weights.now in
    let cs : List ℕ = c.args.check.now.costs.now in
    let w : ℕ = c.cell_count-w.result in
    let f : ℕ = c.args.check.now.first in
    let ws : List ℕ = c.args.check.now.weights.now in
    let cs : List ℕ = c.args.check.now.costs.now in
    let D = c.args.check.now.ready in
    let w : ℕ = c.cell_count-w.result in
    let we : w ≡ cell_count f = c.cell_count-w.ensures.0 in
    let wt : length ws * w ≡ length ws * cell_count f = ap (λ y. length ws * y) we in
    let t : List ℕ = c.args.table.now in
    let h : w ≤ length t = omega (arith, part_room 0 (length ws) w (omega (arith, D.two)), wt, c.requires.cells_len.1) in
    let n = start-length f ws cs D (is_back c.args.direction) t w h c.begin.ensures in
    (c.requires.cells_len.0, (n ∙ omega (arith, c.requires.cells_len.1, wt), table-start f ws cs D (is_back c.args.direction) t w we h c.begin.ensures))

pub loop-i-preserved : goal.loop-i-preserved
loop-i-preserved c =
    let first : ℕ = c.args.check.now.first in
    let ws : List ℕ = c.args.check.now.weights.now in
    let cs : List ℕ = c.args.check.now.costs.now in
    let ready : Ready first ws cs = c.args.check.now.ready in
    let w : ℕ = c.cell_count-w.result in
    let count : w ≡ cell_count first = c.cell_count-w.ensures.0 in
    let i : ℕ = c.loop-i.i in
    let below : i < length ws = omega (arith, c.loop-i-test.true) in
    let within : i * w + w ≤ length ws * w = part_room i (length ws) w below in
    let in_table : i * w + w ≤ length c.loop-i.table = omega (arith, within, c.loop-i.invariant.1.0) in
    let some : 1 ≤ i = c.loop-i.auto.i in
    let t : List ℕ = c.loop-i.table in
    let inv = c.loop-i.invariant in
    let back : Bool = (is_back c.args.direction) in
    let part : length (take (i * w - (i * w - w)) (drop (i * w - w) t)) ≡ length c.loop-i.cells = simp (length-take, length-drop) (omega (arith, in_table, count, inv.0, part_room 0 i w (omega arith))) in
    let e = copied_is (take (i * w - (i * w - w)) (drop (i * w - w) t)) c.loop-i.cells c.copy.new.to part c.copy.ensures in
    let copied = table_copied first ws cs ready back i some w count t inv.1.1 e in
    let n = c.order.ensures.0 in
    let k = table_turn first ws cs ready back i some w count c.order.result below n (c.order.ensures.1) copied c.turn.ensures in
    let m = next-length first ws cs ready back i some w count t in_table k in
    (omega (arith, c.copy.auto, inv.0), (m ∙ inv.1.0, table-next first ws cs ready back i some w count t inv.1.1 k))
