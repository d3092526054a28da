use mathlib.Core.Path.{◌≡◌, ap, ◌∙◌}
use mathlib.Core.List.{List, ◌++◌}
use Prim.Native.Nat.{ℕ, ◌+◌, ◌-◌, ◌*◌, ◌≤◌}
use native.Mathlib.Omega.{arith}
use lib.ListN.{drop}
use Rattle.trellis.specs.Lists.{blocks}
use Rattle.tables.specs.inner.Tables.{sent_row}
use Rattle.tables.proofs.Parts.{fill_start, fill_end, patch_turn, seam, blocks-length, part_room}
use Rattle.tables.proofs.Passing.{row-length, row_first, row_middle, row_last, before_turn, after-size, rows_are}
use Rattle.tables.proofs.rows.all.Goals as goal

pub first-requires-clause-before_len : goal.first-requires-clause-before_len
first-requires-clause-before_len c =
    (c.requires.before_len.0, after-size c.args.shape.greatest c.args.shape.q c.args.shape.l c.args.shape.k c.args.lines.now c.args.d c.requires.le_d.0.0 c.requires.le_d.1.0 (omega (arith, c.args.shape.shaped.some)) c.args.after.now c.requires.after_value)

pub loop-n-init : goal.loop-n-init
loop-n-init c =
    let one : 1 ≤ c.args.shape.k = omega (arith, c.args.shape.shaped.some) in
    let R : ℕ → List ℕ = sent_row c.args.shape.greatest c.args.shape.q c.args.shape.l c.args.shape.k c.args.lines.now c.args.d in
    let r = row-length c.args.shape.greatest c.args.shape.q c.args.shape.l c.args.shape.k c.args.lines.now c.args.d c.requires.le_d.0.0 c.requires.le_d.1.0 one in
    let T = patch_turn R c.args.shape.l r c.args.out.now c.args.out.now 0 (omega (arith, part_room 0 c.args.d c.args.shape.l (omega arith), c.requires.le_d.1)) (fill_start R c.args.shape.l c.args.out.now)
    (row_first c.args.shape.greatest c.args.shape.q c.args.shape.l c.args.shape.k c.args.lines.now c.args.d c.requires.le_d.0.0 c.requires.le_d.1.0 one c.args.after.now c.requires.after_value) c.first.ensures.out_then in
    (c.first.ensures.before_then, seam (blocks R (0 + 1)) c.args.out.now _ ((0 + 1) * c.args.shape.l) (blocks-length R c.args.shape.l r (0 + 1)) T.1)

pub pass_at-requires-clause-before_len : goal.pass_at-requires-clause-before_len
pass_at-requires-clause-before_len c =
    (omega (arith, c.requires.before_len), after-size c.args.shape.greatest c.args.shape.q c.args.shape.l c.args.shape.k c.args.lines.now c.args.d c.requires.le_d.0.0 c.requires.le_d.1.0 (omega (arith, c.args.shape.shaped.some)) c.args.after.now c.requires.after_value)

pub loop-n-preserved : goal.loop-n-preserved
loop-n-preserved c =
    let one : 1 ≤ c.args.shape.k = omega (arith, c.args.shape.shaped.some) in
    let n = c.loop-n.n in
    let I = c.loop-n.invariant in
    let T = patch_turn (sent_row c.args.shape.greatest c.args.shape.q c.args.shape.l c.args.shape.k c.args.lines.now c.args.d) c.args.shape.l (row-length c.args.shape.greatest c.args.shape.q c.args.shape.l c.args.shape.k c.args.lines.now c.args.d c.requires.le_d.0.0 c.requires.le_d.1.0 one) _ c.loop-n.out n (omega (arith, part_room n c.args.d c.args.shape.l (omega arith), c.requires.le_d)) I.1
    (row_middle c.args.shape.greatest c.args.shape.q c.args.shape.l c.args.shape.k c.args.lines.now c.args.d c.requires.le_d.0.0 c.requires.le_d.1.0 one c.args.after.now c.loop-n.before n (omega arith) (omega arith) c.requires.after_value I.0) c.pass_at.ensures.out_then in
    (before_turn c.args.shape.greatest c.args.shape.q c.args.shape.l c.args.shape.k c.args.lines.now c.args.d c.requires.le_d.0.0 c.requires.le_d.1.0 one c.loop-n.before n (omega arith) I.0 c.pass_at.ensures.before_then, T.1)

pub returns : goal.returns
returns c =
    let one : 1 ≤ c.args.shape.k = omega (arith, c.args.shape.shaped.some) in
    let m = c.args.d - 1 in
    let z : c.loop-n.n ≡ m = omega arith in
    let R : ℕ → List ℕ = sent_row c.args.shape.greatest c.args.shape.q c.args.shape.l c.args.shape.k c.args.lines.now c.args.d in
    let r = row-length c.args.shape.greatest c.args.shape.q c.args.shape.l c.args.shape.k c.args.lines.now c.args.d c.requires.le_d.0.0 c.requires.le_d.1.0 one in
    let D = c.first.new.out in
    let T = patch_turn R c.args.shape.l r D c.loop-n.out m (omega (arith, part_room m c.args.d c.args.shape.l (omega arith), c.requires.le_d))
    (c.loop-n.invariant.1 ∙ ap (λ y. blocks R y ++ drop (y * c.args.shape.l) D) z) (row_last c.args.shape.greatest c.args.shape.q c.args.shape.l c.args.shape.k c.args.lines.now c.args.d c.requires.le_d.0.0 c.requires.le_d.1.0 one c.loop-n.before c.loop-n.n z c.loop-n.invariant.0 ∙ ap R z) c.end.ensures in
    rows_are c.args.shape.greatest c.args.shape.q c.args.shape.l c.args.shape.k c.args.lines.now c.args.d c.requires.le_d.0.0 c.requires.le_d.1.0 one (fill_end R c.args.shape.l r D _ (m + 1) c.args.d (omega arith) (omega (arith, c.requires.le_d)) T.1)
