use mathlib.Core.Path.{◌≡◌, ap, ◌∙◌}
use mathlib.Core.List.{◌++◌}
use Prim.Native.Nat.{suc, ◌-◌, ◌*◌}
use native.Mathlib.Omega.{arith}
use lib.ListN.{take, drop}
use Rattle.tables.specs.inner.Tables.{grown_list, sent_to}
use Rattle.tables.proofs.Growing.{half_start, half_turn, half_end}
use Rattle.tables.proofs.Passing.{met_turn}
use Rattle.tables.proofs.rows.pass.Goals as goal

pub loop-j-init : goal.loop-j-init
loop-j-init c =
    let k = c.args.shape.k in
    let z : 0 ≡ k - k = omega arith in
    (omega (arith, c.args.shape.shaped.some), (half_start c.args.shape.greatest c.args.shape.q c.args.shape.l c.args.shape.k c.args.line.now c.args.before.now c.requires.before_len.0 (k - 1) (omega (arith, c.args.shape.shaped.some)), c.apart.ensures ∙ ap (sent_to c.args.shape.greatest c.args.shape.q c.args.shape.l c.args.shape.k c.args.before.now c.args.after.now) z))

pub loop-j-preserved : goal.loop-j-preserved
loop-j-preserved c =
    let k = c.args.shape.k in
    let i = c.loop-j.j - 1 in
    let I = c.loop-j.invariant.1 in
    let S = sent_to c.args.shape.greatest c.args.shape.q c.args.shape.l c.args.shape.k c.args.before.now c.args.after.now in
    let y : k - c.loop-j.j ≡ k - 1 - i = omega arith in
    let z : k - 1 - (i - 1) ≡ k - i = omega arith in
    let t = half_turn c.args.shape.greatest c.args.shape.q c.args.shape.l c.args.shape.k c.args.line.now c.args.before.now c.requires.before_len.0 (i - 1) i c.loop-j.before (omega arith) (omega arith) I.0 c.rise_both.ensures.before_then in
    let u = met_turn c.args.shape.greatest c.args.shape.q c.args.shape.l c.args.shape.k c.args.line.now c.args.before.now c.requires.before_len.0 c.args.after.now c.loop-j.before c.loop-j.out i (omega arith) (omega arith) I.0 (I.1 ∙ ap S y) c.rise_both.ensures.out_then in
    (omega arith, (t, u ∙ ap S z))

pub returns-clause-before_then : goal.returns-clause-before_then
returns-clause-before_then c =
    let z : c.loop-j.j - 1 ≡ 0 = omega arith in
    half_end c.args.shape.greatest c.args.shape.q c.args.shape.l c.args.shape.k c.args.line.now c.args.before.now c.requires.before_len.0 c.loop-j.before (omega (arith, c.args.shape.shaped.some))
    (c.loop-j.invariant.1.0 ∙ ap (λ y. take (suc y * c.args.shape.l) c.args.before.now ++ drop (suc y * c.args.shape.l) (grown_list c.args.shape.greatest c.args.shape.q c.args.shape.l c.args.shape.k c.args.line.now c.args.before.now)) z)
    c.raise.ensures

pub returns-clause-out_then : goal.returns-clause-out_then
returns-clause-out_then c =
    let z : c.args.shape.k - c.loop-j.j ≡ c.args.shape.k - 1 = omega (arith, c.loop-j.invariant.0) in
    c.loop-j.invariant.1.1 ∙ ap (sent_to c.args.shape.greatest c.args.shape.q c.args.shape.l c.args.shape.k c.args.before.now c.args.after.now) z
