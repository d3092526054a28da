use mathlib.Core.Path.{◌≡◌, refl, sym, ap, ◌∙◌}
use mathlib.Core.Bool.{false}
use Prim.Native.Nat.{◌+◌, ◌-◌, ◌*◌}
use native.Mathlib.Omega.{arith}
use lib.ListN.{get_or}
use Rattle.trellis.specs.Lists.{pick}
use Rattle.expansion.proofs.Forming.{last_test, pairs-more, pairs-none}
use Rattle.expansion.proofs.form.pairs_ok.Goals as goal

pub loop-j-preserved : goal.loop-j-preserved
loop-j-preserved c =
    let a = c.args in
    let j = c.loop-j.j in
    let n : a.k - j - 1 ≡ a.k - (j + 1) = omega arith in
    let p : a.at + 1 + 2 * j + 2 ≡ a.at + 1 + 2 * (j + 1) = omega arith in
    c.loop-j.invariant
    ∙ pairs-more (a.k - j) a.r.now (a.at + 1 + 2 * j) (get_or a.r.now a.at 0) a.d c.loop-j.low c.loop-j.ok (omega arith) c.from-column.ensures c.pair_ok-ok.ensures
    ∙ rw (n, p) refl

pub returns : goal.returns
returns c =
    let z : c.args.k - c.loop-j.j ≡ 0 = omega arith in
    last_test c.loop-j.ok ∙ sym (c.loop-j.invariant ∙ ap (λ b. pick c.loop-j.ok b false) (pairs-none _ _ _ _ _ _ z))
