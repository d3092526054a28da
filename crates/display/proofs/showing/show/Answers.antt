use mathlib.Core.Path.{◌≡◌, sym, ap, ◌∙◌}
use native.Mathlib.Omega.{arith}
use lib.ListN.{length}
use Rattle.std.proofs.lemmas.List.{take_all}
use Rattle.trellis.specs.Lists.{tab}
use Rattle.display.proofs.Shown.{divided_at, shown_done}
use Rattle.display.proofs.showing.show.Goals as goal

pub returns : goal.returns
returns c =
    let a = c.args in
    let n = c.loop-n.n in
    let i = c.loop-n.invariant in
    let e : n ≡ length a.out.now = omega (arith, i.0) in
    shown_done a.p a.weights.now a.bytes.now a.out.now c.loop-n.out c.requires (sym (take_all n c.loop-n.out (omega (arith, i.0))) ∙ i.1 ∙ ap (tab (divided_at a.p a.weights.now a.bytes.now)) e)
