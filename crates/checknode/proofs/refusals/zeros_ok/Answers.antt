use mathlib.Core.Path.{ap, ap₂, ◌∙◌}
use mathlib.Core.Bool.{◌&&◌}
use mathlib.Core.List.{[], ◌∷◌}
use native.Mathlib.Numerals.{add-one}
use native.Mathlib.Omega.{arith}
use lib.ListN.{length, length-append}
use Rattle.trellis.specs.Lists.{all_to}
use Rattle.checknode.specs.Answers.{zero_ok}
use Rattle.checknode.proofs.Zeros.{zeros_step, zeros_more, zeros_end, zero_turn}
use Rattle.checknode.proofs.refusals.zeros_ok.Goals as goal

pub loop-column-preserved : goal.loop-column-preserved
loop-column-preserved c =
    let a = c.args in
    let i = c.loop-column in
    let s = c.in-Some.ensures.steps in
    let x = c.in-Some.column in
    let l = s.1.1 ∙ i.invariant.1.1.1 in
    let t = zeros_step a.costs.now i.column-iterator.rest.now c.next.new.self.rest.now x.now (length i.yielded) a.q i.invariant.1.1.0 s.1.0 l in
    let e = length-append i.yielded (x ∷ []) in
    rw (e, add-one (length i.yielded)) (ap₂ ◌&&◌ i.invariant.0 (zero_turn a.costs.now x.now (length i.yielded) a.q t.0 l c.has_zero-ok.ensures), ((λ d h. omega (arith, zeros_more a.costs.now i.column-iterator.rest.now c.next.new.self.rest.now x.now (length i.yielded) d a.q c.requires (i.invariant.1.0 d h) h i.invariant.1.1.0 s.1.0 l)), (rw (add-one (length i.yielded)) at t.1, s.0 ∙ i.invariant.1.1.1)))

pub returns : goal.returns
returns c d h =
    let a = c.args in
    let i = c.loop-column in
    let s = c.in-None.ensures.steps in
    i.invariant.0 ∙ ap (all_to (zero_ok a.q a.costs.now)) (zeros_end a.costs.now i.column-iterator.rest.now (length i.yielded) d a.q (i.invariant.1.0 d h) h i.invariant.1.1.0 (omega (arith, s.1.0, i.invariant.1.1.1)))
