-- Each return is one case of the definition.
use mathlib.Core.Path.{ap, ◌∙◌}
use mathlib.Core.Logic.{◌≢◌}
use Prim.Native.Nat.{◌+◌}
use native.Mathlib.Omega.{arith}
use lib.ListN.{length}
use Rattle.rules.specs.declared.Rule.{Rule}
use Rattle.expansion.proofs.Forming.{form-length, form-shifts, form_groups}
use Rattle.expansion.proofs.form.record_ok.Goals as goal
use Rattle.expansion.proofs.form.record_ok.Goals.{then-r-groups-via-then-r-groups, then-r-groups-via-else-r-groups+then-r-groups-2}

pub returns-then-r-groups : goal.returns-then-r-groups
returns-then-r-groups c =
    let a = c.args in
    let n : length a.r.now ≢ a.d + c.groups-groups.result =
    elim c.then-r-groups.branch [
      | then-r-groups-via-then-r-groups w ↦ λ e. omega (arith, w.if-r-groups.true)
      | then-r-groups-via-else-r-groups+then-r-groups-2 w ↦ λ e. w.if-r-groups-2.true (omega arith)
    ] in
    form-length a.first a.d a.r.now (ap (λ n. a.d + n) c.groups-groups.ensures) n

pub returns-then-shifts_ok : goal.returns-then-shifts_ok
returns-then-shifts_ok c =
    let a = c.args in
    form_groups a.first a.d a.r.now (ap (λ n. a.d + n) c.groups-groups.ensures) (omega (arith, c.if-r-groups.false, c.if-r-groups-2.false)) c.size-q.ensures.0 c.shifts_ok.ensures c.if-shifts_ok.true (c.from.ensures ∙ ap (λ (r : Rule). r.k) c.rule_of-rule.ensures) c.groups_ok.ensures

pub returns-else-shifts_ok : goal.returns-else-shifts_ok
returns-else-shifts_ok c =
    let a = c.args in
    c.if-shifts_ok.false ∙ form-shifts a.first a.d a.r.now (ap (λ n. a.d + n) c.groups-groups.ensures) (omega (arith, c.if-r-groups.false, c.if-r-groups-2.false)) c.size-q.ensures.0 c.shifts_ok.ensures c.if-shifts_ok.false
