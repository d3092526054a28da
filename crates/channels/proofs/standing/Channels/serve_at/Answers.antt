-- Skipped, or one iteration in the channel's parts.
use mathlib.Core.Path.{sym, ◌∙◌}
use native.Mathlib.Omega.{arith}
use borrow.Author.Tests.{eqb-true}
use Rattle.channels.specs.inner.Layouts.{code_for}
use Rattle.channels.specs.inner.Standing.{standing_of}
use Rattle.channels.proofs.Moves.{count_low}
use Rattle.channels.proofs.Each.{status_is, count_is, each_skips, each_spent, each_asks, each_moves}
use Rattle.channels.proofs.standing.Channels.serve_at.Goals as goal

pub returns-then-not-is_running-clause-then : goal.returns-then-not-is_running-clause-then
returns-then-not-is_running-clause-then c =
    each_skips c.args.self.now c.args.c (code_for c.args.layout.now) (sym c.is_running.ensures ∙ c.if-not-is_running.true)

pub returns-then-self-eq0-clause-then : goal.returns-then-self-eq0-clause-then
returns-then-self-eq0-clause-then c =
    each_spent c.args.self.now c.args.c (code_for c.args.layout.now) (sym c.is_running.ensures ∙ c.if-not-is_running.false) c.if-self-eq0.true

pub step_at-stage-requires : goal.step_at-stage-requires
step_at-stage-requires c =
    let a = c.args in
    each_asks a.self.now a.c c.requires.count a.layout.now a.arrived.now a.sent.now c.requires.room c.requires.inside (sym c.is_running.ensures ∙ c.if-not-is_running.false)

pub overflow_add-self : goal.overflow_add-self
overflow_add-self c =
    let a = c.args in
    let e = sym c.is_running.ensures ∙ c.if-not-is_running.false in
    omega (arith, count_is a.self.now a.c, count_low c.requires.count a.layout.now (standing_of a.self.now) a.arrived.now a.sent.now c.requires.room a.c c.requires.inside (status_is a.self.now a.c ∙ eqb-true _ _ e), a.layout.now.limit_is_byte)

pub returns-clause-then : goal.returns-clause-then
returns-clause-then c =
    each_moves c.args.self.now c.args.c (code_for c.args.layout.now) (sym c.is_running.ensures ∙ c.if-not-is_running.false) c.if-self-eq0.false c.from.result _ c.from.ensures _ c.step_at-stage.ensures
