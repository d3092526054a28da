use mathlib.Core.Path.{ap}
use native.Mathlib.Omega.{arith}
use Rattle.channels.specs.inner.Rounds.{Standing}
use Rattle.channels.specs.inner.Layouts.{code_for}
use Rattle.channels.specs.inner.Standing.{standing_of}
use Rattle.channels.proofs.Each.{ran, ran_left}
use Rattle.channels.proofs.standing.Channels.run.Goals as goal

pub overflow_sub-spent : goal.overflow_sub-spent
overflow_sub-spent c =
    let a = c.args in
    let C = code_for a.layout.now in
    let e = ran C a.frames.now a.count (standing_of a.self.now) (standing_of c.load.new.self) (standing_of c.serve.new.self) c.load.ensures.then c.serve.ensures.then in
    omega (arith, ap (λ (l : Standing). l.left) e, ran_left C a.frames.now a.count (standing_of a.self.now))

pub overflow_cast-spent : goal.overflow_cast-spent
overflow_cast-spent c =
    let a = c.args in
    let e = ran (code_for a.layout.now) a.frames.now a.count (standing_of a.self.now) (standing_of c.load.new.self) (standing_of c.serve.new.self) c.load.ensures.then c.serve.ensures.then in
    omega (arith, ap (λ (l : Standing). l.left) e, c.requires.spent)

pub returns-clause-then : goal.returns-clause-then
returns-clause-then c =
    let a = c.args in
    ran (code_for a.layout.now) a.frames.now a.count (standing_of a.self.now) (standing_of c.load.new.self) (standing_of c.serve.new.self) c.load.ensures.then c.serve.ensures.then
