-- The iteration's stage taken into the registers.
use native.Mathlib.Omega.{arith}
use Rattle.machine.specs.Decoding.{lending}
use Rattle.layered.specs.Answers.{stage_of}
use Rattle.window.specs.Meaning.{bytes_of}
use Rattle.window.proofs.Taking.{iteration_taken}
use Rattle.window.proofs.commands.iterated.Goals as goal

pub returns : goal.returns
returns c =
    let a = c.args in
    iteration_taken a.code.now a.frame.now (lending a.symbols.now a.costs.now a.store.now a.margins.now) _ (stage_of c.step-stage.result) (bytes_of a.window) (bytes_of c.taking.result) c.step-stage.ensures c.taking.ensures (omega (arith, c.if-window.false)) (omega (arith, c.if-window.false))
