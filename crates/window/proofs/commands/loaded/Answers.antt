-- The load's stage taken into the registers at t = 0.
use Rattle.machine.specs.Decoding.{lending}
use Rattle.layered.specs.Answers.{stage_of}
use Rattle.window.specs.Meaning.{bytes_of}
use Rattle.window.proofs.Taking.{loaded}
use Rattle.window.proofs.commands.loaded.Goals as goal

pub returns : goal.returns
returns c =
    let a = c.args in
    loaded a.code.now a.frame.now (lending a.symbols.now a.costs.now a.store.now a.margins.now) _ (stage_of c.load-stage.result) (bytes_of a.window) (bytes_of c.taking.result) c.load-stage.ensures c.taking.ensures
