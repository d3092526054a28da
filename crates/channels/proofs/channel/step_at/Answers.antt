-- The iteration in the channel's parts gives its stage, and the parts are put back.
use mathlib.Core.Path.{refl}
use Rattle.machine.specs.Decoding.{lending}
use Rattle.channels.proofs.Layouts.{step_puts}
use Rattle.channels.proofs.channel.step_at.Goals as goal

pub returns : goal.returns
returns c =
    let a = c.args in
    let e = rw c.from.ensures at c.stage_after.ensures in
    step_puts a.layout.now a.c (lending a.symbols.now a.costs.now a.store.now a.margins.now) c.requires.room.for_symbols c.requires.room.for_costs c.requires.room.for_margins c.requires.room.for_store a.t c.iterated-found.result _ _ _ _ c.iterated-found.ensures.test c.iterated-found.ensures.buffers c.iterated-found.ensures.symbols_then c.iterated-found.ensures.margins_then _ e _ refl
