use mathlib.Core.Path.{sym, subst}
use native.Mathlib.Omega.{arith}
use Rattle.channels.specs.inner.Rounds.{Standing, Rooms}
use Rattle.channels.specs.inner.Layouts.{code_for}
use Rattle.channels.specs.inner.Standing.{standing_of}
use Rattle.channels.proofs.Moves.{load_room, loads_more, loads_done}
use Rattle.channels.proofs.Loads.{loaded_rooms}
use Rattle.channels.proofs.Each.{each_loads}
use Rattle.channels.proofs.standing.Channels.load.Goals as goal

pub load_at-stage-requires : goal.load_at-stage-requires
load_at-stage-requires c =
    let a = c.args in
    load_room a.count a.layout.now a.frames.now (standing_of c.loop-c.self) (record { frames = c.requires.frames; rooms = c.loop-c.invariant.1 }) c.loop-c.c (omega (arith, c.loop-c-test, c.loop-c.auto))

pub loop-c-preserved : goal.loop-c-preserved
loop-c-preserved c =
    let a = c.args in
    let C = code_for a.layout.now in
    let I = c.loop-c.invariant.0 in
    let e = each_loads c.loop-c.self c.loop-c.c C a.frames.now c.from.result _ c.from.ensures _ (c.load_at-stage.ensures c.loop-c.self.store.now) in (
      record { symbols = I.symbols; costs = I.costs; store = I.store; margins = I.margins },
      subst (λ (l : Standing). Rooms C a.count l) (sym e) (loaded_rooms C a.frames.now a.count (standing_of c.loop-c.self) c.loop-c.invariant.1 c.requires.frames c.loop-c.c (omega (arith, c.loop-c-test, c.loop-c.auto))),
      loads_more C a.frames.now c.loop-c.c _ _ _ e c.loop-c.invariant.2,
    )

pub returns-clause-then : goal.returns-clause-then
returns-clause-then c = loads_done (code_for c.args.layout.now) c.args.frames.now c.args.count c.loop-c.c _ _ (omega (arith, c.loop-c-test, c.loop-c.auto)) c.loop-c.invariant.2
