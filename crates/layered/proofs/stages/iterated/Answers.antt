-- What an iteration leaves may be tested.
use mathlib.Core.Path.{refl}
use Rattle.layered.proofs.Steps.{after-room}
use Rattle.layered.proofs.stages.iterated.Goals as goal

pub tested-requires : goal.tested-requires
tested-requires c =
    after-room c.args.code.now c.args.costs.now c.args.store.now c.args.symbols.now c.args.margins.now c.args.arrived.now c.args.sent.now c.args.start c.requires _ _ _ _ c.iterate.ensures.buffers refl refl

pub returns : goal.returns
returns c =
    record {
      test = c.tested.ensures.test;
      buffers = c.iterate.ensures.buffers;
      symbols_then = c.tested.ensures.symbols_then;
      margins_then = c.tested.ensures.margins_then;
    }
