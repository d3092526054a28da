-- Each call's equation is one hypothesis of update_is; the lengths that the calls ask for are kept by the calls before them.
use native.Mathlib.Omega.{arith}
use Rattle.layered.proofs.Updates.{gather_fits, send_fits, scatter_fits, update_is}
use Rattle.layered.proofs.update.update.Goals as goal

pub gather-requires : goal.gather-requires
gather-requires c =
    rw c.from-g.ensures (gather_fits c.args.numbers.first c.args.numbers.scale c.args.start c.args.columns.now c.args.weights.now c.args.costs.now c.args.bytes.now c.args.arrived.now c.args.sent.now c.requires c.size-q.result c.recall.new.out c.size-q.ensures.0 (omega (arith, c.recall.auto)))

pub send-requires : goal.send-requires
send-requires c =
    send_fits c.args.numbers.first c.args.numbers.scale c.args.start c.args.columns.now c.args.weights.now c.args.costs.now c.args.bytes.now c.args.arrived.now c.args.sent.now c.requires c.size-q.result c.recall.new.out c.gather.new.out c.recall.new.out c.size-q.ensures.0 c.recall.ensures (rw c.from-g.ensures at c.gather.ensures) (omega (arith, c.recall.auto))

pub scatter-requires : goal.scatter-requires
scatter-requires c =
    rw c.from-g.ensures (scatter_fits c.args.numbers.first c.args.numbers.scale c.args.start c.args.columns.now c.args.weights.now c.args.costs.now c.args.bytes.now c.args.arrived.now c.args.sent.now c.requires c.size-q.result c.gather.new.out c.send.new.out c.size-q.ensures.0 (omega (arith, c.gather.auto)) (omega (arith, c.send.auto, c.recall.auto)))

pub returns : goal.returns
returns c =
    record {
      costs_then = (update_is c.args.numbers.first c.args.numbers.scale c.args.start c.args.columns.now c.args.weights.now c.args.costs.now c.args.bytes.now c.args.arrived.now c.args.sent.now c.requires c.size-q.result c.recall.new.out c.gather.new.out _ _ _ c.size-q.ensures.0 c.recall.ensures (rw c.from-g.ensures at c.gather.ensures) c.send.ensures.bytes_then c.send.ensures.out_then (rw c.from-g.ensures at c.scatter.ensures)).0;
      bytes_then = (update_is c.args.numbers.first c.args.numbers.scale c.args.start c.args.columns.now c.args.weights.now c.args.costs.now c.args.bytes.now c.args.arrived.now c.args.sent.now c.requires c.size-q.result c.recall.new.out c.gather.new.out _ _ _ c.size-q.ensures.0 c.recall.ensures (rw c.from-g.ensures at c.gather.ensures) c.send.ensures.bytes_then c.send.ensures.out_then (rw c.from-g.ensures at c.scatter.ensures)).1;
    }
