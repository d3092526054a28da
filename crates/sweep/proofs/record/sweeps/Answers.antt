-- Each sweep leaves its table; what stands in a table is kept.
use Rattle.sweep.proofs.Sending.{kept_tables}
use Rattle.sweep.proofs.record.sweeps.Goals as goal

pub returns : goal.returns
returns c =
    record {
      swept = record { of_before = c.fill.ensures; of_after = c.fill-2.ensures };
      kept = kept_tables c.args.check.now.first c.args.check.now.weights.now c.args.check.now.costs.now c.args.check.now.ready (c.args.check.now.bytes) record { of_before = c.fill.ensures; of_after = c.fill-2.ensures };
    }
