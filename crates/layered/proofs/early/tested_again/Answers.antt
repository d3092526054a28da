-- The columns decided again give the decisions of these costs; without a new symbol the test is what it was.
use native.Mathlib.Omega.{arith}
use Rattle.layered.proofs.Retests.{edges-inside, check_there as check-in, again_asks, again-decided, again-same, again-room, again_tested}
use Rattle.layered.proofs.early.tested_again.Goals as goal

pub bounds-code-m : goal.bounds-code-m
bounds-code-m c =
    check-in c.args.code.now c.args.here c.args.from c.args.costs.now c.args.symbols.now c.requires

pub overflow_add-e : goal.overflow_add-e
overflow_add-e c =
    omega (arith, edges-inside c.args.code.now c.args.here c.args.from c.args.costs.now c.args.symbols.now c.requires c.from-d.result c.from-d.ensures)

pub offset_bounds-code-at : goal.offset_bounds-code-at
offset_bounds-code-at c =
    omega (arith, edges-inside c.args.code.now c.args.here c.args.from c.args.costs.now c.args.symbols.now c.requires c.from-d.result c.from-d.ensures)

pub slice_bounds-decide_again-end : goal.slice_bounds-decide_again-end
slice_bounds-decide_again-end c =
    omega (arith, edges-inside c.args.code.now c.args.here c.args.from c.args.costs.now c.args.symbols.now c.requires c.from-d.result c.from-d.ensures)

pub decide_again-requires : goal.decide_again-requires
decide_again-requires c =
    again_asks c.args.code.now c.args.here c.args.from c.args.costs.now c.args.symbols.now c.requires c.from-d.result c.from-d.ensures c.size-q.result c.size-q.ensures.0

pub returns-then-decide_again-eq0 : goal.returns-then-decide_again-eq0
returns-then-decide_again-eq0 c =
    record {
      test = again-same c.args.code.now c.args.here c.args.from c.args.costs.now c.args.symbols.now c.requires c.from-d.result c.from-d.ensures c.size-q.result c.size-q.ensures.0 _ c.decide_again.ensures.symbols_then (c.decide_again.ensures.changed c.if-decide_again-eq0.true);
      symbols_then = again-decided c.args.code.now c.args.here c.args.from c.args.costs.now c.args.symbols.now c.requires c.from-d.result c.from-d.ensures c.size-q.result c.size-q.ensures.0 _ c.decide_again.ensures.symbols_then;
    }

pub unsatisfied_from-requires : goal.unsatisfied_from-requires
unsatisfied_from-requires c =
    again-room c.args.code.now c.args.here c.args.from c.args.costs.now c.args.symbols.now c.requires c.from-d.result c.from-d.ensures c.size-q.result c.size-q.ensures.0 _ c.decide_again.ensures.symbols_then

pub returns : goal.returns
returns c =
    record {
      test = again_tested c.args.code.now c.args.here c.args.from c.args.costs.now c.args.symbols.now c.requires c.from-d.result c.from-d.ensures c.size-q.result c.size-q.ensures.0 _ c.decide_again.ensures.symbols_then c.unsatisfied_from.result c.unsatisfied_from.ensures;
      symbols_then = again-decided c.args.code.now c.args.here c.args.from c.args.costs.now c.args.symbols.now c.requires c.from-d.result c.from-d.ensures c.size-q.result c.size-q.ensures.0 _ c.decide_again.ensures.symbols_then;
    }
