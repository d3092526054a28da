use mathlib.Core.Path.{◌≡◌, ◌∙◌}
use Prim.Native.Nat.{◌-◌}
use native.Mathlib.Omega.{arith}
use lib.Dec.{eqb}
use Rattle.codeline.specs.Codes.{lent_code}
use Rattle.machine.specs.Lent.{lent}
use Rattle.layered.proofs.Iterations.{run_found, run_end, run_more}
use Rattle.layered.proofs.Loans.{own-loans, own-scratch, same-scratch}
use Rattle.layered.proofs.Runs.{next-running, test_room}
use Rattle.layered.proofs.iterate.run.Goals as goal

pub loop-limit-init : goal.loop-limit-init
loop-limit-init c =
    let z : c.args.code.now.numbers.limit - 0 ≡ c.args.code.now.numbers.limit = omega arith in (omega arith, (c.requires.iterate.running, (rw z, (own-loans, own-scratch))))

pub settled-requires : goal.settled-requires
settled-requires c =
    test_room c.args.code.now c.loop-limit.b.costs.now c.loop-limit.b.store.now (eqb c.loop-limit.t 0) c.loop-limit.invariant.1.0 c.loop-limit.b.symbols.now (c.loop-limit.invariant.1.1.1.0.symbols_length ∙ c.requires.symbols)

pub returns-then-settled : goal.returns-then-settled
returns-then-settled c =
    record {
      ends = run_found (lent_code c.args.code.now) c.args.code.now.numbers.limit c.loop-limit.t (lent c.loop-limit.b.costs.now c.loop-limit.b.store.now) (lent c.args.b.now.costs.now c.args.b.now.store.now) c.settled.result c.settled.ensures.test c.loop-limit.invariant.1.1.0 c.if-settled.true;
      symbols_then = c.settled.ensures.symbols_then;
      loans = record { symbols = c.loop-limit.invariant.1.1.1.0.symbols; costs = c.loop-limit.invariant.1.1.1.0.costs; store = c.loop-limit.invariant.1.1.1.0.store; margins = c.loop-limit.invariant.1.1.1.0.margins; symbols_length = omega (arith, c.settled.auto, c.loop-limit.invariant.1.1.1.0.symbols_length); costs_length = c.loop-limit.invariant.1.1.1.0.costs_length; store_length = c.loop-limit.invariant.1.1.1.0.store_length; margins_length = c.loop-limit.invariant.1.1.1.0.margins_length };
      scratch = c.loop-limit.invariant.1.1.1.1;
    }

pub returns-then-t-limit : goal.returns-then-t-limit
returns-then-t-limit c =
    record {
      ends = run_end (lent_code c.args.code.now) c.args.code.now.numbers.limit c.loop-limit.t (lent c.loop-limit.b.costs.now c.loop-limit.b.store.now) (lent c.args.b.now.costs.now c.args.b.now.store.now) c.settled.result c.settled.ensures.test c.loop-limit.invariant.1.1.0 c.if-settled.false (c.if-t-limit.true ∙ c.from-limit.ensures);
      symbols_then = c.settled.ensures.symbols_then;
      loans = record { symbols = c.loop-limit.invariant.1.1.1.0.symbols; costs = c.loop-limit.invariant.1.1.1.0.costs; store = c.loop-limit.invariant.1.1.1.0.store; margins = c.loop-limit.invariant.1.1.1.0.margins; symbols_length = omega (arith, c.settled.auto, c.loop-limit.invariant.1.1.1.0.symbols_length); costs_length = c.loop-limit.invariant.1.1.1.0.costs_length; store_length = c.loop-limit.invariant.1.1.1.0.store_length; margins_length = c.loop-limit.invariant.1.1.1.0.margins_length };
      scratch = c.loop-limit.invariant.1.1.1.1;
    }

pub iterate-requires : goal.iterate-requires
iterate-requires c =
    record { running = c.loop-limit.invariant.1.0; arrived = omega (arith, c.requires.iterate.arrived, c.loop-limit.invariant.1.1.1.1.arrived_length); sent = omega (arith, c.requires.iterate.sent, c.loop-limit.invariant.1.1.1.1.sent_length) }

pub overflow_add-t : goal.overflow_add-t
overflow_add-t c =
    omega (arith, c.loop-limit.invariant.0, c.if-t-limit.false, c.from-limit.ensures)

pub loop-limit-smaller : goal.loop-limit-smaller
loop-limit-smaller c =
    omega (arith, c.loop-limit.invariant.0, c.if-t-limit.false, c.from-limit.ensures)

pub loop-limit-preserved : goal.loop-limit-preserved
loop-limit-preserved c =
    (omega (arith, c.loop-limit.invariant.0, c.if-t-limit.false, c.from-limit.ensures), (next-running c.args.code.now c.loop-limit.b.costs.now c.loop-limit.b.store.now (eqb c.loop-limit.t 0) c.loop-limit.invariant.1.0 _ _ c.loop-limit.t c.iterate.ensures.buffers, (run_more (lent_code c.args.code.now) c.args.code.now.numbers.limit c.loop-limit.t (lent c.loop-limit.b.costs.now c.loop-limit.b.store.now) (lent c.args.b.now.costs.now c.args.b.now.store.now) c.settled.result c.settled.ensures.test c.loop-limit.invariant.1.1.0 c.if-settled.false (omega (arith, c.loop-limit.invariant.0, c.if-t-limit.false, c.from-limit.ensures)) _ c.iterate.ensures.buffers, (record { symbols = c.loop-limit.invariant.1.1.1.0.symbols; costs = c.loop-limit.invariant.1.1.1.0.costs; store = c.loop-limit.invariant.1.1.1.0.store; margins = c.loop-limit.invariant.1.1.1.0.margins; symbols_length = omega (arith, c.settled.auto, c.loop-limit.invariant.1.1.1.0.symbols_length); costs_length = omega (arith, c.iterate.auto, c.loop-limit.invariant.1.1.1.0.costs_length); store_length = omega (arith, c.iterate.auto, c.loop-limit.invariant.1.1.1.0.store_length); margins_length = c.loop-limit.invariant.1.1.1.0.margins_length }, same-scratch c.loop-limit.invariant.1.1.1.1 c.iterate.ensures.scratch))))
