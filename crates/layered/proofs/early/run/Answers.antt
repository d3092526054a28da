-- The first test, then the updates from decisions that do not satisfy every check.
use mathlib.Core.Path.{refl, ap, ◌∙◌, sym}
use Prim.Native.Nat.{◌*◌}
use Rattle.codeline.specs.Codes.{lent_code}
use Rattle.machine.specs.Lent.{lent}
use Rattle.machine.specs.inner.LentEarly.{stop_lent}
use native.Mathlib.Omega.{arith}
use Rattle.layered.proofs.Loans.{same-loans, own-scratch}
use Rattle.layered.proofs.Advances.{stop_first, first-unsettled}
use Rattle.layered.proofs.early.run.Goals as goal

pub settled-requires : goal.settled-requires
settled-requires c =
    record { ranged = c.requires.iterate.running.passable.ranged; symbols = c.requires.symbols }

pub returns-then-settled : goal.returns-then-settled
returns-then-settled c =
    record {
      ends = stop_first (lent_code c.args.code.now) (c.args.code.now.numbers.checks * c.args.code.now.numbers.limit) 0 (lent c.args.b.now.costs.now c.args.b.now.store.now) (sym c.settled.ensures.test ∙ c.if-settled.true);
      symbols_then = c.settled.ensures.symbols_then;
      loans = record { symbols = refl; costs = refl; store = refl; margins = refl; symbols_length = omega (arith, c.settled.auto); costs_length = refl; store_length = refl; margins_length = refl };
      scratch = own-scratch;
    }

pub go_on-requires : goal.go_on-requires
go_on-requires c =
    record { unsettled = first-unsettled c.args.code.now c.args.b.now.costs.now c.args.b.now.store.now c.args.b.now.symbols.now c.args.room.now.arrived.now c.args.room.now.sent.now c.requires _ c.settled.ensures.symbols_then (sym c.settled.ensures.test ∙ c.if-settled.false); arrived = c.requires.iterate.arrived; sent = c.requires.iterate.sent }

pub returns : goal.returns
returns c =
    record {
      ends = c.go_on.ensures.ends ∙ ap (λ n. stop_lent (lent_code c.args.code.now) n 0 (lent c.args.b.now.costs.now c.args.b.now.store.now)) c.most_updates-most.ensures;
      symbols_then = c.go_on.ensures.symbols_then;
      loans = same-loans record { symbols = refl; costs = refl; store = refl; margins = refl; symbols_length = omega (arith, c.settled.auto); costs_length = refl; store_length = refl; margins_length = refl } c.go_on.ensures.loans;
      scratch = c.go_on.ensures.scratch;
    }
