-- The margins have as many columns as the symbols, whose costs the run keeps in number.
use mathlib.Core.Path.{refl, ◌≡◌, ap₂, ◌∙◌}
use Prim.Native.Nat.{◌*◌}
use native.Mathlib.Omega.{arith}
use Rattle.trellis.specs.Lists.{tab}
use Rattle.trellis.specs.Check.{decide}
use Rattle.trellis.specs.Rules.{size_of}
use Rattle.machine.specs.CodeLine.{column_of}
use Rattle.layered.proofs.Loans.{same-loans}
use Rattle.layered.proofs.Satisfied.{margins_are}
use Rattle.layered.proofs.decoding.run_to_margins.Goals as goal

pub margins-requires : goal.margins-requires
margins-requires g c =
    let e : c.size.result ≡ size_of c.args.code.now.numbers.first = c.size.ensures.0 in omega (arith, c.run-o.ensures.loans.costs_length, c.requires.0.iterate.running.passable.ranged.full, ap₂ (λ a b. a * b) (c.run-o.ensures.loans.margins_length ∙ c.requires.1) e)

pub returns : goal.returns
returns g c =
    record {
      loans = same-loans c.run-o.ensures.loans record { symbols = refl; costs = refl; store = refl; margins = refl; symbols_length = refl; costs_length = refl; store_length = refl; margins_length = omega (arith, c.margins.auto) };
      scratch = c.run-o.ensures.scratch;
      ends = c.run-o.ensures.ends;
      symbols_then = c.run-o.ensures.symbols_then;
      margins_then = c.margins.ensures ∙ ap₂ (λ q n. tab (λ c₁. (decide (column_of q c.run-o.new.b.costs.now c₁)).margin) n) c.size.ensures.0 (c.run-o.ensures.loans.margins_length ∙ c.requires.1) ∙ margins_are c.args.code.now c.run-o.new.b.costs.now;
    }
