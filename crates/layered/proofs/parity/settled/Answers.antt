-- Each decision is an element (decided-room), so the test may multiply.
use mathlib.Core.Path.{◌≡◌, ap, ap₂, ◌∙◌}
use Prim.Native.Nat.{◌*◌}
use native.Mathlib.Omega.{arith}
use Rattle.codeline.specs.Codes.{lent_code}
use Rattle.trellis.specs.Lists.{tab}
use Rattle.trellis.specs.Check.{decide}
use Rattle.trellis.specs.Rules.{power_of, size_of}
use Rattle.trellis.proofs.Recurrence.{size_64}
use Rattle.machine.specs.CodeLine.{column_of}
use Rattle.layered.specs.inner.Parity.{all_hold}
use Rattle.layered.proofs.Satisfied.{symbols_are, settled-by, decided-room}
use Rattle.layered.proofs.parity.settled.Goals as goal

pub decisions-requires : goal.decisions-requires
decisions-requires c =
    let e : c.size.result ≡ size_of c.args.code.now.numbers.first = c.size.ensures.0 in (omega (arith, c.requires.ranged.full, ap₂ (λ a b. a * b) c.requires.symbols e), rw e (size_64 (power_of c.args.code.now.numbers.first) c.args.code.now.coded.good.p-high))

pub holds-requires : goal.holds-requires
holds-requires c =
    decided-room c.args.code.now c.args.costs.now c.args.symbols.now _ c.requires (c.decisions.ensures ∙ ap₂ (λ q n. tab (λ c₁. (decide (column_of q c.args.costs.now c₁)).symbol) n) c.size.ensures.0 c.requires.symbols ∙ symbols_are c.args.code.now c.args.costs.now)

pub returns : goal.returns
returns c =
    record {
      test = c.holds.ensures ∙ ap (all_hold (lent_code c.args.code.now)) (c.decisions.ensures ∙ ap₂ (λ q n. tab (λ c₁. (decide (column_of q c.args.costs.now c₁)).symbol) n) c.size.ensures.0 c.requires.symbols ∙ symbols_are c.args.code.now c.args.costs.now) ∙ settled-by c.args.code.now c.args.costs.now;
      symbols_then = (c.decisions.ensures ∙ ap₂ (λ q n. tab (λ c₁. (decide (column_of q c.args.costs.now c₁)).symbol) n) c.size.ensures.0 c.requires.symbols ∙ symbols_are c.args.code.now c.args.costs.now);
    }
