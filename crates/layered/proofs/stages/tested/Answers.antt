-- Each decision is an element (decided-room), so the test may multiply.
use mathlib.Core.Path.{◌≡◌, ap, ap₂, ◌∙◌}
use Prim.Native.Nat.{◌*◌}
use native.Mathlib.Omega.{arith}
use Rattle.codeline.specs.Codes.{lent_code}
use Rattle.trellis.specs.Lists.{tab}
use Rattle.trellis.specs.Check.{decide}
use Rattle.trellis.specs.Rules.{power_of, size_of}
use Rattle.trellis.proofs.Recurrence.{size_64}
use Rattle.machine.specs.CodeLine.{column_of}
use Rattle.layered.specs.inner.Parity.{all_hold}
use Rattle.layered.proofs.Satisfied.{symbols_are, margins_are, settled-by, decided-room}
use Rattle.layered.proofs.stages.tested.Goals as goal

pub symbols_and_margins-requires : goal.symbols_and_margins-requires
symbols_and_margins-requires c =
    let e = c.size-q.ensures.0 in
    let s = c.requires.settled in
    record {
      room = (omega (arith, s.ranged.full, ap₂ (λ a b. a * b) s.symbols e), rw e (size_64 (power_of c.args.code.now.numbers.first) c.args.code.now.coded.good.p-high));
      beside = omega (arith, s.symbols, c.requires.margins);
    }

pub holds-requires : goal.holds-requires
holds-requires c =
    let s = c.requires.settled in
    decided-room c.args.code.now c.args.costs.now c.args.symbols.now _ s (c.symbols_and_margins.ensures.symbols_then ∙ ap₂ (λ q n. tab (λ c₁. (decide (column_of q c.args.costs.now c₁)).symbol) n) c.size-q.ensures.0 s.symbols ∙ symbols_are c.args.code.now c.args.costs.now)

pub returns : goal.returns
returns c =
    let s = c.requires.settled in
    let e = c.symbols_and_margins.ensures.symbols_then ∙ ap₂ (λ q n. tab (λ c₁. (decide (column_of q c.args.costs.now c₁)).symbol) n) c.size-q.ensures.0 s.symbols ∙ symbols_are c.args.code.now c.args.costs.now in
    record {
      test = c.holds.ensures ∙ ap (all_hold (lent_code c.args.code.now)) e ∙ settled-by c.args.code.now c.args.costs.now;
      symbols_then = e;
      margins_then = c.symbols_and_margins.ensures.margins_then ∙ ap₂ (λ q n. tab (λ c₁. (decide (column_of q c.args.costs.now c₁)).margin) n) c.size-q.ensures.0 c.requires.margins ∙ margins_are c.args.code.now c.args.costs.now;
    }
