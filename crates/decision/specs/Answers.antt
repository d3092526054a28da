-- The reply, whatever the width of the costs.
use Rattle.std.specs.Prelude.{◌≡◌, List, ℕ, ◌≤◌, length}
use Rattle.trellis.specs.Check.{decide}
use Rattle.decision.specs.declared.answers.Decision.{Decision}

-- the decision's symbol and margin; the symbol is at most the number of costs
abbrev pub Decides : List ℕ → Decision → Type 0
Decides l r = ((r.symbol ≡ (decide l).symbol) × (r.margin ≡ (decide l).margin)) × (r.symbol ≤ length l)
