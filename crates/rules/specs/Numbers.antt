-- A rule in the numbers that travel inside the code.
use Rattle.std.specs.Prelude.{ℕ}
use Rattle.trellis.specs.Rules.{power_of, most_of, greatest_of}
use Rattle.rules.specs.declared.Rule.{Rule}

-- the numbers of a first code byte
abbrev pub rule_read : ℕ → Rule
rule_read f = record { p = power_of f; k = most_of f; greatest = greatest_of f }
