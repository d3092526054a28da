-- What a public call answers, as the specification numbers it. Each answer that is an enum has a definition that gives its reply by cases.
use Rattle.std.specs.Prelude.{Bool, true, false, ℕ}

-- whether the call is refused; the specification's number (0 accepted or found, 1 not found, else the refusal's); and the value: the product,
-- the bytes written, or the iterations
pub record Reply : Type 0 where
  pub refused : Bool
  pub number : ℕ
  pub value : ℕ

abbrev pub accepted : ℕ → Reply
accepted v = record { refused = false; number = 0; value = v }

-- "A refusal returns its number with t = 0"
abbrev pub refusal : ℕ → Reply
refusal n = record { refused = true; number = n; value = 0 }

-- "The result is found (0) or not found (1), with t"
abbrev pub found_in : ℕ → Reply
found_in t = record { refused = false; number = 0; value = t }

abbrev pub not_found_in : ℕ → Reply
not_found_in t = record { refused = false; number = 1; value = t }
