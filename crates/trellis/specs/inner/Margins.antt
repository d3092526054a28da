-- A margin as a loop finds it; proofs/Margins.antt shows that it is the decision's.
use Rattle.std.specs.Prelude.{List, ℕ, min, eqb, ltb, length, get_or}
use Rattle.trellis.specs.Lists.{pick, upto}

-- the least of the first n costs but the one at place z, from a number b that none of them passes
unfoldable pub least_but : ℕ → List ℕ → ℕ → ℕ → ℕ
least_but b l z n = upto (λ k a. min a (pick (eqb k z) b (get_or l k 0))) n b

-- the same of all costs; 0 where there is no other
unfoldable pub margin_at : ℕ → List ℕ → ℕ → ℕ
margin_at b l z = pick (ltb (length l) 2) 0 (least_but b l z (length l))
