-- The field of q = 2 ^ p elements, p from 2 to 6: numbers below q, read as polynomials over GF(2), lowest bit constant. SPEC 1.1, 1.2.
use Rattle.std.specs.Prelude.{cond, [], ◌∷◌, ℕ, zero, suc, ◌*◌, ◌/◌, ◌%◌, ◌^◌, eqb, get_or}
use Rattle.std.specs.Int.Bits.{bit_xor}
use Rattle.trellis.specs.Lists.{up_to, first_of}

-- "Addition is exclusive or." Shut, so that proofs go by its laws alone (proofs/Xor.antt) (SPEC 1.3)
unfoldable pub xor : ℕ → ℕ → ℕ
xor = bit_xor

-- "Products reduce by, in hexadecimal, 7, 0B, 13, 25, 43 for p = 2 to 6." (SPEC 1.1)
abbrev pub polynomial : ℕ → ℕ
polynomial p = get_or (0 ∷ 0 ∷ 0x07 ∷ 0x0B ∷ 0x13 ∷ 0x25 ∷ 0x43 ∷ []) p 0

-- "the first factor is doubled by a shift and reduced by the polynomial": where bit p of the shifted factor is set (SPEC 1.4)
abbrev pub doubled : ℕ → ℕ → ℕ
doubled p a = cond (eqb (a * 2 / 2 ^ p % 2) 1) (xor (a * 2) (polynomial p)) (a * 2)

-- "The product follows its own recurrence, halving the second factor each time: the first factor is doubled .. for the next step, and as
-- it was before doubling it is added where the dropped bit was one." Here with at most n halvings (SPEC 1.4)
abbrev pub product_in : ℕ → ℕ → ℕ → ℕ → ℕ
product_in zero p a b = 0
product_in (suc n) p a b = xor (cond (eqb (b % 2) 1) a 0) (product_in n p (doubled p a) (b / 2))

-- an element has p bits: after p halvings the second factor is 0
abbrev pub product : ℕ → ℕ → ℕ → ℕ
product p a b = product_in p p a b

-- s divided by h: the element that times h is s, by looking at each. For h not 0 there is just one (proofs/Quotients.antt)
unfoldable pub quotient : ℕ → ℕ → ℕ → ℕ
quotient p h s = first_of (λ x. eqb (product p h x) s) (up_to (2 ^ p))
