-- What each public call replies and leaves, refused calls included: the specification's refusals in their order. SPEC 7, 8.
use Rattle.std.specs.Prelude.{Bool, false, not, ◌&&◌, List, [], ◌∷◌, ℕ, ◌*◌, ◌^◌, ltb, eqb, leb, length, get_or}
use Rattle.trellis.specs.Lists.{tab, blocks, pick, all_to}
use Rattle.trellis.specs.Field.{product}
use Rattle.trellis.specs.Rules.{first_ok, size_of}
use Rattle.trellis.specs.Refusals.{Test, when, unless, refused_by}
use Rattle.trellis.specs.Reply.{Reply, accepted, refusal}
use Rattle.trellis.specs.Sizes.{most_degree}

-- "Product: 6, 11." "a weight or element not below q (0 is allowed in the product)" (SPEC 8.7)
unfoldable pub product_reply : ℕ → ℕ → ℕ → Reply
product_reply p a b =
    refused_by
    (when (ltb p 2) 6
    ∷ when (ltb 6 p) 6
    ∷ when (leb (2 ^ p) a) 11
    ∷ when (leb (2 ^ p) b) 11
    ∷ [])
    refusal (accepted (product p a b))

-- "weight 0, or a weight .. not below q" is refused by 11 (SPEC 8.5)
unfoldable pub weight_ok : ℕ → ℕ → Bool
weight_ok q h = pick (eqb h 0) false (ltb h q)

abbrev pub weights_ok : ℕ → List ℕ → Bool
weights_ok q ws = all_to (λ i. weight_ok q (get_or ws i 0)) (length ws)

-- what a check and an expansion have in common, "6, 9, 11". The degree is the number of weights (SPEC 8.5, 8.6)
abbrev pub weight_tests : ℕ → List ℕ → List Test
weight_tests f ws =
    when (not (first_ok f)) 6
    ∷ when (ltb (length ws) 2) 9
    ∷ when (ltb most_degree (length ws)) 9
    ∷ unless (weights_ok (size_of f) ws) 11
    ∷ []

abbrev pub weight_cases {ℓ} : {A : Type ℓ} → ℕ → List ℕ → (ℕ → A) → A → A
weight_cases f ws bad rest = refused_by (weight_tests f ws) bad rest

-- the number of the first refusal of the first byte and the weights, 0 for none
unfoldable pub weights_fault : ℕ → List ℕ → ℕ
weights_fault f ws = weight_cases f ws (λ k. k) 0

-- each weight is an element; 0 is allowed
abbrev pub elements_ok : ℕ → List ℕ → Bool
elements_ok q ws = all_to (λ i. ltb (get_or ws i 0) q) (length ws)

-- the products of weight n with every symbol
abbrev pub row_of : ℕ → List ℕ → ℕ → List ℕ
row_of p ws n = tab (product p (get_or ws n 0)) (2 ^ p)

-- p is 2 to 6, there are at most 32 weights, all of them elements, and their products take `room` bytes
unfoldable pub rows_fit : ℕ → List ℕ → ℕ → Bool
rows_fit p ws room = leb 2 p && (leb p 6 && (leb (length ws) most_degree && (eqb room (length ws * 2 ^ p) && elements_ok (2 ^ p) ws)))

-- the products of all weights end to end, where they fit; else out is as it was
unfoldable pub rows_leave : ℕ → List ℕ → List ℕ → List ℕ
rows_leave p ws out = pick (rows_fit p ws (length out)) (blocks (row_of p ws) (length ws)) out
