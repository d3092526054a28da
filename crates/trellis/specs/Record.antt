-- The packed record of one check, the form in which a record is accepted, and its expansion. SPEC 3.
use Rattle.std.specs.Prelude.{Bool, true, false, cond, List, [], ◌∷◌, ◌++◌, map, ℕ, zero, suc, ◌+◌, ◌*◌, ◌-◌, leb, ltb, eqb, length, get_or, take, drop}
use Rattle.trellis.specs.Lists.{count_from, up_to, keep, each, pick, all_to}
use Rattle.trellis.specs.Field.{xor}
use Rattle.trellis.specs.Check.{Rule, Column, shift, sent_at, extra}
use Rattle.trellis.specs.Refusals.{Test, when, unless, passes}

-- "The columns are those with S_n(a) greater than E(a), rising" (SPEC 3.2)
unfoldable pub above : Rule → List Column → ℕ → List ℕ
above R cs a = keep (λ n. ltb (extra R cs a) (sent_at R cs n a)) (up_to (length cs))

-- the bytes of a: "E(a), column, its S, column, its S .. an unused pair is FF 00"; k pairs in all (SPEC 3.1)
unfoldable pub group : Rule → List Column → ℕ → List ℕ
group R cs a =
    extra R cs a ∷ (each (λ n. n ∷ sent_at R cs n a ∷ []) (above R cs a)
    ++ each (λ i. 0xFF ∷ 0x00 ∷ []) (up_to (R.most - length (above R cs a))))

-- "d shift bytes, s_0 first" (SPEC 3.1)
unfoldable pub shifts : Rule → List Column → List ℕ
shifts R cs = map (shift R cs) (up_to (length cs))

-- "then five bytes for each a from 1 to q - 1" (SPEC 3.1)
unfoldable pub record_of : Rule → List Column → List ℕ
record_of R cs = shifts R cs ++ each (group R cs) (count_from 1 (R.size - 1))

-- E and k pairs
abbrev pub group_length : Rule → ℕ
group_length R = 1 + 2 * R.most

-- "Length: d + 5(q - 1)." (SPEC 3.1)
abbrev pub record_length : Rule → ℕ → ℕ
record_length R d = d + group_length R * (R.size - 1)

-- A pair, column c and its S, beside E = e in a record of degree d. Refused: "an unused pair that is not FF 00 or stands before a used one,
-- columns not rising or not below d, or S not above E". A used pair's column is low or more
unfoldable pub pair_tests : ℕ → ℕ → ℕ → ℕ → ℕ → List Test
pair_tests c s e d low =
    pick (eqb c 0xFF)
    (unless (eqb s 0x00) 16 ∷ [])
    (when (ltb c low) 16
    ∷ when (leb d c) 16
    ∷ when (leb s e) 16
    ∷ [])

-- the k pairs from place at on. Past a column the next is greater; past FF it is greater than every byte
unfoldable pub pairs_ok : ℕ → List ℕ → ℕ → ℕ → ℕ → ℕ → Bool
pairs_ok zero r at e d low = true
pairs_ok (suc k) r at e d low =
    pick (passes (pair_tests (get_or r at 0) (get_or r (at + 1) 0) e d low))
    (pairs_ok k r (at + 2) e d (get_or r at 0 + 1))
    false

-- where the bytes of a = b + 1 start
abbrev pub group_at : Rule → ℕ → ℕ → ℕ
group_at R d b = d + group_length R * b

abbrev pub group_ok : Rule → ℕ → List ℕ → ℕ → Bool
group_ok R d r b = pairs_ok R.most r (group_at R d b + 1) (get_or r (group_at R d b) 0) d 0

-- the form of an accepted record of degree d. Refused: "16, length wrong, shift not below q", or a pair as above (SPEC 3.4)
unfoldable pub record_tests : Rule → ℕ → List ℕ → List Test
record_tests R d r =
    unless (eqb (length r) (record_length R d)) 16
    ∷ unless (all_to (λ n. ltb (get_or r n 0) R.size) d) 16
    ∷ unless (all_to (group_ok R d r) (R.size - 1)) 16
    ∷ []

unfoldable pub record_ok : Rule → ℕ → List ℕ → Bool
record_ok R d r = passes (record_tests R d r)

-- "the S beside n if a's pairs list n, else E(a)" (SPEC 3.5)
abbrev pub beside : ℕ → ℕ → List ℕ → ℕ
beside n e [] = e
beside n e (c ∷ []) = e
beside n e (c ∷ s ∷ l) = cond (eqb c n) s (beside n e l)

abbrev pub beside_group : ℕ → List ℕ → ℕ
beside_group n [] = 0
beside_group n (e ∷ l) = beside n e l

-- what a record of degree d says for column n at a: "the byte is 0 if a is 0" (SPEC 3.5)
unfoldable pub read_at : Rule → ℕ → List ℕ → ℕ → ℕ → ℕ
read_at R d r n zero = 0
read_at R d r n (suc b) = beside_group n (take (group_length R) (drop (group_at R d b) r))

-- "With a = h_n times x + s_n" (SPEC 3.5)
unfoldable pub expand_at : Rule → List ℕ → List ℕ → ℕ → ℕ → ℕ
expand_at R ws r n x = read_at R (length ws) r n (xor (R.times (get_or ws n 0) x) (get_or r n 0))

-- "Expansion writes d times q unscaled bytes, column by column, each column by x." (SPEC 3.5)
unfoldable pub expansion : Rule → List ℕ → List ℕ → List ℕ
expansion R ws r = each (λ n. map (expand_at R ws r n) (up_to R.size)) (up_to (length ws))
