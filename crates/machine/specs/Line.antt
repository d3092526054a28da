-- One line of text as bytes, and the line that the program prints. SPEC 7.5.
use Rattle.std.specs.Prelude.{Bool, ◌&&◌, ◌||◌, List, [], ◌∷◌, ◌++◌, ℕ, ◌+◌, ◌-◌, ◌*◌, ◌/◌, ◌%◌, eqb, ltb, leb, length, get_or, drop}
use Rattle.trellis.specs.Sizes.{most_line}
use Rattle.trellis.specs.Lists.{pick, all_to, tab}
use Rattle.trellis.specs.Refusals.{when, unless, refused_by}
use Rattle.trellis.specs.Reply.{Reply, accepted, refusal}

-- "hexadecimal digits 0-9 and A-F" (SPEC 7.5)
abbrev pub is_digit : ℕ → Bool
is_digit b = (leb 0x30 b && leb b 0x39) || (leb 0x41 b && leb b 0x46)

abbrev pub digit : ℕ → ℕ
digit b = pick (leb b 0x39) (b - 0x30) (b - 0x41 + 10)

-- "two a byte" (SPEC 7.5)
abbrev pub byte_at : List ℕ → ℕ → ℕ
byte_at t i = digit (get_or t (2 * i) 0) * 16 + digit (get_or t (2 * i + 1) 0)

unfoldable pub line_bytes : List ℕ → List ℕ
line_bytes t = tab (byte_at t) (length t / 2)

-- neither "odd digit count" nor "another byte" (SPEC 8.8)
unfoldable pub line_ok : List ℕ → Bool
line_ok t = eqb (length t % 2) 0 && all_to (λ i. is_digit (get_or t i 0)) (length t)

-- "Line: 15, 14, 2.": the refusals of a line of text with room for n bytes, or what else (SPEC 8.8)
abbrev pub line_cases {ℓ} : {A : Type ℓ} → List ℕ → ℕ → (ℕ → A) → A → A
line_cases t n bad good =
    refused_by
    (when (ltb most_line (length t)) 15
    ∷ unless (line_ok t) 14
    ∷ when (ltb n (length t / 2)) 2
    ∷ [])
    bad good

unfoldable pub line_reply : List ℕ → List ℕ → Reply
line_reply t out = line_cases t (length out) (λ k. refusal k) (accepted (length t / 2))

unfoldable pub line_leaves : List ℕ → List ℕ → List ℕ
line_leaves t out = line_cases t (length out) (λ k. out) (line_bytes t ++ drop (length t / 2) out)
