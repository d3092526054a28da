-- What a call of display replies and leaves, refused calls included: expansion's refusals in their order, and a buffer of d bytes.
use Rattle.std.specs.Prelude.{List, [], ◌∷◌, ◌++◌, ℕ, ltb, length, drop}
use Rattle.trellis.specs.Record.{record_tests}
use Rattle.trellis.specs.Rules.{power_of, rule_for}
use Rattle.trellis.specs.Display.{displayed}
use Rattle.trellis.specs.Refusals.{when, refused_by}
use Rattle.trellis.specs.Reply.{Reply, accepted, refusal}
use Rattle.field.specs.Answers.{weight_tests}

-- "Both refuse as expansion does", 6, 9, 11, 16; "the display's buffer is d bytes, refusal 2"
abbrev pub display_cases {ℓ} : {A : Type ℓ} → ℕ → List ℕ → List ℕ → ℕ → (ℕ → A) → A → A
display_cases f ws r room bad good =
    refused_by
    (weight_tests f ws
    ++ (record_tests (rule_for f) (length ws) r
    ++ (when (ltb room (length ws)) 2 ∷ [])))
    bad good

-- the number of the refusal where the buffer has `room` bytes, 0 for none
unfoldable pub display_fault : ℕ → List ℕ → List ℕ → ℕ → ℕ
display_fault f ws r room = display_cases f ws r room (λ k. k) 0

-- "return how many bytes they wrote": d
unfoldable pub display_reply : ℕ → List ℕ → List ℕ → List ℕ → Reply
display_reply f ws r out = display_cases f ws r (length out) (λ k. refusal k) (accepted (length ws))

unfoldable pub display_leaves : ℕ → List ℕ → List ℕ → List ℕ → List ℕ
display_leaves f ws r out = display_cases f ws r (length out) (λ k. out) (displayed (power_of f) ws r ++ drop (length ws) out)
