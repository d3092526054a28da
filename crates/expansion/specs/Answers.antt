-- What the public call replies and leaves, refused calls included: the specification's refusals in their order. SPEC 7, 8.
use Rattle.std.specs.Prelude.{List, [], ◌∷◌, ◌++◌, ℕ, ◌*◌, ltb, length, drop}
use Rattle.trellis.specs.Record.{record_tests, expansion}
use Rattle.trellis.specs.Rules.{size_of, rule_for}
use Rattle.trellis.specs.Refusals.{when, refused_by}
use Rattle.trellis.specs.Reply.{Reply, accepted, refusal}
use Rattle.field.specs.Answers.{weight_tests}

-- "Expand: 6, 9, 11, 16, 2." (SPEC 8.6)
abbrev pub expand_cases {ℓ} : {A : Type ℓ} → ℕ → List ℕ → List ℕ → ℕ → (ℕ → A) → A → A
expand_cases f ws r room bad good =
    refused_by
    (weight_tests f ws
    ++ (record_tests (rule_for f) (length ws) r
    ++ (when (ltb room (length ws * size_of f)) 2 ∷ [])))
    bad good

unfoldable pub expand_reply : ℕ → List ℕ → List ℕ → List ℕ → Reply
expand_reply f ws r out = expand_cases f ws r (length out) (λ k. refusal k) (accepted (length ws * size_of f))

unfoldable pub expand_leaves : ℕ → List ℕ → List ℕ → List ℕ → List ℕ
expand_leaves f ws r out = expand_cases f ws r (length out) (λ k. out) (expansion (rule_for f) ws r ++ drop (length ws * size_of f) out)
