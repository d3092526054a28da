-- The cases of an expansion past 6, 9 and 11.
use mathlib.Core.Path.{◌≡◌, ◌∙◌, sym}
use mathlib.Core.Bool.{true, false}
use mathlib.Core.List.{List, [], ◌∷◌}
use Prim.Native.Nat.{ℕ, ◌*◌, ◌≤◌, ◌<◌}
use borrow.Author.Tests.{lt-ltb, le-ltb}
use lib.Dec.{ltb}
use lib.ListN.{length}
use Rattle.trellis.specs.Lists.{pick}
use Rattle.trellis.specs.Record.{record_ok}
use Rattle.trellis.specs.Refusals.{when}
use Rattle.trellis.specs.Rules.{rule_for, size_of}
use Rattle.trellis.proofs.Form.{form-line}
use Rattle.field.proofs.Weighed.{WeightsAccepted, rest-case}
use Rattle.expansion.specs.Answers.{expand_cases}

module _ (first : ℕ) (ws : List ℕ) (W : WeightsAccepted first ws) {A : Type 0} (room : ℕ) (bad : ℕ → A) (good : A) (r : List ℕ) where
  past-weights : expand_cases first ws r room bad good ≡ pick (record_ok (rule_for first) (length ws) r) (pick (ltb room (length ws * size_of first)) (bad 2) good) (bad 16)
  past-weights = rest-case first ws W bad _ ∙ form-line (rule_for first) (length ws) r (when (ltb room (length ws * size_of first)) 2 ∷ []) bad good

  pub case_16 : record_ok (rule_for first) (length ws) r ≡ false → bad 16 ≡ expand_cases first ws r room bad good
  case_16 o = sym (past-weights ∙ simp o)

  module _ (o : record_ok (rule_for first) (length ws) r ≡ true) where
    pub case_2 : room < length ws * size_of first → bad 2 ≡ expand_cases first ws r room bad good
    case_2 k = sym (past-weights ∙ simp (o, lt-ltb _ _ k))

    pub expand_case : length ws * size_of first ≤ room → good ≡ expand_cases first ws r room bad good
    expand_case k = sym (past-weights ∙ simp (o, le-ltb _ _ k))
