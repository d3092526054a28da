-- The tests of a display in their order, and what a call leads to by them.
use mathlib.Core.Path.{◌≡◌, sym, ap, ◌∙◌}
use mathlib.Core.Bool.{Bool, true, false}
use mathlib.Core.List.{List, [], ◌∷◌, ◌++◌}
use Prim.Native.Nat.{ℕ, ◌≤◌, ◌<◌}
use native.Mathlib.Decide.{ℕ_discrete}
use native.Mathlib.Omega.{arith}
use lib.Dec.{eqb, ltb}
use lib.ListN.{length, take, drop}
use lib.Seq.{length-take-le}
use borrow.Author.Tests.{eq-eqb, ne_eqb, lt-ltb, le-ltb, ltb-false}
use Rattle.trellis.specs.Lists.{pick}
use Rattle.trellis.specs.Record.{record_ok}
use Rattle.trellis.specs.Rules.{power_of, rule_for}
use Rattle.trellis.specs.Refusals.{Test, when, unless, refused_by, fault_by}
use Rattle.trellis.proofs.Refusals.{Numbered, by_number, none_applies, passed_both}
use Rattle.trellis.specs.Reply.{accepted, refusal}
use Rattle.trellis.specs.Display.{displayed, Stored}
use Rattle.trellis.proofs.Form.{form-front, form-line}
use Rattle.field.specs.Answers.{weight_tests, weight_cases, weights_fault}
use Rattle.field.proofs.Weighed.{WeightsAccepted, weights_passed, fault_case, rest-case, weight-at}
use Rattle.display.specs.Answers.{display_cases, display_fault, display_reply, display_leaves}
use Rattle.display.specs.inner.Showing.{ShowRoom}

module _ (f : ℕ) (ws r : List ℕ) where
  abbrev formed : Bool
  formed = record_ok (rule_for f) (length ws) r

  -- the tests in their order, the record's form one of them
  module _ (room : ℕ) where
    abbrev tests : List Test
    tests = weight_tests f ws ++ (unless formed 16 ∷ when (ltb room (length ws)) 2 ∷ [])

    numbered : Numbered tests
    numbered = ((λ e. omega arith), ((λ e. omega arith), ((λ e. omega arith), ((λ e. omega arith), ((λ e. omega arith), ((λ e. omega arith), tt))))))

    in-tests : {A : Type 0} (bad : ℕ → A) (good : A) → display_cases f ws r room bad good ≡ refused_by tests bad good
    in-tests bad good = ap (weight_cases f ws bad) (form-line (rule_for f) (length ws) r (when (ltb room (length ws)) 2 ∷ []) bad good)

    fault_is : display_fault f ws r room ≡ fault_by tests
    unfolding display_fault
    fault_is = in-tests (λ k. k) 0

    pub weight_fault : (k : ℕ) → k ≡ weights_fault f ws → (k ≡ 0 → ⊥) → k ≡ display_fault f ws r room
    weight_fault k e n = fault_case f ws (λ k. k) (pick formed (pick (ltb room (length ws)) 2 0) 16) e n ∙ sym fault_is

    module _ (W : WeightsAccepted f ws) where
      past-weights : display_fault f ws r room ≡ pick formed (pick (ltb room (length ws)) 2 0) 16
      past-weights = fault_is ∙ rest-case f ws W (λ k. k) _

      pub form_fault : formed ≡ false → 16 ≡ display_fault f ws r room
      form_fault o = sym (past-weights ∙ rw o)

      pub accepts : formed ≡ true → display_fault f ws r room ≡ pick (ltb room (length ws)) 2 0
      accepts o = past-weights ∙ rw o

      pub short_fault : formed ≡ true → room < length ws → 2 ≡ display_fault f ws r room
      short_fault o h = sym (accepts o ∙ rw (lt-ltb room (length ws) h))

      pub none_fault : formed ≡ true → length ws ≤ room → 0 ≡ display_fault f ws r room
      none_fault o h = sym (accepts o ∙ rw (le-ltb room (length ws) h))

    -- any answer goes by the number of the refusal
    pub by_fault : {A : Type 0} (bad : ℕ → A) (good : A) → display_cases f ws r room bad good ≡ pick (eqb (display_fault f ws r room) 0) good (bad (display_fault f ws r room))
    by_fault bad good = in-tests bad good ∙ by_number tests numbered bad good ∙ rw (← fault_is)

  -- a call that is not refused
  pub record DisplayPassed (room : ℕ) : Type 0 where
    pub weighed : WeightsAccepted f ws
    pub form : record_ok (rule_for f) (length ws) r ≡ true
    pub enough : length ws ≤ room

  pub display_passed : (room : ℕ) → display_fault f ws r room ≡ 0 → DisplayPassed room
  display_passed room e =
      let p = passed_both (weight_tests f ws) (drop 4 (tests room)) (none_applies (tests room) (numbered room) (sym (fault_is room) ∙ e)) in
      record { weighed = weights_passed f ws p.0; form = p.1.0; enough = ltb-false _ _ p.1.1.0 }

  pub stored : (room : ℕ) → DisplayPassed room → Stored f ws r
  stored room P =
      record {
        first = P.weighed.accepted;
        weight-some = λ n l. (weight-at f ws P.weighed n l).0;
        weight-small = λ n l. (weight-at f ws P.weighed n l).1;
        form = P.form;
      }

  -- what is returned is at most 32
  pub display_short : (out : List ℕ) → (display_reply f ws r out).value ≤ 32
  unfolding display_reply
  display_short out =
      elim (ℕ_discrete (display_fault f ws r (length out)) 0) [
        | yes z ↦
            let u : display_reply f ws r out ≡ accepted (length ws) = by_fault (length out) (λ k. refusal k) (accepted (length ws)) ∙ rw (eq-eqb (display_fault f ws r (length out)) 0 z) in
            rw u (display_passed (length out) z).weighed.few
        | no z ↦
            let u : display_reply f ws r out ≡ refusal (display_fault f ws r (length out)) = by_fault (length out) (λ k. refusal k) (accepted (length ws)) ∙ rw (ne_eqb (display_fault f ws r (length out)) 0 z) in
            rw u (omega arith)
      ]

  -- a call by its tests
  module _ (out : List ℕ) (k : ℕ) (e : k ≡ display_fault f ws r (length out)) where
    pub refused : (k ≡ 0 → ⊥) → (refusal k ≡ display_reply f ws r out) × (out ≡ display_leaves f ws r out)
    unfolding display_reply display_leaves
    refused n =
        (sym (by_fault (length out) (λ k. refusal k) _ ∙ rw (← e, ne_eqb k 0 n)), sym (by_fault (length out) (λ k. out) _ ∙ rw (← e, ne_eqb k 0 n)))

    module _ (z : k ≡ 0) where
      pub room : DisplayPassed (length out)
      room = display_passed (length out) (sym e ∙ z)

      pub show_room : (p : ℕ) → p ≡ power_of f → ShowRoom p ws r (take (length ws) out)
      show_room p i =
          let S = stored (length out) room in
          let F = form-front (rule_for f) (length ws) r room.form in
          rw i
          record {
            shifts = omega (arith, F.0);
            room = length-take-le (length ws) out room.enough;
            divides = λ n l. record {
              divisor = record { low = room.weighed.low; high = room.weighed.high; some = S.weight-some n l; small = S.weight-small n l };
              dividend = F.1 n l;
            };
          }

      pub written : (p : ℕ) → p ≡ power_of f → (x : List ℕ) → x ≡ displayed p ws r
          → (accepted (length ws) ≡ display_reply f ws r out) × (x ++ drop (length ws) out ≡ display_leaves f ws r out)
      unfolding display_reply display_leaves
      written p i x o =
          (sym (by_fault (length out) (λ k. refusal k) _ ∙ rw (← e, eq-eqb k 0 z)), rw (o, i) (sym (by_fault (length out) (λ k. out) _ ∙ rw (← e, eq-eqb k 0 z))))
