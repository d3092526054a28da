-- The claims about calls: equal displays, equal refusals, and the two views of a record that a check wrote.
use mathlib.Core.Path.{◌≡◌, refl, sym, ap, ◌∙◌}
use mathlib.Core.Bool.{Bool, true, true≢false}
use mathlib.Core.List.{List, [], ◌∷◌, ◌++◌}
use Prim.Native.Nat.{ℕ, ◌*◌, ◌<◌}
use native.Mathlib.Decide.{ℕ_discrete}
use lib.Dec.{ltb}
use lib.ListN.{length, get_or, take, drop}
use lib.Seq.{take_at, drop_at, get_or-take}
use borrow.Author.Tests.{eq-eqb, ne_eqb, le-ltb}
use Rattle.trellis.specs.Field.{xor, product}
use Rattle.trellis.specs.Check.{Column, shift, sent_at, column}
use Rattle.trellis.specs.Record.{record_tests, record_ok}
use Rattle.trellis.specs.Refusals.{when, refused_by}
use Rattle.trellis.proofs.Refusals.{then-ends}
use Rattle.trellis.specs.Rules.{power_of, size_of, rule_for, columns_of}
use Rattle.trellis.specs.Reply.{Reply, accepted, refusal}
use Rattle.trellis.specs.Display.{displayed, shown_at, Stored}
use Rattle.trellis.proofs.Xor.{xor_self}
use Rattle.trellis.proofs.Display.{length-displayed, display_equal, urged_towards}
use Rattle.trellis.proofs.Sent.{sent-zero}
use Rattle.trellis.proofs.Records.{record_shift, sent-at}
use Rattle.trellis.proofs.Ready.{ready_proper, length-columns, column-at}
use Rattle.trellis.proofs.Messages.{ready-form}
use Rattle.expansion.specs.Answers.{expand_reply}
use Rattle.field.specs.Answers.{weight_tests}
use Rattle.field.proofs.Weighed.{ready-weighed}
use Rattle.display.proofs.CheckThenExpand.{demand_2_messages}
use Rattle.display.specs.Answers.{display_fault, display_reply, display_leaves}
use Rattle.display.specs.Views.{Displays, DisplaysEqual, DisplayRefusesAlike, TwoViews}
use Rattle.display.proofs.Refusals.{display_passed, stored, by_fault, accepts}

-- a display that is not refused
record Shown (f : ℕ) (ws r out : List ℕ) (n : ℕ) (o : List ℕ) : Type 0 where
  is_stored : Stored f ws r
  bytes : n ≡ length ws
  front : take (length ws) o ≡ displayed (power_of f) ws r
  rest : drop (length ws) o ≡ drop (length ws) out

shown : (f : ℕ) (ws r out : List ℕ) (n : ℕ) (o : List ℕ) → Displays f ws r out (accepted n) o → Shown f ws r out n o
unfolding display_reply display_leaves
shown f ws r out n o D =
    elim (ℕ_discrete k 0) [
      | yes z ↦
          let u : accepted n ≡ accepted (length ws) = D.replies ∙ by_fault f ws r (length out) (λ k. refusal k) (accepted (length ws)) ∙ rw (eq-eqb k 0 z) in
          let w : o ≡ whole = D.out-then ∙ by_fault f ws r (length out) (λ k. out) whole ∙ rw (eq-eqb k 0 z) in
          record {
            is_stored = stored f ws r (length out) (display_passed f ws r (length out) z);
            bytes = ap (λ (a : Reply). a.value) u;
            front = ap (take (length ws)) w ∙ take_at (displayed (power_of f) ws r) (drop (length ws) out) (length ws) (length-displayed (power_of f) ws r);
            rest = ap (drop (length ws)) w ∙ drop_at (displayed (power_of f) ws r) (drop (length ws) out) (length ws) (length-displayed (power_of f) ws r);
          }
      | no z ↦
          let u : accepted n ≡ refusal k = D.replies ∙ by_fault f ws r (length out) (λ k. refusal k) (accepted (length ws)) ∙ rw (ne_eqb k 0 z) in
          absurd (true≢false (sym (ap (λ (a : Reply). a.refused) u)))
    ]
  where
    k : ℕ
    k = display_fault f ws r (length out)

    whole : List ℕ
    whole = displayed (power_of f) ws r ++ drop (length ws) out

pub displays-equal : DisplaysEqual
displays-equal f f' ws r r' out out' n n' o o' e D D' =
    let S = shown f ws r out n o D in
    let S' = shown f' ws r' out' n' o' D' in
    let E = display_equal f f' ws r r' e S.is_stored S'.is_stored in
    record {
      bytes = S.bytes;
      bytes' = S'.bytes;
      equal = (λ i. E.0 (sym S.front ∙ i ∙ S'.front), λ i. S.front ∙ E.1 i ∙ sym S'.front);
    }

pub refuses_alike : DisplayRefusesAlike
unfolding display_reply expand_reply
refuses_alike f ws r out buffer h l =
    by (ltb (length out) (length ws)) (accepted (length ws))
    ∙ rw (le-ltb (length out) (length ws) h, le-ltb (length buffer) (length ws * size_of f) l) refl
    ∙ sym (by (ltb (length buffer) (length ws * size_of f)) (accepted (length ws * size_of f)))
  where
    by : (b : Bool) (good : Reply) → let tests = weight_tests f ws ++ (record_tests (rule_for f) (length ws) r ++ (when b 2 ∷ [])) in
        (refused_by tests (λ k. refusal k) good).number ≡ refused_by tests (λ k. k) good.number
    by b good = then-ends (λ (a : Reply). a.number) (weight_tests f ws ++ (record_tests (rule_for f) (length ws) r ++ (when b 2 ∷ []))) (λ k. refusal k) good

reply-good : (f : ℕ) (ws r out : List ℕ) → display_fault f ws r (length out) ≡ 0 → display_reply f ws r out ≡ accepted (length ws)
unfolding display_reply
reply-good f ws r out z = by_fault f ws r (length out) (λ k. refusal k) (accepted (length ws)) ∙ rw (eq-eqb (display_fault f ws r (length out)) 0 z)

pub two_views : TwoViews
two_views f ws cs n out out' C b lb r b' E o lo s o' D =
    let S = demand_2_messages f ws cs n out out' C b lb r b' E in
    let cols : List Column = columns_of (size_of f) ws cs in
    let rec : List ℕ = take n out' in
    let P = ready_proper f ws cs S.ready in
    let F : record_ok (rule_for f) (length ws) rec ≡ true = ap (record_ok (rule_for f) (length ws)) S.packed ∙ ready-form f ws cs S.ready in
    let k : display_fault f ws rec (length o) ≡ 0 = accepts f ws rec (length o) (ready-weighed f ws cs S.ready) F ∙ rw (le-ltb (length o) (length ws) lo) in
    let a : s ≡ accepted (length ws) = D.replies ∙ reply-good f ws rec o k in
    let X = shown f ws rec o (length ws) o' (record { replies = sym a ∙ D.replies; out-then = D.out-then }) in
    record {
      bench = S;
      displays = a;
      shows = λ j h.
          let U = urged_towards f ws rec X.is_stored j h in
          let c : j < length cols = rw (length-columns (size_of f) ws cs) h in
          let e : get_or o' j 0 ≡ shown_at f ws rec j = sym (get_or-take (length ws) o' j 0 h) ∙ ap (λ l. get_or l j 0) X.front in
          let t : product (power_of f) (get_or ws j 0) (get_or o' j 0) ≡ shift (rule_for f) cols j =
          ap (product (power_of f) (get_or ws j 0)) e ∙ U.times ∙ ap (λ l. get_or l j 0) S.packed ∙ record_shift (rule_for f) cols P j c in
          let w : product (power_of f) (column cols j).weight (get_or o' j 0) ≡ shift (rule_for f) cols j =
          ap (λ (c : Column). product (power_of f) c.weight (get_or o' j 0)) (column-at (size_of f) ws cs j h) ∙ t in
          record {
            element = rw e U.element;
            urged = t;
            free = sent-at (rule_for f) cols P j (get_or o' j 0) ∙ ap (λ v. sent_at (rule_for f) cols j (xor v (shift (rule_for f) cols j))) w ∙ ap (sent_at (rule_for f) cols j) (xor_self (shift (rule_for f) cols j)) ∙ sent-zero (rule_for f) cols P j c;
          };
      rest = X.rest;
    }
