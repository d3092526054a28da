-- SPEC 10.2 for the messages, as a claim about two calls: a check that is accepted, and an expansion of the record that it wrote. Over what the
-- calls promise (Demand2Messages), and stated of the two functions' own contracts (check-then_expand).
use mathlib.Core.Path.{◌≡◌, refl, sym, ap, ◌∙◌}
use mathlib.Core.Bool.{Bool, true, false}
use mathlib.Core.List.{List, ◌++◌}
use Prim.Native.Nat.{ℕ, ◌+◌, ◌*◌, ◌≤◌, ◌<◌}
use native.Mathlib.Decide.{ℕ_discrete}
use native.Mathlib.Omega.{arith}
use lib.ListN.{length, take, drop, get_or-append}
use lib.Seq.{take_at, drop_at}
use contract.Lifetimes.{Lfts}
use denote.Triple.Clauses.{AtExit}
use borrow.Fn.Kinds.{ended_of}
use borrow.Fn.World.{ArgsD, ResD}
use Rattle.trellis.specs.Check.{Column, all_sent}
use Rattle.trellis.specs.Record.{record_of, record_length}
use Rattle.trellis.specs.Rules.{rule_for, columns_of, size_of}
use Rattle.trellis.specs.Reply.{Reply, accepted, refusal}
use Rattle.std.specs.Prelude.{Result, Ok, Err}
use Rattle.refusal.specs.declared.Refusal.{Refusal}
use Rattle.refusal.specs.Replies.{reply_of}
use Rattle.checknode.specs.Answers.{check_reply, check_leaves, check_fault}
use Rattle.expansion.specs.Answers.{expand_reply, expand_leaves}
use Rattle.display.specs.Demand.{Sends, Demand2Messages}
use Rattle.trellis.proofs.Messages.{ready-length, ready-form, ready_messages, ready_many, ready-least}
use Rattle.field.proofs.Blocks.{part_room}
use Rattle.expansion.proofs.Cases.{expand_case}
use Rattle.checknode.proofs.CheckFault.{CheckPassed, passed}
use Rattle.checknode.proofs.CheckCall.{refused, written}
use Rattle.checknode.specs.contracts.check as check
use Rattle.checknode.proofs.check.Kinds as check-kinds
use Rattle.checknode.proofs.check.Reads as check-reads
use Rattle.expansion.specs.contracts.expand as expand
use Rattle.expansion.proofs.expand.Kinds as expand-kinds
use Rattle.expansion.proofs.expand.Reads as expand-reads

pub not-both : {b : Bool} → true ≡ b → b ≡ false → ⊥
not-both e f = let z : ◌≡◌ {A = ℕ} 0 1 = cc in omega arith

-- a check that is not refused: its reply and what it leaves
record Accepts (first : ℕ) (ws cs out : List ℕ) : Type 0 where
  passes : CheckPassed first ws cs (length out)
  reply : check_reply first ws cs out ≡ accepted (record_length (rule_for first) (length ws))
  leaves : check_leaves first ws cs out ≡ record_of (rule_for first) (columns_of (size_of first) ws cs) ++ drop (record_length (rule_for first) (length ws)) out

accepts : (first : ℕ) (ws cs out : List ℕ) → (check_reply first ws cs out).refused ≡ false → Accepts first ws cs out
accepts first ws cs out a =
    elim (ℕ_discrete (check_fault first ws cs (length out)) 0) [
      | yes z ↦
          let W = written first ws cs out refl z refl refl in
          record { passes = passed first ws cs (length out) refl z; reply = sym W.0; leaves = sym W.1 }
      | no n ↦ absurd (not-both (ap (λ (r : Reply). r.refused) (refused first ws cs out refl n).0) a)
    ]

pub demand_2_messages : Demand2Messages
unfolding expand_reply expand_leaves
demand_2_messages first ws cs n out out' C buffer long r buffer' E =
    let cols : List Column = columns_of (size_of first) ws cs in
    let rec : List ℕ = record_of (rule_for first) cols in
    let d : ℕ = length ws * size_of first in
    let P = accepts first ws cs out (ap (λ (r : Reply). r.refused) (sym C.replies)) in
    let D = P.passes.ready in
    let k : n ≡ record_length (rule_for first) (length ws) = ap (λ (r : Reply). r.value) (C.replies ∙ P.reply) in
    let l : length rec ≡ n = ready-length first ws cs D ∙ sym k in
    let w : out' ≡ rec ++ drop n out = C.out-then ∙ P.leaves ∙ ap (λ k. rec ++ drop k out) (sym k) in
    let t : take n out' ≡ rec = ap (take n) w ∙ take_at rec (drop n out) n l in
    let f = ready-form first ws cs D in
    let x : buffer' ≡ all_sent (rule_for first) cols ++ drop d buffer =
    E.out-then
    ∙ ap (λ b. expand_leaves first ws b buffer) t
    ∙ sym (expand_case first ws P.passes.weighed (length buffer) (λ k. buffer) _ rec f long)
    ∙ ap (λ l. l ++ drop d buffer) (ready_messages first ws cs D) in
    let m : length (all_sent (rule_for first) cols) ≡ d = ready_many first ws cs D in
    record {
      ready = D;
      bytes = k;
      packed = t;
      expands = E.replies ∙ ap (λ b. expand_reply first ws b buffer) t ∙ sym (expand_case first ws P.passes.weighed (length buffer) (λ k. refusal k) _ rec f long);
      sents = ap (take d) x ∙ take_at (all_sent (rule_for first) cols) (drop d buffer) d m;
      least = λ k y h l.
          let i : k * size_of first + y < length (all_sent (rule_for first) cols) = omega (arith, m, part_room k (length ws) (size_of first) h) in
          rw (x, get_or-append (all_sent (rule_for first) cols) (drop d buffer) 0 (k * size_of first + y) i) (ready-least first ws cs D k y h l);
      out-rest = ap (drop n) w ∙ drop_at rec (drop n out) n l;
      buffer_rest = ap (drop d) x ∙ drop_at (all_sent (rule_for first) cols) (drop d buffer) d m;
    }

written_bytes : (r : Result ℕ Refusal) (n : ℕ) → reply_of r ≡ accepted n → r ≡ Ok n
written_bytes (Ok m) n e = ap Ok (ap (λ (r : Reply). r.value) e)
written_bytes (Err k) n e = absurd (not-both (ap (λ (r : Reply). r.refused) e) refl)

pub given : {A : Type 0} (f : ℕ → List ℕ → List ℕ → A) {first q : ℕ} {v w l m : List ℕ} → first ≡ q → v ≡ w → l ≡ m → f first v l ≡ f q w m
given f e g h = rw (e, g, h)

-- the arguments a are check's first, weights, costs, out, and b are expand's first, weights, bytes, out; s and s' hold them as the calls return; each
-- reads.Post is the function's ensures
module _ (κs κs' : Lfts 3) (a : ArgsD check.signature κs) (b : ArgsD expand.signature κs') (r : ResD check.signature κs) (r' : ResD expand.signature κs') (s : AtExit (ended_of 3 check-kinds.ps check-kinds.r) κs) (s' : AtExit (ended_of 3 expand-kinds.ps expand-kinds.r) κs') where
  pub check-then_expand : a.0 ≡ b.0 → a.1.0.now ≡ b.1.0.now → (n : ℕ) → r ≡ Ok n → b.1.1.0.now ≡ take n s.1.1.1.0.now
      → length a.1.0.now * size_of a.0 ≤ length b.1.1.1.0.now
      → check-reads.Post κs a r s → expand-reads.Post κs' b r' s'
      → (r' ≡ Ok (length a.1.0.now * size_of a.0))
      × Sends a.0 a.1.0.now a.1.1.0.now n a.1.1.1.0.now s.1.1.1.0.now (reply_of r') b.1.1.1.0.now s'.1.1.1.0.now
  check-then_expand same-p same-weights n e same_bytes long c x =
      let S =
      demand_2_messages a.0 a.1.0.now a.1.1.0.now n a.1.1.1.0.now s.1.1.1.0.now (record { replies = sym (ap reply_of e) ∙ c.0; out-then = c.1 })
      b.1.1.1.0.now long (reply_of r') s'.1.1.1.0.now
      (record {
        replies = x.0 ∙ given (λ first w l. expand_reply first w l b.1.1.1.0.now) (sym same-p) (sym same-weights) same_bytes;
        out-then = x.1 ∙ given (λ first w l. expand_leaves first w l b.1.1.1.0.now) (sym same-p) (sym same-weights) same_bytes;
      }) in
      (written_bytes r' _ S.expands, S)
