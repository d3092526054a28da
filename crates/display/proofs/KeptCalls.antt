-- The kept entries (SPEC 10.18) of the calls: over what these promise, and of the functions' own contracts.
use mathlib.Core.Path.{◌≡◌, refl, sym, ap, ◌∙◌}
use mathlib.Core.Bool.{false}
use mathlib.Core.List.{List, ◌++◌}
use Prim.Native.Nat.{ℕ, ◌+◌, ◌*◌, ◌≤◌, ◌<◌}
use native.Mathlib.Decide.{ℕ_discrete, dec_lt}
use native.Mathlib.Omega.{arith}
use lib.ListN.{length, get_or, take, drop}
use lib.Seq.{take_at, get_or-take}
use contract.Lifetimes.{Lfts}
use denote.Triple.Clauses.{AtExit}
use borrow.Fn.Kinds.{ended_of}
use borrow.Fn.World.{ArgsD, ResD}
use Rattle.trellis.specs.Check.{all_sent}
use Rattle.trellis.specs.Field.{xor, product}
use Rattle.trellis.specs.Kept.{three_weights, three_columns, four_weights, four_columns}
use Rattle.trellis.specs.Record.{record_of, record_length}
use Rattle.trellis.specs.Reply.{Reply, accepted}
use Rattle.trellis.specs.Rows.{sent_from}
use Rattle.trellis.specs.Rules.{rule_for, power_of, size_of, columns_of, first_ok}
use Rattle.trellis.specs.Ready.{Ready}
use Rattle.trellis.proofs.KeptClaims.{ready-kept}
use Rattle.trellis.proofs.Messages.{ready-length, ready_many}
use Rattle.std.specs.Prelude.{Ok}
use Rattle.refusal.specs.Replies.{reply_of}
use Rattle.field.specs.Answers.{weight_ok}
use Rattle.checknode.specs.Answers.{check_fault, messages_reply, zero_ok}
use Rattle.expansion.specs.Answers.{expand_reply, expand_leaves}
use Rattle.display.specs.Kept.{stored_of, FromStored, KeptEntriesExpand, KeptEntriesMessages}
use Rattle.field.proofs.Blocks.{part_room}
use Rattle.checknode.proofs.CheckFault.{passed}
use Rattle.checknode.proofs.MessagesCall.{refused, refused_2, written}
use Rattle.display.proofs.CheckThenExpand.{demand_2_messages, not-both, given}
use Rattle.checknode.specs.contracts.check as check
use Rattle.checknode.proofs.check.Kinds as check-kinds
use Rattle.checknode.proofs.check.Reads as check-reads
use Rattle.expansion.specs.contracts.expand as expand
use Rattle.expansion.proofs.expand.Kinds as expand-kinds
use Rattle.expansion.proofs.expand.Reads as expand-reads
use Rattle.checknode.specs.contracts.messages as messages
use Rattle.checknode.proofs.messages.Kinds as messages-kinds
use Rattle.checknode.proofs.messages.Reads as messages-reads

-- a buffer whose first d times q bytes are all the sent costs, beside the record
from_stored : (f : ℕ) (ws cs : List ℕ) → Ready f ws cs → (bytes sents : List ℕ) → bytes ≡ record_of (rule_for f) (columns_of (size_of f) ws cs)
    → take (length ws * size_of f) sents ≡ all_sent (rule_for f) (columns_of (size_of f) ws cs) → FromStored f ws cs bytes sents
from_stored f ws cs D bytes sents e g j x h l =
    let i : j * size_of f + x < length ws * size_of f = omega (arith, part_room j (length ws) (size_of f) h) in
    sym (get_or-take (length ws * size_of f) sents (j * size_of f + x) 0 i)
    ∙ ap (λ s. get_or s (j * size_of f + x) 0) g
    ∙ ready-kept f ws cs D j x h l
    ∙ ap (λ r. sent_from (rule_for f) (stored_of f ws cs) j (xor (product (power_of f) (get_or ws j 0) x) (get_or r j 0))) (sym e)

pub kept_entries_expand : KeptEntriesExpand
kept_entries_expand f ws cs n out out' C buffer long r buffer' E =
    let S = demand_2_messages f ws cs n out out' C buffer long r buffer' E in
    from_stored f ws cs S.ready (take n out') buffer' S.packed S.sents

pub kept_entries_messages : KeptEntriesMessages
kept_entries_messages f ws cs n out sent out' sent' M =
    elim (ℕ_discrete (check_fault f ws cs (length out)) 0) [
      | no k ↦ absurd (not-both (ap (λ (r : Reply). r.refused) (refused f ws cs out sent refl k).0) (not-refused (messages_reply f ws cs out sent) M.replies))
      | yes z ↦
          elim (dec_lt (length sent) (length ws * size_of f)) [
            | yes k ↦ absurd (not-both (ap (λ (r : Reply). r.refused) (refused_2 f ws cs out sent refl z refl k).0) (not-refused (messages_reply f ws cs out sent) M.replies))
            | no k ↦ whole z (omega arith)
          ]
    ]
  where
    not-refused : (r : Reply) → accepted n ≡ r → r.refused ≡ false
    not-refused r e = ap (λ (r : Reply). r.refused) (sym e)

    whole : check_fault f ws cs (length out) ≡ 0 → length ws * size_of f ≤ length sent → FromStored f ws cs (take n out') sent'
    whole z long =
        let rec : List ℕ = record_of (rule_for f) (columns_of (size_of f) ws cs) in
        let all : List ℕ = all_sent (rule_for f) (columns_of (size_of f) ws cs) in
        let D = (passed f ws cs (length out) refl z).ready in
        let W = written f ws cs out sent refl z refl long refl {x = rec} {y = all} refl refl in
        let k : n ≡ record_length (rule_for f) (length ws) = ap (λ (r : Reply). r.value) (M.replies ∙ sym W.0) in
        let o : out' ≡ rec ++ drop (record_length (rule_for f) (length ws)) out = M.out-then ∙ sym W.1.0 in
        let s : sent' ≡ all ++ drop (length ws * size_of f) sent = M.sent-then ∙ sym W.1.1 in
        from_stored f ws cs D (take n out') sent' (ap (take n) o ∙ take_at rec _ n (ready-length f ws cs D ∙ sym k))
        (ap (take (length ws * size_of f)) s ∙ take_at all _ (length ws * size_of f) (ready_many f ws cs D))

-- the examples of k entries are accepted checks: a check refuses none of them, with room for its record
pub examples_accepted : (check_fault 0x02 three_weights three_columns 18 ≡ 0) × (check_fault 0x12 three_weights three_columns 18 ≡ 0)
    × (check_fault 0x23 four_weights four_columns 53 ≡ 0) × (check_fault 0x33 four_weights four_columns 53 ≡ 0)
unfolding check_fault first_ok weight_ok zero_ok
examples_accepted = (refl, refl, refl, refl)

-- the arguments a are check's first, weights, costs, out, and b are expand's first, weights, bytes, out; s and s' hold them as the calls return; each
-- reads.Post is the function's ensures
module _ (κs κs' : Lfts 3) (a : ArgsD check.signature κs) (b : ArgsD expand.signature κs') (r : ResD check.signature κs) (r' : ResD expand.signature κs') (s : AtExit (ended_of 3 check-kinds.ps check-kinds.r) κs) (s' : AtExit (ended_of 3 expand-kinds.ps expand-kinds.r) κs') where
  pub check-then_expand_kept : a.0 ≡ b.0 → a.1.0.now ≡ b.1.0.now → (n : ℕ) → r ≡ Ok n → b.1.1.0.now ≡ take n s.1.1.1.0.now
      → length a.1.0.now * size_of a.0 ≤ length b.1.1.1.0.now
      → check-reads.Post κs a r s → expand-reads.Post κs' b r' s'
      → FromStored a.0 a.1.0.now a.1.1.0.now (take n s.1.1.1.0.now) s'.1.1.1.0.now
  check-then_expand_kept same-p same-weights n e same_bytes long c x =
      kept_entries_expand a.0 a.1.0.now a.1.1.0.now n a.1.1.1.0.now s.1.1.1.0.now (record { replies = sym (ap reply_of e) ∙ c.0; out-then = c.1 })
      b.1.1.1.0.now long (reply_of r') s'.1.1.1.0.now
      (record {
        replies = x.0 ∙ given (λ first w l. expand_reply first w l b.1.1.1.0.now) (sym same-p) (sym same-weights) same_bytes;
        out-then = x.1 ∙ given (λ first w l. expand_leaves first w l b.1.1.1.0.now) (sym same-p) (sym same-weights) same_bytes;
      })

-- the arguments a are first, weights, costs, out, sent of messages
module _ (κs : Lfts 4) (a : ArgsD messages.signature κs) (r : ResD messages.signature κs) (s : AtExit (ended_of 4 messages-kinds.ps messages-kinds.r) κs) where
  pub messages_kept : (n : ℕ) → r ≡ Ok n → messages-reads.Post κs a r s
      → FromStored a.0 a.1.0.now a.1.1.0.now (take n s.1.1.1.0.now) s.1.1.1.1.0.now
  messages_kept n e c =
      kept_entries_messages a.0 a.1.0.now a.1.1.0.now n a.1.1.1.0.now a.1.1.1.1.0.now s.1.1.1.0.now s.1.1.1.1.0.now
      (record { replies = sym (ap reply_of e) ∙ c.0; out-then = c.1.0; sent-then = c.1.1 })
