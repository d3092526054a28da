-- SPEC 10.3: an accepted call's store starts with the records of its run, records lie end to end at places that the code line fixes, and
-- two records of one check are equal exactly when its shifts and sent costs are.
use mathlib.Core.Path.{◌≡◌, refl, sym, ap, ◌∙◌}
use mathlib.Core.Bool.{false}
use mathlib.Core.Logic.{◌↔◌}
use mathlib.Core.List.{List}
use Prim.Native.Nat.{ℕ, ◌<◌}
use native.Mathlib.Omega.{arith}
use lib.ListN.{length, take, drop}
use lib.Seq.{take_at}
use borrow.Author.Tests.{ne_eqb}
use Rattle.trellis.specs.Check.{shift, sent}
use Rattle.trellis.specs.Record.{record_of, record_length}
use Rattle.trellis.specs.Reply.{Reply}
use Rattle.machine.specs.CodeLine.{Code, size, rule, check}
use Rattle.machine.specs.Machine.{Last, none, made, State, last_of, columns_in, Status, found, not_found, run, records, used, record_in}
use Rattle.machine.specs.Decoding.{Buffers, store_of, Decodes, Accepts, Room, last_update, outcome, LeastSent, Kept, Agree, Demand3}
use Rattle.trellis.proofs.Records.{records-equal}
use Rattle.trellis.proofs.Loops.{blocks-same, blocks_ext}
use Rattle.machine.specs.inner.Accepted.{GoodCode}
use Rattle.machine.proofs.Lines.{parse-good}
use Rattle.machine.proofs.Buffers.{accepted_call}
use Rattle.machine.proofs.Literal.{sent-least}
use Rattle.machine.proofs.Updates.{IsMade, run_reached, last_made, last_proper, last_record, last-length, length-records}

module _ (C : Code) (G : GoodCode C) (f : List ℕ) (some : 0 < (run C f).end.t) where
  abbrev final : State
  final = (run C f).end

  -- its store's used part is the records
  pub used-part : (s : List ℕ) → take (used C) (store_of C final s) ≡ records C final
  used-part s =
      rw (ne_eqb final.t 0 (λ e. omega arith))
      (take_at (records C final) (drop (used C) s) (used C) (length-records C G final (run_reached C G f) some))

  run-updated : (m : ℕ) → m < length C.checks → last_of final m ≡ made (last_update C f m)
  run-updated m h = at (last_of final m) ((run_reached C G f).after some m h)
    where
      at : (l : Last) → IsMade l → l ≡ made (columns_in l)
      at none i = absurd i
      at (made cs) i = refl

  run-least : (m : ℕ) → m < length C.checks → (n : ℕ) → n < length (check C m) → (x : ℕ) → x < size C
      → LeastSent (rule C) (last_update C f m) n x (sent (rule C) (last_update C f m) n x)
  run-least m h n k x l =
      let R = run_reached C G f in
      sent-least (rule C) (last_update C f m) (last_proper C G final R some m h) n x (omega (arith, (last_made C G final R some m h).count)) l

  -- what a decoding of it leaves
  pub kept : (code : List ℕ) (b : Buffers) (r : Reply) (o : Buffers) → Accepts code f C → Room C b → Decodes code f b r o → Kept C f r o.store
  kept code b r o A M D =
      let e = accepted_call code f b C A M in
      let g : r ≡ outcome (run C f).status final.t = D.replies ∙ ap (λ a. a.reply) e in
      record {
        not-refused = ap (λ a. a.refused) g ∙ never (run C f).status;
        replies = g;
        updated = run-updated;
        used-part = rw (D.store_then, e) (used-part b.store);
        sent-least = run-least;
      }
    where
      never : (o : Status) → (outcome o final.t).refused ≡ false
      never found = refl
      never not_found = refl

-- the records of two runs are equal exactly when the runs agree
pub records_agree : (C : Code) → GoodCode C → (f f' : List ℕ) → 0 < (run C f).end.t → 0 < (run C f').end.t
    → (records C (run C f).end ≡ records C (run C f').end) ↔ Agree C f f'
unfolding records
records_agree C G f f' i i' = (
  λ e.
      let at : (m : ℕ) → m < length C.checks → record_in C (last_of (run C f).end m) ≡ record_in C (last_of (run C f').end m) =
      blocks-same _ _ (length C.checks) (λ m h. len f i m h ∙ sym (len f' i' m h)) e in
      record {
        shifts = λ m h n k. ((one m h).0 (sym (rec f i m h) ∙ at m h ∙ rec f' i' m h)).0 n (omega (arith, count m h));
        sents = λ m h n k x l. ((one m h).0 (sym (rec f i m h) ∙ at m h ∙ rec f' i' m h)).1 n x (omega (arith, count m h)) l;
      },
  λ A.
      blocks_ext _ _ (length C.checks) (λ m h. rec f i m h ∙ (one m h).1 (λ n k. A.shifts m h n (omega (arith, count m h)), λ n x k l. A.sents m h n (omega (arith, count m h)) x l) ∙ sym (rec f' i' m h)),
)
  where
    rec : (f : List ℕ) → 0 < (run C f).end.t → (m : ℕ) → m < length C.checks → record_in C (last_of (run C f).end m) ≡ record_of (rule C) (last_update C f m)
    rec f i m h = last_record C G (run C f).end (run_reached C G f) i m h

    len : (f : List ℕ) → 0 < (run C f).end.t → (m : ℕ) → m < length C.checks → length (record_in C (last_of (run C f).end m)) ≡ record_length (rule C) (length (check C m))
    len f i m h = last-length C G (run C f).end (run_reached C G f) i m h

    count : (m : ℕ) → m < length C.checks → length (last_update C f m) ≡ length (check C m)
    count m h = (last_made C G (run C f).end (run_reached C G f) i m h).count

    one : (m : ℕ) → m < length C.checks → (record_of (rule C) (last_update C f m) ≡ record_of (rule C) (last_update C f' m))
        ↔ (((n : ℕ) → n < length (last_update C f m) → shift (rule C) (last_update C f m) n ≡ shift (rule C) (last_update C f' m) n)
        × ((n x : ℕ) → n < length (last_update C f m) → x < size C → sent (rule C) (last_update C f m) n x ≡ sent (rule C) (last_update C f' m) n x))
    one m h =
        records-equal (rule C) (last_update C f m) (last_update C f' m) (last_proper C G (run C f).end (run_reached C G f) i m h) (last_proper C G (run C f').end (run_reached C G f') i' m h)
        ((last_made C G (run C f).end (run_reached C G f) i m h).same ∙ sym (last_made C G (run C f').end (run_reached C G f') i' m h).same)

pub demand_3 : Demand3
demand_3 code C f f' A A' i i' b b' M M' r r' o o' D D' =
    let G : GoodCode C = parse-good code C A.line in
    let k = kept C G f i code b r o A M D in
    let k' = kept C G f' i' code b' r' o' A' M' D' in
    let e = records_agree C G f f' i i' in
    record {
      one = k;
      other = k';
      equal = (λ h. e.0 (sym k.used-part ∙ h ∙ k'.used-part), λ h. k.used-part ∙ e.1 h ∙ sym k'.used-part);
    }
