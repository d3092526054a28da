-- Stopping inside an iteration: which checks were updated, and the stores of two such decodings, check by check.
use mathlib.Core.Path.{◌≡◌, refl, sym, ap, ◌∙◌}
use mathlib.Core.Bool.{false}
use mathlib.Core.Logic.{◌≢◌, ◌↔◌}
use mathlib.Core.List.{List}
use Prim.Native.Nat.{ℕ, zero, suc, ◌%◌, ◌≤◌, ◌<◌}
use native.Mathlib.Nat.{not-suc-le-zero, mod-lt, mod-le, mod-eq_of_lt}
use native.Mathlib.Decide.{ℕ_discrete}
use native.Mathlib.Omega.{arith}
use lib.ListN.{length, drop, length-drop, length-append, length-replicate, get_or-replicate}
use lib.Seq.{drop_at}
use Rattle.trellis.specs.Lists.{blocks}
use Rattle.trellis.specs.Check.{shift, sent}
use Rattle.trellis.specs.Record.{record_of}
use Rattle.trellis.specs.Reply.{Reply}
use Rattle.trellis.proofs.Records.{records-equal}
use Rattle.machine.specs.CodeLine.{Read, good, bad, Code, size, rule, check}
use Rattle.machine.specs.Machine.{Last, none, made, State, last_of, columns_in, Status, found, not_found, run, used, piece_of, held}
use Rattle.machine.specs.Decoding.{Buffers, outcome, admitted, decoding_under, decoding, Accepts, Room, LeastSent}
use Rattle.machine.specs.Early.{moment_after, updates, state_early, status_early, place_of, early_under, decoding_early, DecodesEarly, RefusesAlike, EarlyRefusesAlike, Updated, last_early, KeptEarly, AgreeAt, EarlyStores}
use Rattle.machine.specs.inner.Accepted.{GoodCode}
use Rattle.machine.proofs.Lines.{parse-good}
use Rattle.machine.proofs.Literal.{sent-least}
use Rattle.machine.proofs.Updates.{Made, made_proper, IsMade, GoodUpdates, update-kept, last-same, last-other, columns-made}
use Rattle.machine.proofs.Lent.{length-held, held-part}
use Rattle.machine.proofs.Buffers.{admits}
use Rattle.machine.proofs.Early.{true_false, moment-suc, moment-start}

module _ (C : Code) (G : GoodCode C) (f : List ℕ) where
  abbrev M : ℕ
  M = length C.checks

  pub update-small : (u : ℕ) → u % M < M
  update-small u = mod-lt u G.checks-low

  pub moment-kept : (u : ℕ) → GoodUpdates C (moment_after C f u)
  moment-kept zero = rw (moment-start C f) (record { full = length-replicate M none; fine = λ m h. rw (get_or-replicate M m none none h) tt })
  moment-kept (suc u) = rw (moment-suc C f u) (update-kept C G (moment_after C f u) (moment-kept u) (u % M) (update-small u))

  -- check m has no record before more than m updates, and has one then
  pub none_yet : (u m : ℕ) → m < M → u ≤ m → last_of (moment_after C f u) m ≡ none
  none_yet zero m h k = rw (moment-start C f) (get_or-replicate M m none none h)
  none_yet (suc u) m h k =
      rw (moment-suc C f u)
      (last-other C G (moment_after C f u) (moment-kept u) (u % M) (update-small u) m (λ (e : m ≡ u % M). omega (arith, mod-le u M)) ∙ none_yet u m h (omega arith))

  pub made_then : (u m : ℕ) → m < M → m < u → IsMade (last_of (moment_after C f u) m)
  made_then zero m h k = absurd (not-suc-le-zero k)
  made_then (suc u) m h k =
      rw (moment-suc C f u)
      (elim (ℕ_discrete m (u % M)) [
        | yes e ↦ rw (e, last-same C G (moment_after C f u) (moment-kept u) (u % M) (update-small u)) tt
        | no e ↦
            let i : m ≢ u = λ (i : m ≡ u). e (i ∙ sym (mod-eq_of_lt (rw i at h))) in
            rw (last-other C G (moment_after C f u) (moment-kept u) (u % M) (update-small u) m e) (made_then u m h (omega arith))
      ])

  -- at the end
  abbrev final : State
  final = state_early C f

  module _ (m : ℕ) (h : Updated C f m) where
    pub early_last : last_of final m ≡ made (last_early C f m)
    early_last = by (last_of final m) (made_then (updates C f) m h.0 h.1)
      where
        by : (l : Last) → IsMade l → l ≡ made (columns_in l)
        by none i = absurd i
        by (made cs) i = refl

    pub early_made : Made C (check C m) (last_early C f m)
    early_made = columns-made C G (check C m) (last_of final m) ((moment-kept (updates C f)).fine m h.0) (made_then (updates C f) m h.0 h.1)

    pub early_least : (n : ℕ) → n < length (check C m) → (x : ℕ) → x < size C → LeastSent (rule C) (last_early C f m) n x (sent (rule C) (last_early C f m) n x)
    early_least n k x l =
        sent-least (rule C) (last_early C f m) (made_proper C G (check C m) (G.each-check m h.0) (last_early C f m) early_made) n x (omega (arith, early_made.count)) l

    pub early_record : (s : List ℕ) → used C ≤ length s → place_of C m (held C s final) ≡ record_of (rule C) (last_early C f m)
    early_record s room =
        held-part C G s room final (moment-kept (updates C f)) m h.0 ∙ ap (piece_of C s m) early_last

  pub early_old : (s : List ℕ) → used C ≤ length s → (m : ℕ) → m < M → updates C f ≤ m → place_of C m (held C s final) ≡ place_of C m s
  early_old s room m h k =
      held-part C G s room final (moment-kept (updates C f)) m h ∙ ap (piece_of C s m) (none_yet (updates C f) m h k)

  -- past the used part
  pub early_rest : (s : List ℕ) → used C ≤ length s → drop (used C) (held C s final) ≡ drop (used C) s
  unfolding held
  early_rest s room =
      let e = length-held C G s room final (moment-kept (updates C f)) in
      drop_at (blocks (λ m. piece_of C s m (last_of final m)) M) (drop (used C) s) (used C)
      (omega (arith, e, length-append (blocks (λ m. piece_of C s m (last_of final m)) M) (drop (used C) s), length-drop (used C) s))

-- two records of one check are equal exactly when its shifts and sent costs are
pub agree_at : (C : Code) → GoodCode C → (f f' : List ℕ) (m : ℕ) → Updated C f m → Updated C f' m
    → (record_of (rule C) (last_early C f m) ≡ record_of (rule C) (last_early C f' m)) ↔ AgreeAt C f f' m
agree_at C G f f' m h h' = (
  λ e. record { shifts = λ n k. (one.0 e).0 n (omega (arith, a.count)); sents = λ n k x l. (one.0 e).1 n x (omega (arith, a.count)) l },
  λ A. one.1 (λ n k. A.shifts n (omega (arith, a.count)), λ n x k l. A.sents n (omega (arith, a.count)) x l),
)
  where
    a : Made C (check C m) (last_early C f m)
    a = early_made C G f m h

    b : Made C (check C m) (last_early C f' m)
    b = early_made C G f' m h'

    one : (record_of (rule C) (last_early C f m) ≡ record_of (rule C) (last_early C f' m))
        ↔ (((n : ℕ) → n < length (last_early C f m) → shift (rule C) (last_early C f m) n ≡ shift (rule C) (last_early C f' m) n)
        × ((n x : ℕ) → n < length (last_early C f m) → x < size C → sent (rule C) (last_early C f m) n x ≡ sent (rule C) (last_early C f' m) n x))
    one =
        records-equal (rule C) (last_early C f m) (last_early C f' m) (made_proper C G (check C m) (G.each-check m h.0) (last_early C f m) a)
        (made_proper C G (check C m) (G.each-check m h.0) (last_early C f' m) b) (a.same ∙ sym b.same)

-- an accepted call with room in its buffers
pub early_call : (code f : List ℕ) (b : Buffers) (C : Code) → Accepts code f C → Room C b → decoding_early code f b ≡ early_under (good C) f b
unfolding decoding_early
early_call code f b C A M = rw (admits code f b C A M)

never_refused : (o : Status) (u : ℕ) → (outcome o u).refused ≡ false
never_refused found u = refl
never_refused not_found u = refl

pub kept_early : (code f : List ℕ) (b : Buffers) (C : Code) (r : Reply) (o : Buffers) → Accepts code f C → Room C b → DecodesEarly code f b r o
    → KeptEarly C f b.store r o.store
kept_early code f b C r o A M D =
    let G : GoodCode C = parse-good code C A.line in
    let e = early_call code f b C A M in
    let g : r ≡ outcome (status_early C f) (updates C f) = D.replies ∙ ap (λ a. a.reply) e in
    let t : o.store ≡ held C b.store (state_early C f) = D.store_then ∙ ap (λ a. a.buffers.store) e in
    record {
      not-refused = ap (λ a. a.refused) g ∙ never_refused (status_early C f) (updates C f);
      replies = g;
      updated = early_last C G f;
      not_yet = λ m h k. none_yet C G f (updates C f) m h k;
      recorded = λ m h. ap (place_of C m) t ∙ early_record C G f m h b.store M.for_store;
      untouched = λ m h k. ap (place_of C m) t ∙ early_old C G f b.store M.for_store m h k;
      rest = ap (drop (used C)) t ∙ early_rest C G f b.store M.for_store;
      sent-least = early_least C G f;
    }

pub early_stores : EarlyStores
early_stores code C f f' A A' b b' M M' r r' o o' D D' =
    let G : GoodCode C = parse-good code C A.line in
    let k = kept_early code f b C r o A M D in
    let k' = kept_early code f' b' C r' o' A' M' D' in
    record {
      one = k;
      other = k';
      equal = λ m h h'. (
        λ e. (agree_at C G f f' m h h').0 (sym (k.recorded m h) ∙ e ∙ k'.recorded m h'),
        λ a. k.recorded m h ∙ (agree_at C G f f' m h h').1 a ∙ sym (k'.recorded m h'),
      );
    }

-- both calls ask `admitted`
pub refuses_alike : EarlyRefusesAlike
unfolding decoding_early decoding
refuses_alike code f b = under (admitted code f b)
  where
    under : (r : Read Code) → RefusesAlike (early_under r f b) (decoding_under r f b)
    under (bad k) = record { both = refl; same = λ _. refl }
    under (good C) =
        let x = never_refused (status_early C f) (updates C f) in
        let y = never_refused (run C f).status (run C f).end.t in
        record { both = x ∙ sym y; same = λ i. absurd (true_false (sym i ∙ y)) }
