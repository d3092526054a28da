-- Expand, gather, messages and scatter make one update: each loop's list is cut into the columns' parts, expand and messages accept what the update
-- gives them, and an expansion is the message of the old record.
use mathlib.Core.Path.{◌≡◌, refl, sym, ap, ap₂, ◌∙◌}
use mathlib.Core.Bool.{Bool, true, false, true≢false}
use mathlib.Core.List.{List, ◌++◌, map, append_assoc, append-nil}
use Prim.Native.Nat.{ℕ, zero, suc, ◌+◌, ◌*◌, ◌≤◌, ◌<◌}
use native.Mathlib.Nat.{mul-zero, mul_comm, not-suc-le-zero, suc-mul}
use native.Mathlib.Decide.{ℕ_discrete}
use native.Mathlib.Omega.{arith}
use lib.Dec.{lt→ltb}
use lib.ListN.{length, get_or, replicate, length-map, length-append}
use Rattle.std.proofs.lemmas.List.{length-replicate, get_or-replicate}
use lib.Seq.{take_at, drop_at, drop-length, ext_get_or, get_or-take, get_or-drop}
use lib.Pow.{pow_pos}
use borrow.Author.Tests.{eq-eqb, le-ltb}
use Rattle.std.specs.Prelude.{Result, Ok, Err, IsOk}
use Rattle.trellis.specs.Reply.{Reply, accepted, refusal}
use Rattle.refusal.specs.Replies.{reply_of}
use Rattle.refusal.specs.declared.Refusal.{Refusal}
use Rattle.trellis.specs.Lists.{up_to, each, upto, all_to, tab, part, patch, blocks}
use Rattle.trellis.specs.Check.{Column, column, blank, all_sent}
use Rattle.trellis.specs.Record.{record_of, record_length, record_ok, expand_at, expansion}
use Rattle.trellis.specs.Rules.{power_of, size_of, rule_for, columns_of, costs_at}
use Rattle.trellis.specs.Ready.{Ready}
use Rattle.trellis.proofs.Tests.{to_true, all_of}
use Rattle.trellis.proofs.Lists.{of_up_to}
use Rattle.trellis.proofs.Places.{map_ext, slice_each, length-count}
use Rattle.trellis.proofs.Loops.{length-tab, get_d_tab}
use Rattle.trellis.proofs.Instances.{first-zero}
use Rattle.trellis.proofs.Ready.{length-columns, column-at}
use Rattle.trellis.proofs.Messages.{ready_messages}
use Rattle.field.proofs.Weighed.{weights-accepted, rest-case, ready-weighed}
use Rattle.expansion.proofs.Cases.{expand_case}
use Rattle.checknode.specs.Answers.{zero_ok, messages_cases, messages_reply, messages_leaves, messages_sent}
use Rattle.expansion.specs.Answers.{expand_reply, expand_leaves}
use Rattle.machine.specs.CodeLine.{edge_at, column_of}
use Rattle.machine.specs.Machine.{scaled, incoming, outgoing, arriving, spread}
use Rattle.machine.specs.Lent.{weights_of, message_lent, arriving_lent, record_lent, costs_lent}
use Rattle.machine.specs.inner.Tables.{edges_of}
use Rattle.machine.proofs.Lists.{at_up_to, map-after}
use Rattle.machine.proofs.Updates.{length-incoming, zero-incoming}
use Rattle.machine.proofs.Ranges.{column-room}
use Rattle.machine.proofs.Lent.{arriving_ext, spread_ext}
use Rattle.machine.proofs.Edges.{length-edges, column-edge, weight-edge, weights-edges}
use Rattle.layered.specs.inner.Columns.{one_column, gathered as gathered_costs, GatherRoom, scattered, ScatterRoom}
use Rattle.layered.specs.inner.Updates.{old_costs, Weighed, RecallRoom, SendRoom, UpdateRoom}
use Rattle.machine.proofs.Places.{length_part}
use Rattle.layered.proofs.Columns.{scaled_at, length-gathered}

-- a check's columns as a list over its edges
columns-map : (q : ℕ) (ws l : List ℕ) → columns_of q ws l ≡ map (λ n. record { weight = get_or ws n 0; costs = part l (n * q) q }) (up_to (length ws))
columns-map q ws l =
    let f : ℕ → Column = λ n. record { weight = get_or ws n 0; costs = part l (n * q) q } in
    let k : length (map f (up_to (length ws))) ≡ length ws = length-map (up_to (length ws)) f ∙ length-count 0 (length ws) in
    ext_get_or blank (columns_of q ws l) (map f (up_to (length ws))) (length-columns q ws l ∙ sym k) (λ n h.
    let i : n < length ws = omega (arith, length-columns q ws l) in
    column-at q ws l n i ∙ sym (at_up_to f (length ws) n blank i))

-- a block of q of them
block_at : (f : ℕ → List ℕ) (q : ℕ) → ((m : ℕ) → length (f m) ≡ q) → (n : ℕ) (r : List ℕ) (m : ℕ) → m < n → part (blocks f n ++ r) (m * q) q ≡ f m
block_at f q l zero r m h = absurd (not-suc-le-zero h)
block_at f q l (suc n) r m h =
    elim (ℕ_discrete m n) [
      | yes e ↦ rw (e, append_assoc (blocks f n) (f n) r, drop_at (blocks f n) (f n ++ r) (n * q) (len n)) (take_at (f n) r q (l n))
      | no e ↦ ap (λ x. part x (m * q) q) (append_assoc (blocks f n) (f n) r) ∙ block_at f q l n (f n ++ r) m (omega arith)
    ]
  where
    len : (n : ℕ) → length (blocks f n) ≡ n * q
    len zero = omega arith
    len (suc n) = rw (length-append (blocks f n), len n, l n) (omega (arith, suc-mul n q))

-- what gather leaves for column n
gathered-at : (P cs old : List ℕ) (g q : ℕ) (d : List ℕ) (n k : ℕ) → 0 < q → n < k → part (gathered_costs P cs old g q k d) (n * q) q ≡ one_column P cs old g q n
unfolding gathered_costs
gathered-at P cs old g q d n k some h = block_at (one_column P cs old g q) q (λ m. length-incoming q some _ _) k _ n h

module _ (first : ℕ) (cs ws : List ℕ) (same : length cs ≡ length ws) where
  -- what gather leaves is the update's columns
  gathered-arriving : (P old d : List ℕ) (g : ℕ)
      → columns_of (size_of first) ws (gathered_costs P cs old g (size_of first) (length cs) d) ≡ arriving (size_of first) (edges_of cs ws) (λ n. map (scaled g) (part old (n * size_of first) (size_of first))) P
  unfolding arriving
  gathered-arriving P old d g =
      columns-map (size_of first) ws (gathered_costs P cs old g (size_of first) (length cs) d)
      ∙ rw (length-edges cs ws same, same)
      (map_ext {l = up_to (length ws)} (λ n i.
      ap₂ (λ h (c : List ℕ). record { weight = h; costs = c }) (sym (weight-edge cs ws same n))
      (gathered-at P cs old g (size_of first) d n (length ws) (pow_pos (power_of first)) (of_up_to i)
      ∙ ap (λ c. incoming (size_of first) (column_of (size_of first) P c) (map (scaled g) (part old (n * size_of first) (size_of first)))) (sym (column-edge cs ws same n)))))

  -- what scatter leaves is P after the update
  scattered-spread : (P Q new : List ℕ) (g : ℕ)
      → scattered Q new cs g (size_of first) (length cs) P ≡ spread (size_of first) (edges_of cs ws) (columns_of (size_of first) ws Q) (λ n. map (scaled g) (part new (n * size_of first) (size_of first))) P
  unfolding scattered spread
  scattered-spread P Q new g = rw (length-edges cs ws same) (go (length cs) (omega arith))
    where
      go : (k : ℕ) → k ≤ length cs
          → upto (λ k (P : List ℕ). patch P (get_or cs k 0 * size_of first) (size_of first) (outgoing (size_of first) (part Q (k * size_of first) (size_of first)) (map (scaled g) (part new (k * size_of first) (size_of first))))) k P
          ≡ upto (λ n (P : List ℕ). patch P ((edge_at (edges_of cs ws) n).column * size_of first) (size_of first) (outgoing (size_of first) (column (columns_of (size_of first) ws Q) n).costs (map (scaled g) (part new (n * size_of first) (size_of first))))) k P
      go zero h = refl
      go (suc k) h = rw (column-edge cs ws same k, column-at (size_of first) ws Q k (omega arith), go k (omega arith))

-- what an expansion has for column n, scaled
message-expansion : (first g : ℕ) (ws r : List ℕ) (n : ℕ) → n < length ws → map (scaled g) (part (expansion (rule_for first) ws r) (n * size_of first) (size_of first)) ≡ message_lent (rule_for first) g false ws r n
unfolding message_lent expansion
message-expansion first g ws r n h =
    let f : ℕ → List ℕ = λ n. map (expand_at (rule_for first) ws r n) (up_to (size_of first)) in
    let e : part (each f (up_to (length ws))) (n * size_of first) (size_of first) ≡ f n =
    ap (λ a. part (each f (up_to (length ws))) a (size_of first)) (mul_comm n (size_of first))
    ∙ slice_each f (size_of first) 0 (length ws) n (λ m i j. length-map (up_to (size_of first)) (expand_at (rule_for first) ws r m) ∙ length-count 0 (size_of first)) h
    ∙ ap f (omega arith) in
    rw e (map-after (scaled g) (expand_at (rule_for first) ws r n) (up_to (size_of first)))

-- and zeros
message-zeros : (first g : ℕ) (ws r : List ℕ) (n : ℕ) → n < length ws → map (scaled g) (part (tab (λ x. 0) (length ws * size_of first)) (n * size_of first) (size_of first)) ≡ message_lent (rule_for first) g true ws r n
unfolding message_lent
message-zeros first g ws r n h =
    ext_get_or 0 (map (scaled g) (part z (n * q) q)) (map (λ x. 0) (up_to q)) (a ∙ sym (length-map (up_to q) (λ x. 0) ∙ length-count 0 q)) (λ x i.
    let j : x < q = omega (arith, a) in
    let y : get_or (part z (n * q) q) x 0 ≡ 0 = rw (get_or-take, get_or-drop) (get_d_tab (λ x. 0) (length ws * q) (n * q + x) (omega (arith, column-room n (length ws) q h))) in
    scaled_at g (part z (n * q) q) x ∙ rw (y, mul-zero g) (sym (at_up_to (λ x. 0) q x 0 j)))
  where
    q : ℕ
    q = size_of first

    z : List ℕ
    z = tab (λ x. 0) (length ws * q)

    room : n * q + q ≤ length z
    room = rw (length-tab (λ x. 0) (length ws * q)) (column-room n (length ws) q h)

    a : length (map (scaled g) (part z (n * q) q)) ≡ q
    a = length-map (part z (n * q) q) (scaled g) ∙ length_part z (n * q) q room

pub message-old : (first g : ℕ) (start : Bool) (ws r : List ℕ) (n : ℕ) → n < length ws → map (scaled g) (part (old_costs first start ws r) (n * size_of first) (size_of first)) ≡ message_lent (rule_for first) g start ws r n
unfolding old_costs
message-old first g true ws r n h = message-zeros first g ws r n h
message-old first g false ws r n h = message-expansion first g ws r n h

-- check and expand accept: none of 6, 9, 11, nor 16 nor 2
pub expand_accepts : (first : ℕ) (ws r out : List ℕ) → Weighed first ws → record_ok (rule_for first) (length ws) r ≡ true → length out ≡ length ws * size_of first → expand_leaves first ws r out ≡ expansion (rule_for first) ws r
unfolding expand_leaves
expand_accepts first ws r out W f e =
    sym (expand_case first ws (weights-accepted first ws W.accepted W.two W.few W.some W.small) (length out) (λ k. out) _ r f (omega arith))
    ∙ rw (← e, drop-length out) (append-nil (expansion (rule_for first) ws r))

-- a reply that is accepted
accepted_ok : (e : Result ℕ Refusal) (n : ℕ) → reply_of e ≡ accepted n → IsOk e
accepted_ok (Ok x) n i = refl
accepted_ok (Err r) n i = absurd (true≢false (ap (λ (a : Reply). a.refused) i))

pub expand_ok : (first : ℕ) (ws r out : List ℕ) → Weighed first ws → record_ok (rule_for first) (length ws) r ≡ true → length out ≡ length ws * size_of first
    → (e : Result ℕ Refusal) → reply_of e ≡ expand_reply first ws r out → IsOk e
unfolding expand_reply
expand_ok first ws r out W f l e i =
    accepted_ok e _ (i ∙ sym (expand_case first ws (weights-accepted first ws W.accepted W.two W.few W.some W.small) (length out) (λ k. refusal k) _ r f (omega arith)))

zeros : (n : ℕ) → replicate n 0 ≡ tab (λ x. 0) n
zeros n = ext_get_or 0 (replicate n 0) (tab (λ x. 0) n) (length-replicate n 0 ∙ sym (length-tab (λ x. 0) n)) (λ i h.
    let j : i < n = omega (arith, length-replicate {A = ℕ} n 0) in get_or-replicate n i 0 0 j ∙ sym (get_d_tab (λ x. 0) n i j))

-- what the old record sent
pub recall-first : (first : ℕ) (start : Bool) (ws r out new : List ℕ) → RecallRoom first start ws r out → start ≡ true → new ≡ replicate (length out) 0 → new ≡ old_costs first start ws r
unfolding old_costs
recall-first first start ws r out new R f e = e ∙ zeros (length out) ∙ rw (f, R.full)

pub recall-later : (first : ℕ) (start : Bool) (ws r out new : List ℕ) → RecallRoom first start ws r out → start ≡ false → new ≡ expand_leaves first ws r out → new ≡ old_costs first start ws r
unfolding old_costs
recall-later first start ws r out new R f e = e ∙ expand_accepts first ws r out R.weighed (R.form f) R.full ∙ rw f

module _ (first : ℕ) (ws Q : List ℕ) (D : Ready first ws Q) where
  -- nor 12, 13, 4 or 2
  messages-pass : (r out : List ℕ) → length r ≡ record_length (rule_for first) (length ws) → length out ≡ length ws * size_of first
      → {A : Type 0} (bad : ℕ → A) (good : A) → messages_cases first ws Q (length r) (length out) bad good ≡ good
  unfolding zero_ok
  messages-pass r out e f bad good =
      let z : all_to (zero_ok (size_of first) Q) (length ws) ≡ true = to_true (all_of _ (length ws) (λ n h. lt→ltb _ _ (D.zeros n h))) in
      rest-case first ws (ready-weighed first ws Q D) bad _
      ∙ rw (
        eq-eqb (length Q) (length ws * size_of first) D.count,
        z,
        le-ltb (length r) (record_length (rule_for first) (length ws)) (omega arith),
        le-ltb (length out) (length ws * size_of first) (omega arith),
      )

  pub messages_ok : (r out : List ℕ) → length r ≡ record_length (rule_for first) (length ws) → length out ≡ length ws * size_of first
      → (e : Result ℕ Refusal) → reply_of e ≡ messages_reply first ws Q r out → IsOk e
  unfolding messages_reply
  messages_ok r out l m e i = accepted_ok e _ (i ∙ messages-pass r out l m (λ k. refusal k) _)

  -- the record and the sent costs fill their buffers
  pub sent_is : (r out new last : List ℕ) → length r ≡ record_length (rule_for first) (length ws) → length out ≡ length ws * size_of first → new ≡ messages_leaves first ws Q r out → last ≡ messages_sent first ws Q r out
      → (new ≡ record_of (rule_for first) (columns_of (size_of first) ws Q)) × (last ≡ all_sent (rule_for first) (columns_of (size_of first) ws Q))
  unfolding messages_leaves messages_sent
  sent_is r out new last e f n o = (
    n ∙ messages-pass r out e f (λ k. r) _ ∙ rw (← e, drop-length r) (append-nil (record_of (rule_for first) (columns_of (size_of first) ws Q))),
    o ∙ messages-pass r out e f (λ k. out) _ ∙ rw (← f, drop-length out) (append-nil (all_sent (rule_for first) (columns_of (size_of first) ws Q))),
  )

module _ (first g : ℕ) (start : Bool) (cs ws P r Q S : List ℕ) (U : UpdateRoom first g start cs ws P r Q S) where
  abbrev pub arrived : List ℕ
  arrived = gathered_costs P cs (old_costs first start ws r) g (size_of first) (length cs) Q

  pub arrived-columns : columns_of (size_of first) ws arrived ≡ arriving_lent (rule_for first) g start (edges_of cs ws) r P
  arrived-columns =
      let e : length (edges_of cs ws) ≡ length cs = length-edges cs ws U.same in
      gathered-arriving first cs ws U.same P (old_costs first start ws r) Q g
      ∙ arriving_ext (size_of first) (edges_of cs ws) _ _ P (λ n h. message-old first g start ws r n (omega (arith, U.same)) ∙ ap (λ w. message_lent (rule_for first) g start w r n) (sym (weights-edges cs ws U.same)))

  pub arrived-ready : Ready first ws arrived
  arrived-ready =
      let W = U.recall.weighed in
      record {
        first = W.accepted;
        two = W.two;
        few = W.few;
        weight-some = W.some;
        weight-small = W.small;
        count = length-gathered P cs (old_costs first start ws r) g (size_of first) Q (length cs) (pow_pos (power_of first)) (rw (U.same, U.for_costs) (omega arith)) ∙ U.for_costs;
        zeros = λ n h.
            let k : n < length cs = omega (arith, U.same) in
            let e : costs_at (size_of first) arrived n ≡ one_column P cs (old_costs first start ws r) g (size_of first) n = gathered-at P cs (old_costs first start ws r) g (size_of first) Q n (length cs) (pow_pos (power_of first)) k in
            let l = length-incoming (size_of first) (pow_pos (power_of first)) (column_of (size_of first) P (get_or cs n 0)) (map (scaled g) (part (old_costs first start ws r) (n * size_of first) (size_of first))) in
            let z = zero-incoming (size_of first) (pow_pos (power_of first)) (column_of (size_of first) P (get_or cs n 0)) (map (scaled g) (part (old_costs first start ws r) (n * size_of first) (size_of first))) in
            rw e (omega (arith, (first-zero z).0));
      }

  -- what each call of an update asks
  pub gather_fits : (q : ℕ) (old : List ℕ) → q ≡ size_of first → length old ≡ length S → GatherRoom P cs old g q Q
  gather_fits q old e l =
      rw e
      record {
        columns = U.columns;
        for_old = rw (U.same, l, U.recall.full) (omega arith);
        for_out = rw (U.same, U.for_costs) (omega arith);
        small = U.small;
        scale = U.scale;
        some = pow_pos (power_of first);
      }

  pub send_fits : (q : ℕ) (old new out : List ℕ) → q ≡ size_of first → old ≡ old_costs first start ws r → new ≡ gathered_costs P cs old g q (length cs) Q → length out ≡ length S → SendRoom first ws new r out
  send_fits q old new out e o n l = rw (n, o, e) record { ready = arrived-ready; for_record = U.for_record; full = l ∙ U.recall.full }

  pub scatter_fits : (q : ℕ) (now new : List ℕ) → q ≡ size_of first → length now ≡ length Q → length new ≡ length S → ScatterRoom now new cs g q P
  scatter_fits q now new e k l =
      rw e record { columns = U.columns; for_q = rw (U.same, k, U.for_costs) (omega arith); for_new = rw (U.same, l, U.recall.full) (omega arith); scale = U.scale; some = pow_pos (power_of first) }

  -- and what they leave
  costs_is : scattered arrived (expansion (rule_for first) ws (record_of (rule_for first) (columns_of (size_of first) ws arrived))) cs g (size_of first) (length cs) P ≡ costs_lent (rule_for first) g start (edges_of cs ws) r P
  unfolding costs_lent
  costs_is =
      let k : length (edges_of cs ws) ≡ length cs = length-edges cs ws U.same in
      let new : List ℕ = record_of (rule_for first) (columns_of (size_of first) ws arrived) in
      scattered-spread first cs ws U.same P arrived (expansion (rule_for first) ws new) g
      ∙ spread_ext (size_of first) (edges_of cs ws) (columns_of (size_of first) ws arrived) _ (message_lent (rule_for first) g false (weights_of (edges_of cs ws)) new) P (λ n h.
      message-expansion first g ws new n (omega (arith, U.same)) ∙ ap (λ w. message_lent (rule_for first) g false w new n) (sym (weights-edges cs ws U.same)))
      ∙ ap (λ c. spread (size_of first) (edges_of cs ws) c (message_lent (rule_for first) g false (weights_of (edges_of cs ws)) (record_of (rule_for first) c)) P) arrived-columns

  pub update_is : (q : ℕ) (old now bytes new last : List ℕ) → q ≡ size_of first → old ≡ old_costs first start ws r → now ≡ gathered_costs P cs old g q (length cs) Q
      → bytes ≡ record_of (rule_for first) (columns_of (size_of first) ws now)
      → new ≡ all_sent (rule_for first) (columns_of (size_of first) ws now)
      → last ≡ scattered now new cs g q (length cs) P
      → (last ≡ costs_lent (rule_for first) g start (edges_of cs ws) r P) × (bytes ≡ record_lent (rule_for first) g start (edges_of cs ws) r P)
  unfolding record_lent
  update_is q old now bytes new last e o n b s l =
      let i : now ≡ arrived = n ∙ rw (o, e) in
      (l ∙ rw (s, i, e, ← ready_messages first ws arrived arrived-ready) costs_is, b ∙ rw i (ap (record_of (rule_for first)) arrived-columns))
