-- Selections of entries and choices: each selection in different columns is a choice of no less than the sent cost, and a cheapest choice is a
-- selection of the k + 1 cheapest entries of each row. So the sent costs from these entries are the sent costs.
use mathlib.Core.Path.{◌≡◌, refl, sym, ap, ap₂, ◌∙◌, subst}
use mathlib.Core.Bool.{Bool, true, false, not, ◌&&◌}
use mathlib.Core.Logic.{◌≢◌, ⊎_elim}
use mathlib.Core.List.Memᴰ
use mathlib.Core.List.{List, [], ◌∷◌, map, Memᴰ}
use Prim.Native.Nat.{ℕ, zero, suc, ◌*◌, ◌-◌, ◌≤◌, ◌<◌, min}
use native.Mathlib.Nat.{le_refl}
use native.Mathlib.Decide.{ℕ_discrete}
use native.Mathlib.Omega.{arith}
use lib.Dec.{T, ltb, eqb, ltb→lt, eqb→eq, eqb_refl}
use lib.ListN.{length, get_or, set, length-append, length-map, length-take}
use lib.Seq.{get_or-set_other}
use Rattle.trellis.specs.Lists.{each, keep, count_from, up_to, others, put}
use Rattle.trellis.specs.Field.{xor}
use Rattle.trellis.specs.Check.{column, Rule, Column, Fits, none, more, Allowed, cost_of, cost_at, decision, decisions, decided, sent_at, deviations, weighted_sum}
use Rattle.trellis.specs.Rows.{difference, symbol_at, entry, before, in_order, cheapest, Entry, entry_of, kept, selections, among, apart, rows_of, joined_cost, sent_from}
use Rattle.trellis.specs.Kept.{KeptCount}
use Rattle.trellis.proofs.Lists.{in_up_to, of_up_to, in_count, of_count, in_each, of_each, in_keep, of_keep, smallest_in, smallest_le}
use Rattle.trellis.proofs.Places.{length-count}
use Rattle.trellis.proofs.Xor.{xor_assoc, xor-zero, xor_self, xor_right}
use Rattle.trellis.proofs.Total.{fits_below, fits-set, at-put, others_put}
use Rattle.trellis.proofs.Sent.{Proper, deviates-small, goal, fits-decisions, decisions-cost, decisions-few, at-decisions, cost-others, put_in, sent-below, sent_is}
use Rattle.trellis.proofs.Tests.{both, fst_T, snd_T, or_left, or_right, or_cases, all-or-one}
use Rattle.trellis.proofs.Ranks.{placed}
use Rattle.trellis.proofs.InOrder.{of_take, of_order, length_order, in_first}
use Rattle.trellis.proofs.Kept.{rank, KeepsColumn, fine, improve, weight_of, difference-small, symbol-at, symbol_own, cost-set, few-set, sum-set, w₀, f₀, at₀, else₀, few₀, cost₀, sum₀, row-some}

length_rows : (f : ℕ → List Entry) (w : ℕ) (l : List ℕ) → ((x : ℕ) → length (f x) ≡ w) → length (each f l) ≡ w * length l
length_rows f w [] g = omega arith
length_rows f w (x ∷ l) g = rw (length-append (f x), g x, length_rows f w l g) (omega arith)

-- how many entries are kept
pub kept-count : KeptCount
unfolding kept cheapest
kept-count R s cs = (one, length_rows (λ a. map (entry_of R cs a) (cheapest R s cs a)) (min s (length cs)) (count_from 1 (R.size - 1)) row ∙ ap (λ n. min s (length cs) * n) (length-count 1 (R.size - 1)))
  where
    one : (a : ℕ) → length (cheapest R s cs a) ≡ min s (length cs)
    one a = length-take s (in_order (entry R cs a) (up_to (length cs))) ∙ ap (min s) (length_order (entry R cs a) (up_to (length cs)) ∙ length-count 0 (length cs))

    row : (a : ℕ) → length (map (entry_of R cs a) (cheapest R s cs a)) ≡ min s (length cs)
    row a = length-map (cheapest R s cs a) (entry_of R cs a) ∙ one a

-- a selection of at most k entries, member by member
in_selections : (k : ℕ) (es : List Entry) (e : Entry) (l : List Entry) → Memᴰ e es → Memᴰ l (selections k es) → Memᴰ (e ∷ l) (selections (suc k) es)
in_selections k es e l m i = Memᴰ.tail (in_each (λ e. map (λ l. e ∷ l) (selections k es)) m (Memᴰ.map (λ l. e ∷ l) i))

no_selection : (k : ℕ) (es : List Entry) → Memᴰ [] (selections k es)
no_selection zero es = Memᴰ.head refl
no_selection (suc k) es = Memᴰ.head refl

record Selected (k : ℕ) (es l : List Entry) : Type 0 where
  few : length l ≤ k
  from : (e : Entry) → Memᴰ e l → Memᴰ e es

of_selections : (k : ℕ) (es l : List Entry) → Memᴰ l (selections k es) → Selected k es l
of_selections zero es l m = rw (Memᴰ.eq_of_singleton m) (record { few = omega arith; from = λ e i. absurd (Memᴰ.not-nil i) })
of_selections (suc k) es l m =
    ⊎_elim
    (λ (q : l ≡ []). rw q (record { few = omega arith; from = λ e i. absurd (Memᴰ.not-nil i) }))
    (λ (i : Memᴰ l (each (λ e. map (λ l. e ∷ l) (selections k es)) es)).
    let r = of_each (λ e. map (λ l. e ∷ l) (selections k es)) es i in
    let s = Memᴰ.of_map (λ l. r.0 ∷ l) (selections k es) r.2 in
    let S = of_selections k es s.0 s.1 in
    rw (← s.2)
    (record {
      few = omega (arith, S.few);
      from = λ e j. ⊎_elim (λ (q : e ≡ r.0). rw q r.1) (λ (j : Memᴰ e s.0). S.from e j) (Memᴰ.cases_cons j);
    }))
    (Memᴰ.cases_cons m)

not_T : (b : Bool) → T (not b) → T b → ⊥
not_T true s t = s
not_T false s t = t

T_not : (b : Bool) → (T b → ⊥) → T (not b)
T_not true h = h tt
T_not false h = tt

same_right : (a b z : ℕ) → xor a z ≡ xor b z → a ≡ b
same_right a b z e = sym (simp (xor_assoc, xor_self, xor_right)) ∙ ap (λ y. xor y z) e ∙ simp (xor_assoc, xor_self, xor_right)

-- every column at its decision
all-decided : {q : ℕ} {ds : List Column} {w : List ℕ} → Fits q ds w → ((m : ℕ) → m < length ds → get_or w m 0 ≡ (decision (column ds m)).symbol) → w ≡ decisions ds
all-decided none h = refl
all-decided (more {c = c} {cs = ds} {x = x} {w = w} k f) h = go (h 0 (omega arith)) (all-decided f (λ m l. h (suc m) (omega arith)))
  where
    go : x ≡ (decision c).symbol → w ≡ decisions ds → ◌≡◌ {A = List ℕ} (x ∷ w) ((decision c).symbol ∷ decisions ds)
    go e g = rw (e, g)

module _ (R : Rule) (cs : List Column) (P : Proper R cs) where
  abbrev K : List Entry
  K = kept R (suc R.most) cs

  -- an entry of the check
  record Real (e : Entry) : Type 0 where
    row_small : e.row < R.size
    place-small : e.place < length cs
    costs : e.cost ≡ entry R cs e.row e.place

  kept_real : (e : Entry) → Memᴰ e K → Real e
  unfolding kept cheapest
  kept_real e m =
      let r = of_each (λ a. map (entry_of R cs a) (cheapest R (suc R.most) cs a)) (count_from 1 (R.size - 1)) m in
      let s = Memᴰ.of_map (entry_of R cs r.0) (cheapest R (suc R.most) cs r.0) r.2 in
      let o = of_order (entry R cs r.0) (up_to (length cs)) (of_take (suc R.most) _ s.1) in
      rw (← s.2) (record { row_small = omega (arith, of_count 1 (R.size - 1) r.0 r.1, P.wide); place-small = of_up_to o; costs = refl })

  -- a selection as a choice
  record Built (ns : List ℕ) (l : List Entry) : Type 0 where
    word : List ℕ
    fits : Fits R.size cs word
    cost : cost_of R cs word ≡ joined_cost R l
    few : deviations cs word ≤ length l
    sum : weighted_sum R cs word ≡ xor (rows_of l) (decided R cs)
    rest : (m : ℕ) → m < length cs → T (among m ns) → get_or word m 0 ≡ (decision (column cs m)).symbol

  built : (ns : List ℕ) (l : List Entry) → ((e : Entry) → Memᴰ e l → Real e) → T (apart ns l) → Built ns l
  unfolding decided entry
  built ns [] h t =
      record {
        word = decisions cs;
        fits = fits-decisions R cs P 0;
        cost = decisions-cost R cs P 0;
        few = omega (arith, decisions-few R cs P 0);
        sum = sym (xor-zero _);
        rest = λ m j i. at-decisions R cs P 0 m j;
      }
  built ns (e ∷ l) h t =
      let E = h e (Memᴰ.head refl) in
      let j = E.place-small in
      let B = built (e.place ∷ ns) l (λ f m. h f (Memᴰ.tail m)) (snd_T (not (among e.place ns)) _ t) in
      let y : ℕ = symbol_at R (column cs e.place) e.row in
      let s = symbol-at R cs P e.place j e.row E.row_small in
      let d : get_or B.word e.place 0 ≡ (decision (column cs e.place)).symbol = B.rest e.place j (or_left (eqb e.place e.place) _ (eqb_refl e.place)) in
      record {
        word = set B.word e.place y;
        fits = fits-set B.fits e.place s.1;
        cost = cost-set R cs P e.place j B.fits d s.1 ∙ rw (B.cost, E.costs);
        few = omega (arith, few-set R cs P e.place j B.fits d s.1, deviates-small (column cs e.place) y, B.few);
        sum = sum-set R cs P e.place j B.fits d s.1 ∙ rw (s.0, B.sum) (sym (xor_assoc e.row (rows_of l) _));
        rest = λ m i k.
            let m≢ : m ≢ e.place = λ q. not_T (among e.place ns) (fst_T (not (among e.place ns)) _ t) (rw q at k) in
            get_or-set_other B.word e.place m y 0 m≢ ∙ B.rest m i (or_right (eqb m e.place) _ k);
      }

  module _ (a n : ℕ) (l : n < length cs) (small : a < R.size) where
    abbrev passes : List Entry → Bool
    passes s = apart (n ∷ []) s && eqb (rows_of s) a

    -- none is cheaper than the sent cost
    none-cheaper : (s : List Entry) → Memᴰ s (selections R.most K) → T (passes s) → sent_at R cs n a ≤ joined_cost R s
    none-cheaper s m t =
        let S = of_selections R.most K s m in
        let B = built (n ∷ []) s (λ e i. kept_real e (S.from e i)) (fst_T (apart (n ∷ []) s) _ t) in
        let e : rows_of s ≡ a = eqb→eq _ _ (snd_T (apart (n ∷ []) s) _ t) in
        let g : Allowed R cs (goal R cs P a) B.word = record { fits = B.fits; few = omega (arith, B.few, S.few); sum = B.sum ∙ ap (λ y. xor y (decided R cs)) e } in
        omega (arith, B.cost, sent-below R cs P a n l B.word g (B.rest n l (or_left (eqb n n) false (eqb_refl n))))

    -- a choice whose deviations are among the cheapest, as a selection
    record Chosen (N : ℕ) (w : List ℕ) : Type 0 where
      picks : List Entry
      inside : Memᴰ picks (selections N K)
      cost : joined_cost R picks ≡ cost_of R cs w
      sum : weighted_sum R cs w ≡ xor (rows_of picks) (decided R cs)
      differ : (ns : List ℕ) → ((m : ℕ) → T (among m ns) → get_or w m 0 ≡ (decision (column cs m)).symbol) → T (apart ns picks)

    cheap-entry : (m x : ℕ) → m < length cs → x < R.size → difference R (column cs m) x ≢ 0 → rank R cs m x < suc R.most
        → Memᴰ (entry_of R cs (difference R (column cs m) x) m) K
    unfolding kept cheapest rank entry
    cheap-entry m x j h some low =
        let b : ℕ = difference R (column cs m) x in
        let e : symbol_at R (column cs m) b ≡ x = symbol_own R cs P m j x h in
        let k : length (keep (λ y. before (entry R cs b y) y (entry R cs b m) m) (up_to (length cs))) < suc R.most = rw e low in
        in_each (λ a. map (entry_of R cs a) (cheapest R (suc R.most) cs a))
        (in_count 1 (R.size - 1) b (omega (arith, some)) (omega (arith, difference-small R cs P m j x h)))
        (Memᴰ.map (entry_of R cs b) (in_first (entry R cs b) (suc R.most) (up_to (length cs)) (λ y i. omega (arith, of_up_to {n = length cs} i, P.short)) (in_up_to j) k))

    undeviating : (N : ℕ) → Chosen N (decisions cs)
    unfolding decided
    undeviating N = record { picks = []; inside = no_selection N K; cost = sym (decisions-cost R cs P 0); sum = sym (xor-zero _); differ = λ ns h. tt }

    -- a deviation m and the selection of the rest
    module _ (N : ℕ) (w : List ℕ) (f : Fits R.size cs w) (m : ℕ) (j : m < length cs) (d : get_or w m 0 ≢ (decision (column cs m)).symbol) (low : rank R cs m (get_or w m 0) < suc R.most) (C : Chosen N (w₀ R cs P w f m j d)) where
      abbrev b : ℕ
      b = difference R (column cs m) (get_or w m 0)

      own : entry R cs b m ≡ cost_at (column cs m) (get_or w m 0)
      unfolding entry
      own = ap (cost_at (column cs m)) (symbol_own R cs P m j (get_or w m 0) (fits_below f m j))

      apart_more : (ns : List ℕ) → ((i : ℕ) → T (among i ns) → get_or w i 0 ≡ (decision (column cs i)).symbol) → T (apart ns (entry_of R cs b m ∷ C.picks))
      apart_more ns h =
          both (not (among m ns)) _ (T_not (among m ns) (λ t. d (h m t)))
          (C.differ (m ∷ ns)
          (λ i t.
          elim (ℕ_discrete i m) [
            | yes e ↦ rw e (at₀ R cs P w f m j d)
            | no e ↦
                let k : T (among i ns) = ⊎_elim (λ (s : T (eqb i m)). absurd (e (eqb→eq i m s))) (λ (s : T (among i ns)). s) (or_cases (eqb i m) _ t) in
                else₀ R cs P w f m j d i e ∙ h i k
          ]))

      deviating : Chosen (suc N) w
      deviating =
          record {
            picks = entry_of R cs b m ∷ C.picks;
            inside = in_selections N K (entry_of R cs b m) C.picks (cheap-entry m (get_or w m 0) j (fits_below f m j) (row-some R cs P w f m j d) low) C.inside;
            cost = ap₂ R.join own C.cost ∙ sym (cost₀ R cs P w f m j d);
            sum = sum₀ R cs P w f m j d ∙ rw C.sum (sym (xor_assoc b (rows_of C.picks) (decided R cs)));
            differ = apart_more;
          }

    -- the columns at their decisions, or one that is not
    abbrev at? : List ℕ → ℕ → Bool
    at? w m = eqb (get_or w m 0) (decision (column cs m)).symbol

    off : (w : List ℕ) (m : ℕ) → (T (at? w m) → ⊥) → get_or w m 0 ≢ (decision (column cs m)).symbol
    off w m h e = h (rw e (eqb_refl (decision (column cs m)).symbol))

    low-rank : (w : List ℕ) (m : ℕ) → (T (at? w m) → ⊥) → T (fine R cs P a n l w m) → rank R cs m (get_or w m 0) < suc R.most
    low-rank w m h t =
        ⊎_elim (λ (s : T (at? w m)). absurd (h s)) (λ (s : T (ltb (rank R cs m (get_or w m 0)) (suc R.most))). ltb→lt _ _ s) (or_cases (at? w m) _ t)

    -- the rest is fine too
    still-fine : (w : List ℕ) (f : Fits R.size cs w) (m : ℕ) (j : m < length cs) (d : get_or w m 0 ≢ (decision (column cs m)).symbol)
        → ((i : ℕ) → i < length cs → T (fine R cs P a n l w i)) → (i : ℕ) → i < length cs → T (fine R cs P a n l (w₀ R cs P w f m j d) i)
    still-fine w f m j d all i h =
        elim (ℕ_discrete i m) [
          | yes e ↦ or_left (at? (w₀ R cs P w f m j d) i) _ (rw (e, at₀ R cs P w f m j d) (eqb_refl (decision (column cs m)).symbol))
          | no e ↦ rw (else₀ R cs P w f m j d i e) (all i h)
        ]

    chosen : (N : ℕ) (w : List ℕ) → Fits R.size cs w → ((m : ℕ) → m < length cs → T (fine R cs P a n l w m)) → deviations cs w ≤ N → Chosen N w
    chosen zero w f all few =
        ⊎_elim
        (λ (same : (m : ℕ) → m < length cs → T (at? w m)). subst (λ v. Chosen 0 v) (sym (all-decided f (λ m j. eqb→eq _ _ (same m j)))) (undeviating 0))
        (λ (one : (m : ℕ) × (m < length cs) × (T (at? w m) → ⊥)). absurd (omega (arith, few₀ R cs P w f one.0 one.1 (off w one.0 one.2))))
        (all-or-one (at? w) (length cs))
    chosen (suc N) w f all few =
        ⊎_elim
        (λ (same : (m : ℕ) → m < length cs → T (at? w m)). subst (λ v. Chosen (suc N) v) (sym (all-decided f (λ m j. eqb→eq _ _ (same m j)))) (undeviating (suc N)))
        (λ (one : (m : ℕ) × (m < length cs) × (T (at? w m) → ⊥)).
        let m : ℕ = one.0 in
        let j : m < length cs = one.1 in
        let d : get_or w m 0 ≢ (decision (column cs m)).symbol = off w m one.2 in
        deviating N w f m j d (low-rank w m one.2 (all m j))
        (chosen N (w₀ R cs P w f m j d) (f₀ R cs P w f m j d) (still-fine w f m j d all) (omega (arith, few₀ R cs P w f m j d))))
        (all-or-one (at? w) (length cs))

    -- a selection of the kept entries that costs no more than the sent cost
    best : (s : List Entry) × Memᴰ s (keep passes (selections R.most K)) × (joined_cost R s ≤ sent_at R cs n a)
    best =
        let S = sent_is R cs P a small n l in
        let z : ℕ = (decision (column cs n)).symbol in
        let w : List ℕ = put n z S.choice in
        let g : Allowed R cs (goal R cs P a) w = put_in R cs P a n l S.choice S.allowed in
        let e : get_or w n 0 ≡ z = at-put cs n z l S.allowed.fits in
        let o : others n w ≡ S.choice = others_put cs n z l S.allowed.fits in
        let c : cost_of R cs w ≡ sent_at R cs n a = cost-others R cs P a n l w g.fits e ∙ ap (cost_of R (others n cs)) o ∙ S.attained in
        let r = improve R cs P a n l (suc (placed (weight_of R cs P) 0 w)) w (record { good = g; here = e }) (le_refl _) in
        let v : List ℕ = r.0 in
        let k : KeepsColumn R cs P a n v = r.1 in
        let C = chosen R.most v k.good.fits r.3 k.good.few in
        let at_n : (m : ℕ) → T (among m (n ∷ [])) → get_or v m 0 ≡ (decision (column cs m)).symbol =
        λ m t. let q : m ≡ n = ⊎_elim (λ (s : T (eqb m n)). eqb→eq m n s) (λ (s : ⊥). absurd s) (or_cases (eqb m n) false t) in rw q k.here in
        let q : rows_of C.picks ≡ a = same_right (rows_of C.picks) a (decided R cs) (sym C.sum ∙ k.good.sum) in (
          C.picks,
          in_keep passes C.inside (both (apart (n ∷ []) C.picks) _ (C.differ (n ∷ []) at_n) (rw q (eqb_refl a))),
          omega (arith, r.2, c, C.cost),
        )

    -- sent costs from the k + 1 cheapest entries of each row are the sent costs
    pub kept-sent : sent_from R (kept R (suc R.most) cs) n a ≡ sent_at R cs n a
    unfolding sent_from
    kept-sent =
        let m = Memᴰ.map (joined_cost R) best.1 in
        let r = Memᴰ.of_map (joined_cost R) (keep passes (selections R.most K)) (smallest_in m) in
        let h = of_keep passes (selections R.most K) r.1 in
        omega (arith, smallest_le m, best.2, r.2, none-cheaper r.0 h.0 h.1)
