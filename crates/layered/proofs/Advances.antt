-- The loop over the updates: each finds what it asks for, deciding its columns again gives the decisions after it, and what is left to run gives the
-- same as the whole.
use mathlib.Core.Path.{◌≡◌, refl, sym, ap, ap₂, ◌∙◌}
use mathlib.Core.Bool.{Bool, true, false}
use mathlib.Core.List.{List}
use Prim.Native.Nat.{ℕ, zero, suc, ◌+◌, ◌-◌, ◌%◌, ◌<◌}
use native.Mathlib.Nat.{mod-eq_of_lt}
use native.Mathlib.Numerals.{add-one}
use native.Mathlib.Omega.{arith}
use lib.Dec.{eqb, ltb}
use lib.ListN.{length, get_or, set}
use Rattle.trellis.specs.Lists.{pick, upto, tab}
use Rattle.trellis.specs.Check.{decide}
use Rattle.machine.specs.CodeLine.{Code, size, check, edge_at, column_of}
use Rattle.machine.specs.Machine.{found, not_found, symbols, settled}
use Rattle.machine.specs.Lent.{Lent, lent, ended, update_lent}
use Rattle.machine.specs.inner.LentEarly.{next_lent, stop_lent}
use Rattle.machine.specs.inner.Tables.{edges_before, bytes_before, table_at}
use Rattle.machine.specs.inner.InRange.{Advancing}
use Rattle.trellis.proofs.Loops.{length-tab}
use Rattle.machine.proofs.Changed.{redone}
use Rattle.machine.proofs.Redone.{redecided_lent}
use Rattle.machine.proofs.EarlyPassing.{next-check, check-small, advancing-start, advanced, next-formed}
use Rattle.machine.proofs.InTables.{columns-length, degree_is, column-part}
use Rattle.codeline.specs.declared.code.Code.{Code as LentCode}
use Rattle.codeline.specs.Answers.{numbers_in}
use Rattle.codeline.specs.Codes.{lent_code}
use Rattle.layered.specs.declared.answers.Outcome.TheVariants.{Found, NotFound}
use Rattle.layered.specs.declared.parity.CheckAt.{CheckAt}
use Rattle.layered.specs.declared.place.Place.{Place}
use Rattle.layered.specs.inner.Parity.{EdgeOf}
use Rattle.layered.specs.inner.Iterations.{ended_in, RunRoom}
use Rattle.layered.specs.inner.Places.{Stands, Around, Updatable}
use Rattle.layered.specs.inner.Early.{decided_again, RetestRoom, RetestedAt, Unsettled, Going}
use Rattle.layered.proofs.Places.{stands_own}
use Rattle.layered.proofs.Satisfied.{symbols_are}
use Rattle.layered.proofs.Runs.{checks-count}

-- loops whose steps agree
upto_ext : {A : Type 0} (n : ℕ) (f g : ℕ → A → A) (s : A) → ((k : ℕ) → k < n → (x : A) → f k x ≡ g k x) → upto f n s ≡ upto g n s
upto_ext zero f g s h = refl
upto_ext (suc n) f g s h = h n (omega arith) (upto f n s) ∙ ap (g n) (upto_ext n f g s (λ k i. h k (omega arith)))

-- behind the last check the first comes again
module _ (first : ℕ) (ds : List ℕ) (n : ℕ) (p r : Place) (A : Around n p r) where
  pub around_stands : Stands first ds p.check p → Stands first ds r.check r
  unfolding bytes_before
  around_stands S = by (eqb p.check (n)) refl
    where
      by : (b : Bool) → eqb p.check (n) ≡ b → Stands first ds r.check r
      by true e =
          let c : r.check ≡ 0 = A.check_is ∙ ap (λ b. pick b 0 p.check) e in
          record {
            check_is = refl;
            edge_is = A.edge_is ∙ ap (λ b. pick b 0 p.edge) e ∙ sym (ap (edges_before ds) c);
            byte_is = A.byte_is ∙ ap (λ b. pick b 0 p.byte) e ∙ sym (ap (bytes_before first ds) c);
          }
      by false e =
          let c : r.check ≡ p.check = A.check_is ∙ ap (λ b. pick b 0 p.check) e in
          record {
            check_is = refl;
            edge_is = A.edge_is ∙ ap (λ b. pick b 0 p.edge) e ∙ S.edge_is ∙ sym (ap (edges_before ds) c);
            byte_is = A.byte_is ∙ ap (λ b. pick b 0 p.byte) e ∙ S.byte_is ∙ sym (ap (bytes_before first ds) c);
          }

  pub around_next : (u c : ℕ) → 0 < n → c ≡ u % n → p.check ≡ c + 1 → r.check ≡ (u + 1) % n
  around_next u c h e i =
      let k : p.check ≡ u % n + 1 = i ∙ ap (λ j. j + 1) e in
      A.check_is ∙ ap (λ j. pick (eqb j n) 0 j) k ∙ sym (next-check u n h) ∙ ap (λ j. j % n) (sym (add-one u))

-- what is left of the updates, after u of them that have not satisfied every check
module _ (C : Code) (most u : ℕ) (l l₀ : Lent) (not : settled C l.costs ≡ false) (left : stop_lent C (most - u) u l ≡ stop_lent C most 0 l₀) where
  pub stop_end : u ≡ most → ended not_found u l ≡ stop_lent C most 0 l₀
  unfolding stop_lent
  stop_end e = let z : most - u ≡ 0 = omega arith in sym (rw (z, not)) ∙ left

  module _ (h : u < most) (l' : Lent) (o : l' ≡ next_lent C u l) where
    pub stop_more : stop_lent C (most - (u + 1)) (u + 1) l' ≡ stop_lent C most 0 l₀
    unfolding stop_lent
    stop_more = let z : most - u ≡ suc (most - (u + 1)) = omega arith in ap (stop_lent C (most - (u + 1)) (u + 1)) o ∙ sym (rw (z, not)) ∙ left

    pub stop_found : settled C l'.costs ≡ true → ended found (u + 1) l' ≡ stop_lent C most 0 l₀
    unfolding stop_lent
    stop_found e = sym (by (most - (u + 1))) ∙ stop_more
      where
        by : (k : ℕ) → stop_lent C k (u + 1) l' ≡ ended found (u + 1) l'
        by zero = rw e
        by (suc k) = rw e

module _ (K : LentCode) (P s z : List ℕ) (u : ℕ) (U : Unsettled K u P s z) where
  abbrev C : Code
  C = lent_code K

  many : length C.checks ≡ K.numbers.checks
  many = checks-count K

  pub some-check : 0 < K.numbers.checks
  some-check = omega (arith, many, K.coded.good.checks-low)

  -- the next update
  module _ (m : ℕ) (e : m ≡ u % K.numbers.checks) (b : Bool) (i : b ≡ ltb u K.numbers.checks) where
    here : m ≡ u % length C.checks
    here = e ∙ ap (λ k. u % k) (sym many)

    in_checks : m < length C.checks
    in_checks = omega (arith, here, check-small C K.coded.good u)

    in_code : m < K.numbers.checks
    in_code = omega (arith, in_checks, many)

    pub next-updatable : Updatable K b m P s
    next-updatable =
        record {
          in_code = in_code;
          ranged = U.advancing.ranged;
          room = U.advancing.room;
          formed = λ f. rw here (next-formed C K.coded.good u (lent P s) U.advancing (ap (ltb u) many ∙ sym i ∙ f));
        }

    -- and after it
    module _ (P' s' : List ℕ) (o : lent P' s' ≡ update_lent C b m (lent P s)) where
      pub as_next : lent P' s' ≡ next_lent C u (lent P s)
      as_next = o ∙ ap₂ (λ a k. update_lent C a k (lent P s)) (i ∙ ap (ltb u) (sym many)) here

      next-advancing : Advancing C K.coded.good (suc u) (lent P' s')
      next-advancing = rw as_next (advanced C K.coded.good u (lent P s) U.advancing)

      abbrev own : List ℕ
      own = table_at K.degrees.now K.columns.now m

      own_length : length own ≡ length (check C m)
      own_length =
          columns-length (numbers_in K.numbers) K.degrees.now K.columns.now K.weights.now K.coded.for_columns K.coded.for_weights m in_code
          ∙ sym (degree_is (numbers_in K.numbers) K.degrees.now K.columns.now K.weights.now K.coded.for_columns K.coded.for_weights m in_code)

      own-column : (n : ℕ) → get_or own n 0 ≡ (edge_at (check C m) n).column
      own-column = column-part (numbers_in K.numbers) K.degrees.now K.columns.now K.weights.now K.coded.for_columns K.coded.for_weights m in_code

      -- its columns decided again give the decisions of the new costs
      decided-then : decided_again (size C) P' own (length own) (symbols C P) ≡ symbols C P'
      unfolding decided_again redone
      decided-then =
          let p : P' ≡ (update_lent C b m (lent P s)).costs = ap (λ (l : Lent). l.costs) o in
          ap (λ y. decided_again (size C) P' own (length own) y) (sym (symbols_are K P))
          ∙ ap (λ k. decided_again (size C) P' own k (tab (λ c. (decide (column_of (size C) P c)).symbol) C.columns)) own_length
          ∙ upto_ext (length (check C m)) _ _ _ (λ k h y. ap (λ c. set y c (decide (column_of (size C) P' c)).symbol) (own-column k))
          ∙ rw p (redecided_lent C K.coded.good (λ (l : List ℕ). (decide l).symbol) b (lent P s) U.advancing.ranged U.advancing.room m in_checks)
          ∙ symbols_are K P'

      pub next_retest : (p : Place) → p.check ≡ m → p.edge ≡ edges_before K.degrees.now p.check → (from : CheckAt) → EdgeOf K.degrees.now from → from.check < K.numbers.checks
          → (full : length z ≡ K.numbers.columns) → RetestRoom K p from P' z
      next_retest p x y from v w full =
          record {
            settled-room = record { ranged = next-advancing.ranged; symbols = full };
            inside = omega (arith, x, in_code);
            edge_is = y;
            from_edge = v;
            from_inside = w;
            old = P;
            decided = U.decided;
            unsettled = U.unsettled;
            again = ap (λ k. decided_again (size C) P' (table_at K.degrees.now K.columns.now k) (length (table_at K.degrees.now K.columns.now k)) (symbols C P)) x ∙ decided-then;
          }

      -- where they do not satisfy every check either
      pub next-unsettled : (y : List ℕ) → y ≡ symbols C P' → settled C P' ≡ false → Unsettled K (u + 1) P' s' y
      next-unsettled y d f = record { advancing = rw (add-one u) next-advancing; decided = d; unsettled = f }

  pub unsettled-full : length z ≡ K.numbers.columns
  unsettled-full = ap length (U.decided ∙ sym (symbols_are K P)) ∙ length-tab (λ c. (decide (column_of (size C) P c)).symbol) K.numbers.columns

-- once around the loop
module _ (K : LentCode) (most : ℕ) (l₀ : Lent) where
  abbrev D : Code
  D = lent_code K

  pub going_start : (P s z : List ℕ) → Unsettled K 0 P s z → lent P s ≡ l₀ → Going K most l₀ 0 (record { check = 0; edge = 0; byte = 0 }) (record { check = 0; edge = 0 }) P s z
  unfolding bytes_before
  going_start P s z U i =
      let h = some-check K P s z 0 U in
      record {
        at_most = omega arith;
        check_is = sym (mod-eq_of_lt h);
        stands = record { check_is = refl; edge_is = refl; byte_is = refl };
        from_edge = refl;
        from_inside = h;
        unsettled = U;
        left = let z : most - 0 ≡ most = omega arith in ap₂ (λ k l. stop_lent D k 0 l) z i;
      }

  module _ (u : ℕ) (here : Place) (from : CheckAt) (P s z : List ℕ) (G : Going K most l₀ u here from P s z) where
    pub going_end : u ≡ most → ended_in (NotFound u) (lent P s) ≡ stop_lent D most 0 l₀
    going_end e = stop_end D most u (lent P s) l₀ G.unsettled.unsettled G.left e

    module _ (b : Bool) (i : b ≡ ltb u K.numbers.checks) where
      pub going_updatable : Updatable K b here.check P s
      going_updatable = next-updatable K P s z u G.unsettled here.check G.check_is b i

      module _ (P' s' : List ℕ) (o : lent P' s' ≡ update_lent D b here.check (lent P s)) where
        pub going_retest : RetestRoom K here from P' z
        going_retest =
            next_retest K P s z u G.unsettled here.check G.check_is b i P' s' o here refl G.stands.edge_is from G.from_edge G.from_inside
            (unsettled-full K P s z u G.unsettled)

        module _ (h : u < most) where
          on : lent P' s' ≡ next_lent D u (lent P s)
          on = as_next K P s z u G.unsettled here.check G.check_is b i P' s' o

          pub going_found : settled D P' ≡ true → ended_in (Found (u + 1)) (lent P' s') ≡ stop_lent D most 0 l₀
          going_found e = stop_found D most u (lent P s) l₀ G.unsettled.unsettled G.left h (lent P' s') on e

          pub going_next : (r : CheckAt) → RetestedAt D K.degrees.now P' r → (n : ℕ) → n ≡ K.numbers.checks → (next here' : Place) → Stands K.numbers.first K.degrees.now (here.check + 1) next
              → Around n next here' → (y : List ℕ) → y ≡ symbols D P' → Going K most l₀ (u + 1) here' r P' s' y
          going_next r R n all next here' S A y d =
              record {
                at_most = omega arith;
                check_is = around_next K.numbers.first K.degrees.now K.numbers.checks next here' (rw all at A) u here.check (some-check K P s z u G.unsettled) G.check_is S.check_is;
                stands = around_stands K.numbers.first K.degrees.now n next here' A (stands_own K.numbers.first K.degrees.now _ next S);
                from_edge = R.edge_is;
                from_inside = omega (arith, R.inside, checks-count K);
                unsettled = next-unsettled K P s z u G.unsettled here.check G.check_is b i P' s' o y d R.unsettled;
                left = stop_more D most u (lent P s) l₀ G.unsettled.unsettled G.left h (lent P' s') on;
              }

-- the first test
pub stop_first : (C : Code) (k u : ℕ) (l : Lent) → settled C l.costs ≡ true → ended found u l ≡ stop_lent C k u l
unfolding stop_lent
stop_first C zero u l e = sym (rw e)
stop_first C (suc k) u l e = sym (rw e)

pub first-unsettled : (K : LentCode) (P s z A S : List ℕ) → RunRoom K true P s z A S → (y : List ℕ) → y ≡ symbols (lent_code K) P
    → settled (lent_code K) P ≡ false → Unsettled K 0 P s y
first-unsettled K P s z A S R y d f =
    let r = R.iterate.running in
    record {
      advancing = advancing-start (lent_code K) K.coded.good (lent P s) r.passable.ranged r.passable.room;
      decided = d;
      unsettled = f;
    }
