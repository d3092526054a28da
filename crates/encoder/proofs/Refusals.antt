-- The refusals of encoding: the loops of their tests, and their order.
use mathlib.Core.Path.{◌≡◌, refl, sym, ap, ap₂, ◌∙◌}
use mathlib.Core.Bool.{Bool, true, false, ◌&&◌}
use mathlib.Core.List.{List}
use Rattle.std.specs.List.{list_all}
use Rattle.std.proofs.lemmas.List.{take_all}
use Rattle.std.proofs.lemmas.List.Folds.{list_all_more}
use Prim.Native.Nat.{ℕ, zero, suc, ◌+◌, ◌-◌, ◌≤◌, ◌<◌}
use native.Mathlib.Numerals.{add-one}
use native.Mathlib.Decide.{ℕ_discrete}
use native.Mathlib.Omega.{arith}
use lib.Dec.{eqb, ltb}
use lib.ListN.{length, get_or, take}
use borrow.Author.Tests.{eq-eqb, ne_eqb, lt-ltb, le-ltb}
use Rattle.trellis.specs.Lists.{all_to}
use Rattle.trellis.specs.Rules.{size_of}
use Rattle.trellis.proofs.Tests.{of_true, to_true, all_of}
use Rattle.machine.specs.CodeLine.{Code, size, check}
use Rattle.machine.specs.Encoding.{message_length, own_column, encodable, symbols_ok, encode_fault}
use Rattle.machine.specs.inner.Tables.{edges_before}
use Rattle.machine.proofs.Lists.{and_false, all-not}
use Rattle.machine.proofs.Encoding.{last_own, encodable-last, more-columns}
use Rattle.codeline.specs.declared.answers.Numbers.{Numbers}
use Rattle.codeline.specs.declared.code.Code.{Code as LentCode}
use Rattle.codeline.specs.Codes.{lent_code}
use Rattle.encoder.proofs.Filling.{counted, last-column}

-- the last column of check m
abbrev pub last_at : List ℕ → List ℕ → ℕ → ℕ
last_at ds cs m = get_or cs (edges_before ds m + (get_or ds m 0 - 1)) 0

-- one check more whose last column is its own
pub own_more : (ds cs : List ℕ) (from m at d c : ℕ) → at ≡ edges_before ds m → d ≡ get_or ds m 0 → c ≡ get_or cs (at + (d - 1)) 0 → c ≡ from + m
    → ((j : ℕ) → j < m → last_at ds cs j ≡ from + j) → (j : ℕ) → j < m + 1 → last_at ds cs j ≡ from + j
own_more ds cs from m at d c e i o k B j h =
    elim (ℕ_discrete j m) [ yes l ↦ rw l (sym (o ∙ ap₂ (λ a d. get_or cs (a + (d - 1)) 0) e i) ∙ k) | no l ↦ B j (omega arith) ]

-- the message
all_members : (p : ℕ → Bool) (w : List ℕ) (n : ℕ) → n ≤ length w → list_all p (take n w) ≡ all_to (λ i. p (get_or w i 0)) n
all_members p w zero h = refl
all_members p w (suc n) h =
    ap (λ m. list_all p (take m w)) (sym (add-one n)) ∙ list_all_more p w n 0 h ∙ ap (λ b. b && p (get_or w n 0)) (all_members p w n (omega arith))

elements_are : (q : ℕ) (w : List ℕ) → list_all (λ x. ltb x q) w ≡ symbols_ok q w
elements_are q w = ap (list_all (λ x. ltb x q)) (sym (take_all (length w) w (omega arith))) ∙ all_members (λ x. ltb x q) w (length w) (omega arith)

module _ (K : LentCode) where
  abbrev k : Numbers
  k = K.numbers

  abbrev ds : List ℕ
  ds = K.degrees.now

  abbrev cs : List ℕ
  cs = K.columns.now

  abbrev C : Code
  C = lent_code K

  -- the form, where n is N and M the number of checks
  module _ (n M : ℕ) (N : n ≡ k.columns) (e : M ≡ k.checks) where
    count-is : length C.checks ≡ M
    count-is = counted K ∙ sym e

    form-is : (ltb M n && all_to (λ m. last_own (own_column C m) (check C m)) M) ≡ encodable C
    form-is = sym (encodable-last C K.coded.good ∙ rw (count-is, ← N))

    own-column : (m : ℕ) → n - M + m ≡ own_column C m
    own-column m = rw (N, ← count-is)

    pub formed-short : n ≤ M → false ≡ encodable C
    formed-short h = sym (ap (λ b. b && all_to (λ m. last_own (own_column C m) (check C m)) M) (le-ltb M n h)) ∙ form-is

    pub formed-not : (m at d c : ℕ) → m < M → at ≡ edges_before ds m → d ≡ get_or ds m 0 → c ≡ get_or cs (at + (d - 1)) 0 → (c ≡ n - M + m → ⊥) → false ≡ encodable C
    unfolding last_own
    formed-not m at d c h a i o j =
        let x : all_to (λ m. last_own (own_column C m) (check C m)) M ≡ false =
        all-not _ m M h (ne_eqb _ (own_column C m) (λ x. j (last-column K m at d (omega arith) a i c o ∙ x ∙ sym (own-column m)))) in
        sym (ap (◌&&◌ (ltb M n)) x ∙ and_false (ltb M n)) ∙ form-is

    pub formed-done : M < n → ((j : ℕ) → j < M → last_at ds cs j ≡ n - M + j) → true ≡ encodable C
    unfolding last_own
    formed-done l B =
        let x : all_to (λ m. last_own (own_column C m) (check C m)) M ≡ true =
        to_true (all_of (λ m. last_own (own_column C m) (check C m)) M (λ m h.
        of_true (eq-eqb _ (own_column C m) (sym (last-column K m (edges_before ds m) (get_or ds m 0) (omega arith) refl refl (last_at ds cs m) refl) ∙ B m h ∙ own-column m)))) in
        sym (ap₂ ◌&&◌ (lt-ltb M n l) x) ∙ form-is

  -- the refusals, in their order
  module _ (u : List ℕ) (room : ℕ) (b : Bool) (e : b ≡ encodable C) where
    pub fault_form : b ≡ false → 17 ≡ encode_fault C u room
    unfolding encode_fault
    fault_form i = let z : encodable C ≡ false = sym e ∙ i in rw z

    module _ (i : b ≡ true) (n M : ℕ) (N : n ≡ k.columns) (o : M ≡ k.checks) where
      good-form : encodable C ≡ true
      good-form = sym e ∙ i

      length-is : length u + M ≡ n → length u ≡ message_length C
      length-is h = omega (arith, counted K)

      is-length : length u ≡ message_length C → length u + M ≡ n
      is-length h = omega (arith, counted K, more-columns C K.coded.good good-form)

      pub fault_length : (length u + M ≡ n → ⊥) → 18 ≡ encode_fault C u room
      unfolding encode_fault
      fault_length h = rw (good-form, ne_eqb (length u) (message_length C) (λ j. h (is-length j)))

      module _ (h : length u + M ≡ n) (q : ℕ) (s : q ≡ size_of k.first) (c : Bool) (j : c ≡ list_all (λ x. ltb x q) u) where
        good_length : eqb (length u) (message_length C) ≡ true
        good_length = eq-eqb (length u) (message_length C) (length-is h)

        symbols_are : (a : Bool) → c ≡ a → symbols_ok (size C) u ≡ a
        symbols_are a l = ap (λ q. symbols_ok q u) (sym s) ∙ sym (elements_are q u) ∙ sym j ∙ l

        pub fault_elements : c ≡ false → 18 ≡ encode_fault C u room
        unfolding encode_fault
        fault_elements l = rw (good-form, good_length, symbols_are false l)

        pub fault_room : c ≡ true → room < n → 2 ≡ encode_fault C u room
        unfolding encode_fault
        fault_room l r = rw (good-form, good_length, symbols_are true l, lt-ltb room k.columns (omega arith))

        pub fault_none : c ≡ true → n ≤ room → 0 ≡ encode_fault C u room
        unfolding encode_fault
        fault_none l r = rw (good-form, good_length, symbols_are true l, le-ltb room k.columns (omega arith))
