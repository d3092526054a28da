-- A table is the list of a function's values: what stands at a place is the value there.
use mathlib.Core.Path.{◌≡◌, ◌∙◌, sym, ap, ap₂, refl}
use mathlib.Core.Bool.{Bool, true, false, ◌&&◌}
use mathlib.Core.List.{List, [], ◌∷◌}
use Prim.Native.Nat.{ℕ, zero, suc, ◌+◌, ◌*◌, ◌/◌, ◌%◌, ◌<◌}
use native.Mathlib.Nat.{add-zero, zero-add, add-suc, suc-add, le_of_suc-le-suc, not-suc-le-zero}
use native.Mathlib.Omega.{arith}
use lib.Arith.{digits_div, digits_mod}
use lib.Dec.{T, eqb, eqb→eq}
use lib.ListN.{length, get_or, take, drop, length-drop}
use lib.Seq.{length-take-le, get_or-take, get_or-drop}
use Rattle.trellis.specs.Lists.{tab}
use Rattle.trellis.specs.Field.{product}
use Rattle.trellis.proofs.Tests.{fst_T, snd_T}
use Rattle.std.proofs.lemmas.Grind.{same_number_lists}
use Rattle.trellis.proofs.Loops.{length-tab, get_d_tab}
use Rattle.field.specs.inner.Table.{build, product_table}

-- two lists with the same elements, by a test that computes
abbrev pub same : List ℕ → List ℕ → Bool
same [] [] = true
same [] (y ∷ l) = false
same (x ∷ k) [] = false
same (x ∷ k) (y ∷ l) = eqb x y && same k l

pub same_is : (k l : List ℕ) → T (same k l) → k ≡ l
same_is [] [] t = refl
same_is [] (y ∷ l) t = absurd t
same_is (x ∷ k) [] t = absurd t
same_is (x ∷ k) (y ∷ l) t = ap₂ (λ z m. z ∷ m) (eqb→eq x y (fst_T (eqb x y) (same k l) t)) (same_is k l (snd_T (eqb x y) (same k l) t))

build_from : (f : ℕ → ℕ) (n i k : ℕ) → k < n → get_or (build f i n) k 0 ≡ f (i + k)
build_from f zero i k h = absurd (not-suc-le-zero h)
build_from f (suc n) i zero h = ap f (sym (add-zero i))
build_from f (suc n) i (suc k) h = build_from f n (suc i) k (le_of_suc-le-suc h) ∙ ap f (suc-add i k ∙ sym (add-suc i k))

build-length : (f : ℕ → ℕ) (n i : ℕ) → length (build f i n) ≡ n
build-length f zero i = refl
build-length f (suc n) i = ap suc (build-length f n (suc i))

pub table-length : length product_table ≡ 4096
unfolding product_table
table-length = build-length (λ k. product 6 (k / 64) (k % 64)) 4096 0

pub table_at : (a b : ℕ) → a < 64 → b < 64 → get_or product_table (a * 64 + b) 0 ≡ product 6 a b
unfolding product_table
table_at a b h k =
    build_from (λ k. product 6 (k / 64) (k % 64)) 4096 0 (a * 64 + b) (omega arith)
    ∙ ap (λ i. product 6 (i / 64) (i % 64)) (zero-add (a * 64 + b))
    ∙ ap₂ (product 6) (digits_div a k) (digits_mod a k)

-- row h of the table
pub row_is : (T : List ℕ) (h : ℕ) → T ≡ product_table → h < 64 → take 64 (drop (h * 64) T) ≡ tab (product 6 h) 64
row_is T h t l =
    let n : length T ≡ 4096 = ap length t ∙ table-length in
    let m : length (take 64 (drop (h * 64) T)) ≡ 64 = length-take-le 64 (drop (h * 64) T) (rw (length-drop (h * 64) T) (omega arith)) in
    same_number_lists (take 64 (drop (h * 64) T)) (tab (product 6 h) 64) (m ∙ sym (length-tab (product 6 h) 64))
    (λ x k.
    let i : x < 64 = omega arith in
    get_or-take 64 (drop (h * 64) T) x 0 i ∙ get_or-drop (h * 64) T x 0 ∙ ap (λ l. get_or l (h * 64 + x) 0) t ∙ table_at h x l i ∙ sym (get_d_tab (product 6 h) 64 x i))
