-- The call rows by its test: when the products fit, and what it leaves.
use mathlib.Core.Path.{◌≡◌, refl, ◌∙◌, sym}
use mathlib.Core.Bool.{true, ◌&&◌}
use mathlib.Core.List.{List}
use Prim.Native.Nat.{ℕ, ◌*◌, ◌^◌, ◌≤◌}
use borrow.Author.Tests.{eq-eqb, le-leb}
use lib.Dec.{T, leb, eqb, ltb, leb→le, eqb→eq, ltb→lt, lt→ltb}
use lib.ListN.{length, get_or}
use Rattle.trellis.specs.Lists.{blocks}
use Rattle.trellis.proofs.Tests.{fst_T, snd_T, of_true, to_true, all-at, all_of}
use Rattle.field.specs.Answers.{elements_ok, row_of, rows_fit, rows_leave}
use Rattle.field.specs.inner.Asks.{Factors}

module _ (p : ℕ) (ws : List ℕ) (room : ℕ) where
  fits_last : 2 ≤ p → p ≤ 6 → length ws ≤ 32 → room ≡ length ws * 2 ^ p → elements_ok (2 ^ p) ws ≡ rows_fit p ws room
  unfolding rows_fit
  fits_last a b c h = sym (rw (le-leb 2 p a, le-leb p 6 b, le-leb (length ws) 32 c, eq-eqb room (length ws * 2 ^ p) h) refl)

  -- what is known where they fit
  pub fitting : rows_fit p ws room ≡ true → Factors p ws × (room ≡ length ws * 2 ^ p)
  unfolding rows_fit
  fitting e =
      let d = eqb room (length ws * 2 ^ p) && elements_ok (2 ^ p) ws in
      let c = leb (length ws) 32 && d in
      let b = leb p 6 && c in
      let t : T (leb 2 p && b) = of_true e in
      let u : T b = snd_T (leb 2 p) b t in
      let v : T c = snd_T (leb p 6) c u in
      let w : T d = snd_T (leb (length ws) 32) d v in
      let x : T (elements_ok (2 ^ p) ws) = snd_T (eqb room (length ws * 2 ^ p)) (elements_ok (2 ^ p) ws) w in (
        record {
          low = leb→le 2 p (fst_T (leb 2 p) b t);
          high = leb→le p 6 (fst_T (leb p 6) c u);
          few = leb→le (length ws) 32 (fst_T (leb (length ws) 32) d v);
          elements = λ n h. ltb→lt _ _ (all-at (λ i. ltb (get_or ws i 0) (2 ^ p)) (length ws) x n h);
        },
        eqb→eq room (length ws * 2 ^ p) (fst_T (eqb room (length ws * 2 ^ p)) (elements_ok (2 ^ p) ws) w),
      )

  pub fits : Factors p ws → room ≡ length ws * 2 ^ p → rows_fit p ws room ≡ true
  fits F e = sym (fits_last F.low F.high F.few e) ∙ to_true (all_of (λ i. ltb (get_or ws i 0) (2 ^ p)) (length ws) (λ n h. lt→ltb _ _ (F.elements n h)))

-- what the call leaves
module _ (p : ℕ) (ws out : List ℕ) where
  rows_done : rows_fit p ws (length out) ≡ true → blocks (row_of p ws) (length ws) ≡ rows_leave p ws out
  unfolding rows_leave
  rows_done e = sym (rw e refl)

-- for the crates above: weights that are elements, and room for their products
pub rows_filled : (p : ℕ) (ws out : List ℕ) → Factors p ws → length out ≡ length ws * 2 ^ p → rows_leave p ws out ≡ blocks (row_of p ws) (length ws)
rows_filled p ws out F e = sym (rows_done p ws out (fits p ws (length out) F e))
