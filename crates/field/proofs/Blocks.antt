-- One of several blocks of w elements.
use mathlib.Core.Path.{◌≡◌, sym, ap, ◌∙◌}
use mathlib.Core.List.{List, ◌++◌}
use Prim.Native.Nat.{ℕ, zero, suc, ◌+◌, ◌*◌, ◌≤◌, ◌<◌}
use native.Mathlib.Nat.{not-suc-le-zero, le_of_suc-le-suc, suc-mul, mul-le-mul_right, add_comm}
use native.Mathlib.Omega.{arith}
use lib.ListN.{length, drop, get_or}
use lib.Seq.{take_at, drop_at, drop-drop, get_or-take, get_or-drop}
use Rattle.trellis.specs.Lists.{blocks, part}
use Rattle.trellis.proofs.Loops.{blocks-front}

-- block n of d has its place among them
pub part_room : (n d w : ℕ) → n < d → n * w + w ≤ d * w
part_room n d w h = rw suc-mul at (mul-le-mul_right w h)

-- d times q, where both are small
pub mul_small : (d w : ℕ) → d ≤ 32 → w < 256 → d * w ≤ 8192
mul_small d w h k = omega (arith, mul-le-mul_right w h)

module _ (w : ℕ) where
  pub block_at : (f : ℕ → List ℕ) → ((j : ℕ) → length (f j) ≡ w) → (n m : ℕ) → m < n → part (blocks f n) (m * w) w ≡ f m
  block_at f g zero m l = absurd (not-suc-le-zero l)
  block_at f g (suc n) zero l = let z : 0 * w ≡ 0 = omega arith in rw (z, blocks-front f n) (take_at (f 0) (blocks (λ j. f (suc j)) n) w (g 0))
  block_at f g (suc n) (suc m) l =
      let e : suc m * w ≡ w + m * w = suc-mul m w ∙ add_comm (m * w) w in
      rw (e, blocks-front f n, ← drop-drop (m * w) w (f 0 ++ blocks (λ j. f (suc j)) n), drop_at (f 0) (blocks (λ j. f (suc j)) n) w (g 0))
      (block_at (λ j. f (suc j)) (λ j. g (suc j)) n m (le_of_suc-le-suc l))

  -- an element of it
  pub in_block : (f : ℕ → List ℕ) → ((j : ℕ) → length (f j) ≡ w) → (d n x : ℕ) → n < d → x < w → get_or (blocks f d) (n * w + x) 0 ≡ get_or (f n) x 0
  in_block f g d n x h k = sym (get_or-take w (drop (n * w) (blocks f d)) x 0 k ∙ get_or-drop (n * w) (blocks f d) x 0) ∙ ap (λ y. get_or y x 0) (block_at f g d n h)
