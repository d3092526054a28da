-- One column's parts of both tables, as the loop over the columns reads them, and the room that a check takes.
use mathlib.Core.Path.{◌≡◌, refl, ◌∙◌}
use mathlib.Core.Bool.{Bool}
use mathlib.Core.List.{List}
use Prim.Native.Nat.{ℕ, ◌+◌, ◌-◌, ◌*◌, ◌≤◌, ◌<◌}
use native.Mathlib.Nat.{add-sub_cancel_left, mul-le-mul}
use native.Mathlib.Omega.{arith}
use lib.ListN.{length, get_or, take, drop}
use Rattle.trellis.specs.Lists.{tab}
use Rattle.trellis.specs.Field.{xor}
use Rattle.field.proofs.Blocks.{part_room}
use Rattle.sweep.specs.inner.Joins.{join_at, ByteCostsRoom, cells_before, cells_behind, column_sent}

-- part n from the front and from the back
pub both-rooms : (n d w : ℕ) → n < d → (n * w + w ≤ d * w) × ((d - 1 - n) * w + w ≤ d * w)
both-rooms n d w h = let k : d - 1 - n < d = omega arith in (part_room n d w h, part_room (d - 1 - n) d w k)

pub row_sizes : (q k d : ℕ) → q ≤ 64 → k ≤ 3 → d ≤ 32 → ((k + 1) * q ≤ 256) × ((d * ((k + 1) * q) ≤ 8192) × (d * q ≤ 2048))
row_sizes q k d a b c =
    let u : k + 1 ≤ 4 = omega arith in
    let v : (k + 1) * q ≤ 4 * 64 = mul-le-mul u a in
    (v, (mul-le-mul c v, mul-le-mul c a))

module _ (g : Bool) (q k : ℕ) (before after shifts : List ℕ) (n : ℕ) {s : ℕ} (e : s ≡ get_or shifts n 0) where
  abbrev w : ℕ
  w = (k + 1) * q

  abbrev m : ℕ
  m = length shifts - 1 - n

  abbrev front : List ℕ
  front = take (n * w + w - n * w) (drop (n * w) before)

  abbrev back : List ℕ
  back = take (m * w + w - m * w) (drop (m * w) after)

  pub row-bytes : ByteCostsRoom g q k (cells_before w before n) (cells_behind w after (length shifts) n) (get_or shifts n 0) → ByteCostsRoom g q k front back s
  row-bytes b = rw (e, add-sub_cancel_left (n * w) w, add-sub_cancel_left (m * w) w) b

  pub row_is : {r : List ℕ} → r ≡ tab (λ a. join_at g q k front back (xor a s)) q → r ≡ column_sent g q k before after shifts n
  row_is o = o ∙ rw (e, add-sub_cancel_left (n * w) w, add-sub_cancel_left (m * w) w) refl
