-- Buffers of 256 symbols, 16,384 costs, a store of 57,472 bytes and 256 margins are long enough for every accepted code line: 1,024 edges in all, and
-- at most 441 bytes more for each of at most 128 records.
use mathlib.Core.Path.{◌≡◌, ap, ◌∙◌}
use mathlib.Core.List.{List, [], ◌∷◌}
use Prim.Native.Nat.{ℕ, zero, suc, ◌+◌, ◌*◌, ◌-◌, ◌≤◌}
use native.Mathlib.Nat.{mul-le-mul, suc-mul}
use native.Mathlib.Omega.{arith}
use lib.Pow.{pow_mono}
use lib.ListN.{length, get_or}
use Rattle.trellis.specs.Lists.{upto}
use Rattle.trellis.specs.Record.{group_length, record_length}
use Rattle.trellis.proofs.Rules.{most-few}
use Rattle.machine.specs.CodeLine.{Edge, Code, size, rule}
use Rattle.machine.specs.Machine.{place, used}
use Rattle.machine.specs.Decoding.{Buffers, Room}
use Rattle.machine.specs.inner.Accepted.{GoodCode, edge_total}

-- a sum over a list, taken from its front
pub sum-front : (w : List Edge → ℕ) (es : List Edge) (l : List (List Edge)) (m : ℕ)
    → upto (λ k a. a + w (get_or (es ∷ l) k [])) (suc m) 0 ≡ w es + upto (λ k a. a + w (get_or l k [])) m 0
sum-front w es l zero = omega arith
sum-front w es l (suc m) = ap (λ a. a + w (get_or l m [])) (sum-front w es l m) ∙ omega arith

-- records that are at most b longer than their checks
sum-small : (w : List Edge → ℕ) (b : ℕ) → ((es : List Edge) → w es ≤ length es + b) → (l : List (List Edge))
    → upto (λ k a. a + w (get_or l k [])) (length l) 0 ≤ edge_total l + length l * b
sum-small w b h [] = omega arith
sum-small w b h (es ∷ l) = omega (arith, sum-front w es l (length l), h es, sum-small w b h l, suc-mul (length l) b)

module _ (C : Code) (G : GoodCode C) where
  size-high : size C ≤ 64
  size-high = pow_mono G.p-high

  pub groups_high : group_length (rule C) * (size C - 1) ≤ 441
  groups_high =
      let k : group_length (rule C) ≤ 7 = omega (arith, most-few C.first) in
      let n : size C - 1 ≤ 63 = omega (arith, size-high) in
      mul-le-mul k n

  pub used_high : used C ≤ 57472
  unfolding place
  used_high =
      let s = sum-small (λ es. record_length (rule C) (length es)) 441 (λ es. omega (arith, groups_high)) C.checks in
      omega (arith, s, G.edges-high, G.checks-high)

  pub costs-high : C.columns * size C ≤ 16384
  costs-high = mul-le-mul G.columns-high size-high

  pub roomy : (b : Buffers) → length b.symbols ≡ 256 → length b.costs ≡ 16384 → length b.store ≡ 57472 → length b.margins ≡ 256 → Room C b
  roomy b i j k l =
      record {
        for_symbols = omega (arith, G.columns-high);
        for_costs = omega (arith, costs-high);
        for_store = omega (arith, used_high);
        for_margins = omega (arith, G.columns-high);
      }
