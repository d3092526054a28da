-- The columns of an accepted check: how many, each by its place, and that they are proper, so that what is shown of proper columns holds for them.
use mathlib.Core.Path.{◌≡◌, refl, sym, ap, ◌∙◌, subst}
use mathlib.Core.List.{List, [], ◌∷◌, Memᴰ}
use Prim.Native.Nat.{ℕ, zero, suc, ◌+◌, ◌*◌, ◌≤◌, ◌<◌}
use native.Mathlib.Nat.{not-suc-le-zero, le_of_suc-le-suc, suc-mul, mul-le-mul_right}
use native.Mathlib.Omega.{arith}
use lib.Pow.{pow_mono}
use lib.ListN.{length, get_or, take, drop, length-take, length-drop}
use lib.Seq.{drop-drop}
use Rattle.trellis.specs.Check.{Column, first_zero, column}
use Rattle.trellis.specs.Rules.{rule_for, power_of, size_of, most_of, columns_of, costs_at}
use Rattle.trellis.specs.Ready.{Ready}
use Rattle.trellis.proofs.Sent.{Proper}
use Rattle.trellis.proofs.FieldLaws.{fields_at}
use Rattle.trellis.proofs.Instances.{AcceptedColumn, proper}
use Rattle.trellis.proofs.Rules.{first-power, first_joins, most-some}

pub length-columns : (q : ℕ) (ws cs : List ℕ) → length (columns_of q ws cs) ≡ length ws
unfolding columns_of
length-columns q [] cs = refl
length-columns q (h ∷ ws) cs = ap suc (length-columns q ws (drop q cs))

pub column-at : (q : ℕ) (ws cs : List ℕ) (n : ℕ) → n < length ws → column (columns_of q ws cs) n ≡ record { weight = get_or ws n 0; costs = costs_at q cs n }
unfolding columns_of
column-at q [] cs n l = absurd (not-suc-le-zero l)
column-at q (h ∷ ws) cs zero l = let z : 0 * q ≡ 0 = omega arith in rw z
column-at q (h ∷ ws) cs (suc n) l =
    column-at q ws (drop q cs) n (le_of_suc-le-suc l)
    ∙ ap {B = Column} (λ y. record { weight = get_or ws n 0; costs = take q y }) (drop-drop (n * q) q cs ∙ ap (λ y. drop y cs) (sym (suc-mul' n)))
  where
    suc-mul' : (n : ℕ) → suc n * q ≡ q + n * q
    suc-mul' n = omega (arith, suc-mul n q)

-- a list whose first zero is below its length has a zero
zero_member : (l : List ℕ) → first_zero l < length l → Memᴰ 0 l
zero_member [] h = absurd (not-suc-le-zero h)
zero_member (zero ∷ l) h = Memᴰ.head refl
zero_member (suc x ∷ l) h = Memᴰ.tail (zero_member l (le_of_suc-le-suc h))

module _ (f : ℕ) (ws cs : List ℕ) (D : Ready f ws cs) where
  abbrev q : ℕ
  q = size_of f

  abbrev the_columns : List Column
  the_columns = columns_of (size_of f) ws cs

  room : (n : ℕ) → n < length ws → n * q + q ≤ length ws * q
  room n h = rw suc-mul at (mul-le-mul_right q h)

  pub costs-length : (n : ℕ) → n < length ws → length (costs_at q cs n) ≡ q
  costs-length n h = simp (length-take, length-drop) (omega (arith, D.count, room n h))

  accepted : (n : ℕ) → n < length ws → AcceptedColumn (power_of f) (column the_columns n)
  accepted n h =
      subst (λ c. AcceptedColumn (power_of f) c) (sym (column-at q ws cs n h))
      record {
        weight-small = D.weight-small n h;
        weight-some = D.weight-some n h;
        full = costs-length n h;
        has_zero = zero_member (costs_at q cs n) (omega (arith, costs-length n h, D.zeros n h));
      }

  pub ready-low : 2 ≤ power_of f
  ready-low = (first-power f D.first).0

  pub ready-high : power_of f ≤ 6
  ready-high = (first-power f D.first).1

  pub ready_proper : Proper (rule_for f) the_columns
  ready_proper =
      let e : length the_columns ≡ length ws = length-columns q ws cs in
      proper (power_of f) (fields_at (power_of f) ready-low ready-high) (rule_for f).join (most_of f) the_columns (λ n l. accepted n (omega arith)) (first_joins f)
      (omega (arith, D.two)) (omega (arith, D.few)) (omega (arith, most-some f)) (omega (arith, pow_mono {i = 1} {j = power_of f} (omega (arith, ready-low))))
