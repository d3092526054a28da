-- The six bytes and the bits of pending by number: what the last arms of the matches give.
use mathlib.Core.Path.{◌≡◌, refl}
use Prim.Native.Nat.{ℕ, zero, suc}
use Rattle.window.specs.Window.{Registers, read, bit_for}

-- byte 0, or a byte past 5
pub at_other : (r : Registers) (a : ℕ) → (a ≡ 1 → ⊥) → (a ≡ 2 → ⊥) → (a ≡ 3 → ⊥) → (a ≡ 4 → ⊥) → (a ≡ 5 → ⊥) → 0 ≡ read r a
unfolding read
at_other r zero h i j k l = refl
at_other r (suc zero) h i j k l = absurd (h refl)
at_other r (suc (suc zero)) h i j k l = absurd (i refl)
at_other r (suc (suc (suc zero))) h i j k l = absurd (j refl)
at_other r (suc (suc (suc (suc zero)))) h i j k l = absurd (k refl)
at_other r (suc (suc (suc (suc (suc zero))))) h i j k l = absurd (l refl)
at_other r (suc (suc (suc (suc (suc (suc a)))))) h i j k l = refl

-- a state that sets no bit
pub no_bit : (s : ℕ) → (s ≡ 2 → ⊥) → (s ≡ 3 → ⊥) → (s ≡ 4 → ⊥) → ◌≡◌ {A = ℕ} 0 (bit_for s)
no_bit zero h i j = refl
no_bit (suc zero) h i j = refl
no_bit (suc (suc zero)) h i j = absurd (h refl)
no_bit (suc (suc (suc zero))) h i j = absurd (i refl)
no_bit (suc (suc (suc (suc zero)))) h i j = absurd (j refl)
no_bit (suc (suc (suc (suc (suc s))))) h i j = refl
