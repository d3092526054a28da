-- A product of elements is not refused: what a call of product answers, for the crates above.
use mathlib.Core.Path.{◌≡◌, sym, ap, ◌∙◌}
use mathlib.Core.Bool.{true, false}
use Prim.Native.Nat.{ℕ, ◌^◌, ◌≤◌, ◌<◌}
use Rattle.std.specs.Prelude.{Result, Ok, Err}
use native.Mathlib.Omega.{arith}
use borrow.Author.Tests.{le-ltb, lt-leb}
use Rattle.trellis.specs.Field.{product}
use Rattle.trellis.specs.Reply.{Reply, accepted}
use Rattle.refusal.specs.Replies.{reply_of}
use Rattle.refusal.specs.declared.Refusal.{Refusal}
use Rattle.field.specs.Answers.{product_reply}

module _ (p a b : ℕ) (low : 2 ≤ p) (high : p ≤ 6) (h : a < 2 ^ p) (k : b < 2 ^ p) (e : Result ℕ Refusal) (r : reply_of e ≡ product_reply p a b) where
  accepts : reply_of e ≡ accepted (product p a b)
  unfolding product_reply
  accepts = r ∙ rw (le-ltb p 2 low, le-ltb 6 p high, lt-leb (2 ^ p) a h, lt-leb (2 ^ p) b k)

  pub is_product : (x : ℕ) → e ≡ Ok x → x ≡ product p a b
  is_product x i = ap (λ (r : Reply). r.value) (ap reply_of (sym i) ∙ accepts)

  pub never_refused : (n : Refusal) → e ≡ Err n → ⊥
  never_refused n i = let z : true ≡ false = ap (λ (r : Reply). r.refused) (ap reply_of (sym i) ∙ accepts) in let y : ◌≡◌ {A = ℕ} 0 1 = cc in omega arith
