-- Neither factor is refused, so the answer is the product.
use mathlib.Core.Path.{◌≡◌, refl, ap}
use Prim.Native.Nat.{ℕ}
use borrow.Author.Rules.{rules}
use Rattle.std.specs.Prelude.{Result, Ok, Err}
use Rattle.refusal.specs.declared.Refusal.{Refusal}
use Rattle.trellis.specs.Field.{product}
use Rattle.field.proofs.ProductCall.{is_product, never_refused}
use Rattle.sweep.proofs.columns.times.Goals as goal

product_ok : (n : ℕ) (e : Result ℕ Refusal) → ((x : ℕ) → e ≡ Ok x → x ≡ n) → ((r : Refusal) → e ≡ Err r → ⊥) → e ≡ Ok n
product_ok n (Ok x) f g = ap (λ y. Ok y) (f x refl)
product_ok n (Err r) f g = absurd (g r refl)

pub unwrap-requires : goal.unwrap-requires
unwrap-requires c =
    let a = c.args in
    let r = c.requires in
    let e = product_ok (product a.p a.a a.b) c.product.result (is_product a.p a.a a.b r.0 r.1.0 r.1.1.0 r.1.1.1 c.product.result c.product.ensures) (never_refused a.p a.a a.b r.0 r.1.0 r.1.1.0 r.1.1.1 c.product.result c.product.ensures) in
    rw e (search rules)

pub returns : goal.returns
returns c =
    let a = c.args in
    let r = c.requires in
    is_product a.p a.a a.b r.0 r.1.0 r.1.1.0 r.1.1.1 c.product.result c.product.ensures _ c.unwrap.ensures
