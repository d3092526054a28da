-- Two accepted records show the same exactly when their shifts are the same; a shown symbol is one that costs the column nothing.
use mathlib.Core.Path.{◌≡◌, refl, sym, ap, ◌∙◌}
use mathlib.Core.List.{List, [], ◌∷◌}
use Prim.Native.Nat.{ℕ, ◌<◌}
use native.Mathlib.Omega.{arith}
use lib.Dec.{T}
use lib.ListN.{length, get_or, take, length-map, length-take}
use lib.Seq.{ext_get_or, get_or-take}
use Rattle.trellis.specs.Lists.{up_to}
use Rattle.trellis.specs.Field.{xor, product, quotient}
use Rattle.trellis.specs.Record.{read_at, expand_at}
use Rattle.trellis.specs.Rules.{power_of, size_of, rule_for}
use Rattle.trellis.specs.Display.{displayed, shown_at, Stored, DisplayEqual, ShiftsAlone, Urged, UrgedTowards}
use Rattle.trellis.proofs.Lists.{of_up_to}
use Rattle.trellis.proofs.Places.{length-count, at-map-count, map_ext}
use Rattle.trellis.proofs.Xor.{xor_self}
use Rattle.trellis.proofs.FieldLaws.{field, fields_at}
use Rattle.trellis.proofs.Rules.{first-power}
use Rattle.trellis.proofs.Form.{form-front}
use Rattle.trellis.proofs.Quotients.{quotient-times, quotient-small, quotient-one}

pub length-displayed : (p : ℕ) (ws r : List ℕ) → length (displayed p ws r) ≡ length ws
unfolding displayed
length-displayed p ws r = length-map (up_to (length ws)) _ ∙ length-count 0 (length ws)

pub displayed-at : (p : ℕ) (ws r : List ℕ) (n : ℕ) → n < length ws → get_or (displayed p ws r) n 0 ≡ quotient p (get_or ws n 0) (get_or r n 0)
unfolding displayed
displayed-at p ws r n l = at-map-count (λ n. quotient p (get_or ws n 0) (get_or r n 0)) 0 (length ws) n 0 l ∙ ap (λ n. quotient p (get_or ws n 0) (get_or r n 0)) (omega arith)

pub shifts_alone : ShiftsAlone
unfolding displayed
shifts_alone p ws r r' i =
    map_ext (λ n m. let h : n < length ws = of_up_to m in ap (quotient p (get_or ws n 0)) (sym (get_or-take (length ws) r n 0 h) ∙ ap (λ l. get_or l n 0) i ∙ get_or-take (length ws) r' n 0 h))

module _ (f : ℕ) (ws r : List ℕ) (S : Stored f ws r) where
  abbrev p : ℕ
  p = power_of f

  F : T (field p)
  F = fields_at p (first-power f S.first).0 (first-power f S.first).1

  shift_small : (n : ℕ) → n < length ws → get_or r n 0 < size_of f
  shift_small n l = (form-front (rule_for f) (length ws) r S.form).1 n l

  pub long : length (take (length ws) r) ≡ length ws
  long = simp length-take (omega (arith, (form-front (rule_for f) (length ws) r S.form).0))

  -- a shown symbol times the weight is the shift
  pub shown_times : (n : ℕ) → n < length ws → product p (get_or ws n 0) (shown_at f ws r n) ≡ get_or r n 0
  shown_times n l = rw (displayed-at p ws r n l) (quotient-times p F (get_or ws n 0) (S.weight-small n l) (S.weight-some n l) (get_or r n 0) (shift_small n l))

  pub urged : (n : ℕ) → n < length ws → Urged f ws r n
  unfolding expand_at read_at
  urged n l =
      record {
        element = rw (displayed-at p ws r n l) (quotient-small p F (get_or ws n 0) (S.weight-small n l) (S.weight-some n l) (get_or r n 0) (shift_small n l));
        times = shown_times n l;
        only = λ x i e. quotient-one p F (get_or ws n 0) (S.weight-small n l) (S.weight-some n l) (get_or r n 0) x (shift_small n l) i e ∙ sym (displayed-at p ws r n l);
        free = rw (shown_times n l, xor_self (get_or r n 0));
      }

pub urged_towards : UrgedTowards
urged_towards f ws r S n l = urged f ws r S n l

pub display_equal : DisplayEqual
display_equal f f' ws r r' e S S' = (to, back)
  where
    to : displayed (power_of f) ws r ≡ displayed (power_of f') ws r' → take (length ws) r ≡ take (length ws) r'
    to i =
        ext_get_or 0 (take (length ws) r) (take (length ws) r') (long f ws r S ∙ sym (long f' ws r' S'))
        (λ n l. let h : n < length ws = omega (arith, long f ws r S) in
        get_or-take (length ws) r n 0 h
        ∙ sym (shown_times f ws r S n h)
        ∙ ap (λ p. product p (get_or ws n 0) (shown_at f ws r n)) e
        ∙ ap (λ d. product (power_of f') (get_or ws n 0) (get_or d n 0)) i
        ∙ shown_times f' ws r' S' n h
        ∙ sym (get_or-take (length ws) r' n 0 h))

    back : take (length ws) r ≡ take (length ws) r' → displayed (power_of f) ws r ≡ displayed (power_of f') ws r'
    back i = shifts_alone (power_of f) ws r r' i ∙ ap (λ p. displayed p ws r') e

-- p = 2, weights 1, 2, 3 and decisions all 1; p = 3, where 3 times 3 is 5 and 4 times 4 is 6
pub example_shown : (displayed 2 (1 ∷ 2 ∷ 3 ∷ []) (1 ∷ 2 ∷ 3 ∷ []) ≡ 1 ∷ 1 ∷ 1 ∷ []) × (displayed 3 (3 ∷ 4 ∷ []) (5 ∷ 6 ∷ []) ≡ 3 ∷ 4 ∷ [])
unfolding displayed quotient xor
example_shown = (refl, refl)
