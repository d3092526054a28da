-- What an iteration's own tests say: after them it may go on.
use mathlib.Core.Path.{◌≡◌, sym, ap, ◌∙◌}
use mathlib.Core.Bool.{Bool, true, false, ◌&&◌, ◌||◌}
use mathlib.Core.List.{List}
use Prim.Native.Nat.{ℕ, ◌+◌, ◌*◌, ◌≤◌, ◌<◌}
use native.Mathlib.Decide.{dec_lt}
use native.Mathlib.Omega.{arith}
use lib.Dec.{T, eqb, leb, leb→le}
use lib.ListN.{length, get_or, take, drop, take-append-drop, get_or-append, get_or-eq_default}
use lib.Seq.{length-take-le}
use Rattle.trellis.specs.Lists.{all_to, part}
use Rattle.trellis.specs.Record.{record_length, record_ok}
use Rattle.trellis.proofs.Tests.{fst_T, snd_T, all-at, of_true, to_true}
use Rattle.machine.specs.CodeLine.{Code, size, rule, check, column_of, zero_in}
use Rattle.machine.specs.Machine.{place, used}
use Rattle.machine.specs.inner.Accepted.{GoodCode}
use Rattle.machine.specs.inner.InRange.{Ranged, Formed, Passable}
use Rattle.machine.proofs.Ranges.{part-front, column-room, zeros_in}
use Rattle.machine.specs.Moments.{costs_ok, store_ok}

pub costs_of : (C : Code) (c : List ℕ) → C.columns * size C ≤ length c → costs_ok C c ≡ true → Ranged C (take (C.columns * size C) c)
unfolding costs_ok
costs_of C c room h =
    record {
      full = long;
      small = λ x. elim (dec_lt x (C.columns * size C)) [
        | yes l ↦
            let a = leb→le (get_or c x 0) 510 (all-at (λ i. leb (get_or c i 0) 510) (C.columns * size C) (fst_T small zeros both) x l) in
            let e : get_or c x 0 ≡ get_or (take (C.columns * size C) c) x 0 =
            ap (λ k. get_or k x 0) (sym (take-append-drop (C.columns * size C) c)) ∙ get_or-append (take (C.columns * size C) c) (drop (C.columns * size C) c) 0 x (omega (arith, long)) in
            omega arith
        | no l ↦ rw (get_or-eq_default (take (C.columns * size C) c) 0 {n = x} (omega (arith, long))) (omega arith)
      ];
      has_zero = λ k l.
          let r : k * size C + size C ≤ length (take (C.columns * size C) c) = omega (arith, long, column-room k C.columns (size C) l) in
          let e : column_of (size C) c k ≡ column_of (size C) (take (C.columns * size C) c) k =
          ap (λ x. column_of (size C) x k) (sym (take-append-drop (C.columns * size C) c)) ∙ part-front (take (C.columns * size C) c) (drop (C.columns * size C) c) (k * size C) (size C) r in
          rw (← e) (zeros_in (size C) c C.columns room (snd_T small zeros both) k l);
    }
  where
    small : Bool
    small = all_to (λ i. leb (get_or c i 0) 510) (C.columns * size C)

    zeros : Bool
    zeros = all_to (zero_in (size C) c) C.columns

    both : T (small && zeros)
    both = of_true h

    long : length (take (C.columns * size C) c) ≡ C.columns * size C
    long = length-take-le (C.columns * size C) c room

module _ (C : Code) (G : GoodCode C) where
  pub store_of : (c s : List ℕ) → store_ok C s ≡ true → (m : ℕ) → m < length C.checks → Formed C G (record { costs = c; store = s }) m
  unfolding store_ok
  store_of c s h m l = to_true (all-at (λ m. record_ok (rule C) (length (check C m)) (part s (place C m) (record_length (rule C) (length (check C m))))) (length C.checks) (of_true h) m l)

  -- both tests, and room
  pub tested : (c s : List ℕ) (t : ℕ) → C.columns * size C ≤ length c → used C ≤ length s → costs_ok C c ≡ true → (eqb t 0 || store_ok C s) ≡ true
      → Passable C G (eqb t 0) (record { costs = take (C.columns * size C) c; store = s })
  tested c s t i j h k = record { ranged = costs_of C c i h; room = j; formed = λ e. store_of (take (C.columns * size C) c) s (or_right (eqb t 0) (store_ok C s) e k) }
    where
      or_right : (a b : Bool) → a ≡ false → (a || b) ≡ true → b ≡ true
      or_right true b e k = let z : ◌≡◌ {A = ℕ} 0 1 = cc in absurd (omega arith)
      or_right false b e k = k
