-- The margins that a decoding leaves are those of its final costs, so the laws of one column's margin hold in the buffers.
use mathlib.Core.Path.{◌≡◌, sym, ap, ◌∙◌}
use mathlib.Core.List.{List, [], ◌∷◌, ◌++◌}
use Prim.Native.Nat.{ℕ, zero, suc, ◌+◌, ◌*◌, ◌≤◌, ◌<◌}
use native.Mathlib.Omega.{arith}
use lib.Pow.{pow_mono}
use lib.ListN.{length, get_or, take, drop, length-map, length-take, length-drop, get_or-append}
use lib.Seq.{get_or-take, get_or-drop}
use Rattle.trellis.specs.Lists.{up_to}
use Rattle.trellis.specs.Check.{first_zero, margin_of}
use Rattle.trellis.proofs.Places.{length-count}
use Rattle.trellis.proofs.Instances.{first-zero}
use Rattle.trellis.proofs.Margins.{margin-least, margin-attained, margin-tie, margin-only, margin-small}
use Rattle.machine.specs.CodeLine.{Code, size, column_of}
use Rattle.machine.specs.Machine.{run, symbols, margins}
use Rattle.machine.specs.Decoding.{Buffers}
use Rattle.machine.specs.Margins.{symbol_in, margin_in, buffer_cost, Margin, Margins}
use Rattle.machine.proofs.Lists.{at_up_to}
use Rattle.machine.specs.inner.Accepted.{GoodCode}
use Rattle.machine.proofs.Lines.{parse-good}
use Rattle.machine.specs.inner.InRange.{Ranged}
use Rattle.machine.proofs.Ranges.{column-room, run-ranged}
use Rattle.machine.proofs.Buffers.{accepted_call}

-- a part of a list of small numbers
take-small : (b n : ℕ) (l : List ℕ) → ((i : ℕ) → get_or l i 0 ≤ b) → (i : ℕ) → get_or (take n l) i 0 ≤ b
take-small b zero l h i = omega arith
take-small b (suc n) [] h i = omega arith
take-small b (suc n) (x ∷ l) h zero = h 0
take-small b (suc n) (x ∷ l) h (suc i) = take-small b n l (λ j. h (suc j)) i

module _ (C : Code) (G : GoodCode C) (P : List ℕ) (R : Ranged C P) (o : Buffers) (y m p : List ℕ)
    (ey : o.symbols ≡ symbols C P ++ y) (em : o.margins ≡ margins C P ++ m) (ep : o.costs ≡ P ++ p) (c : ℕ) (h : c < C.columns) where
  abbrev q : ℕ
  q = size C

  -- the costs of the column
  abbrev l : List ℕ
  l = column_of q P c

  room : c * q + q ≤ length P
  room = omega (arith, R.full, column-room c C.columns q h)

  full : length l ≡ q
  full = simp (length-take, length-drop) (omega (arith, room))

  two : 2 ≤ length l
  two = omega (arith, full, pow_mono G.p-low)

  symbol-at : symbol_in o c ≡ first_zero l
  unfolding symbols
  symbol-at =
      let n : length (symbols C P) ≡ C.columns = length-map (up_to C.columns) _ ∙ length-count 0 C.columns in
      ap (λ z. get_or z c 0) ey ∙ get_or-append (symbols C P) y 0 c (omega (arith, n)) ∙ at_up_to _ C.columns c 0 h

  margin-at : margin_in o c ≡ margin_of l
  unfolding margins
  margin-at =
      let n : length (margins C P) ≡ C.columns = length-map (up_to C.columns) _ ∙ length-count 0 C.columns in
      ap (λ z. get_or z c 0) em ∙ get_or-append (margins C P) m 0 c (omega (arith, n)) ∙ at_up_to _ C.columns c 0 h

  cost-at : (x : ℕ) → x < q → buffer_cost q o c x ≡ get_or l x 0
  cost-at x k =
      ap (λ z. get_or z (c * q + x) 0) ep ∙ get_or-append P p 0 (c * q + x) (omega (arith, room))
      ∙ sym (get_or-take q (drop (c * q) P) x 0 k ∙ get_or-drop (c * q) P x 0)

  pub told : Margin q o c
  told =
      let z = R.has_zero c h in
      let a = margin-attained l two z in
      let f = first-zero z in
      let e = symbol-at in
      let i = margin-at in
      record {
        free = cost-at (symbol_in o c) (omega (arith, e, f.0, full)) ∙ ap (λ x. get_or l x 0) e ∙ f.1;
        attained = record {
          symbol = a.0;
          element = omega (arith, a.1, full);
          differs = λ k. a.2 (k ∙ e);
          costs = cost-at a.0 (omega (arith, a.1, full)) ∙ a.3 ∙ sym i;
        };
        least = λ x k n. omega (arith, cost-at x k, margin-least l two z x (omega (arith, full)) (λ j. n (j ∙ sym e)), i);
        tie = (
          λ k. let t = (margin-tie l two z).0 (sym i ∙ k) in
              record { symbol = t.0; element = omega (arith, t.1, full); differs = λ j. t.2 (j ∙ e); costs = cost-at t.0 (omega (arith, t.1, full)) ∙ t.3 },
          λ t. i ∙ (margin-tie l two z).1 (t.symbol, omega (arith, t.element, full), λ j. t.differs (j ∙ sym e), sym (cost-at t.symbol t.element) ∙ t.costs),
        );
        only = λ k x n j. margin-only l two z (omega (arith, i)) x (omega (arith, full)) (sym (cost-at x n) ∙ j) ∙ sym e;
        small = omega (arith, i, margin-small l two z 510 low);
      }
    where
      low : (x : ℕ) → get_or l x 0 ≤ 510
      low x = take-small 510 q (drop (c * q) P) (λ j. rw (get_or-drop (c * q) P j 0) (R.small (c * q + j))) x

pub margins_told : Margins
margins_told code f C A bytes b M r o D c h =
    let G : GoodCode C = parse-good code C A.line in
    let a = accepted_call code f b C A M in
    let R = run-ranged C G f A.fits bytes in
    told C G (run C f).end.costs R o _ _ _ (D.symbols-then ∙ ap (λ x. x.buffers.symbols) a) (D.margins-then ∙ ap (λ x. x.buffers.margins) a) (D.costs-then ∙ ap (λ x. x.buffers.costs) a) c h
