-- An update changes the costs of its own columns alone; and values put in at these places (Redone has their laws).
use mathlib.Core.Path.{◌≡◌, refl, ◌∙◌}
use mathlib.Core.Logic.{◌≢◌}
use mathlib.Core.List.{List}
use Prim.Native.Nat.{ℕ, zero, suc, ◌+◌, ◌*◌, ◌≤◌, ◌<◌}
use native.Mathlib.Decide.{dec_lt}
use native.Mathlib.Omega.{arith}
use lib.ListN.{length, set}
use Rattle.trellis.specs.Lists.{upto, patch}
use Rattle.trellis.specs.Check.{Column, column}
use Rattle.machine.specs.CodeLine.{Edge, Code, size, edge_at, column_of}
use Rattle.machine.specs.Machine.{outgoing, spread}
use Rattle.machine.specs.inner.Accepted.{GoodCheck}
use Rattle.machine.proofs.Updates.{size-some}
use Rattle.machine.proofs.Ranges.{length-outgoing, length-patch, part-before, part-after, column-room}

-- a list of values put in at the places cols 0, .., cols (d - 1)
module _ (g cols : ℕ → ℕ) where
  unfoldable pub redone : ℕ → List ℕ → List ℕ
  redone d z = upto (λ k (z : List ℕ). set z (cols k) (g (cols k))) d z

-- a column that is in none of the edges keeps its costs
module _ (C : Code) (es : List Edge) (H : GoodCheck C.columns (size C) es) (cs : List Column) (new : ℕ → List ℕ) (P : List ℕ) (full : length P ≡ C.columns * size C) where
  step : ℕ → List ℕ → List ℕ
  step n P = patch P ((edge_at es n).column * size C) (size C) (outgoing (size C) (column cs n).costs (new n))

  room : (k : ℕ) → k < length es → (Q : List ℕ) → length Q ≡ length P → (edge_at es k).column * size C + size C ≤ length Q
  room k h Q e = omega (arith, full, column-room (edge_at es k).column C.columns (size C) (H.each-edge k h).column-small)

  length-steps : (k : ℕ) → k ≤ length es → length (upto step k P) ≡ length P
  unfolding step
  length-steps zero h = refl
  length-steps (suc k) h =
      let e = length-steps k (omega arith) in
      length-patch (upto step k P) (outgoing (size C) (column cs k).costs (new k)) ((edge_at es k).column * size C) (size C) (room k h (upto step k P) e) (length-outgoing (size C) (size-some C) (column cs k).costs (new k)) ∙ e

  steps-other : (c : ℕ) → (k : ℕ) → k ≤ length es → ((j : ℕ) → j < k → (edge_at es j).column ≢ c) → column_of (size C) (upto step k P) c ≡ column_of (size C) P c
  unfolding step
  steps-other c zero h n = refl
  steps-other c (suc k) h n =
      let Q : List ℕ = upto step k P in
      let s : List ℕ = outgoing (size C) (column cs k).costs (new k) in
      let r = room k h Q (length-steps k (omega arith)) in
      let l = length-outgoing (size C) (size-some C) (column cs k).costs (new k) in
      elim (dec_lt c (edge_at es k).column) [
        | yes i ↦ part-before Q s ((edge_at es k).column * size C) (size C) r l (c * size C) (size C) (column-room c (edge_at es k).column (size C) i) ∙ steps-other c k (omega arith) (λ j m. n j (omega arith))
        | no i ↦
            let m : (edge_at es k).column ≢ c = n k (omega arith) in
            part-after Q s ((edge_at es k).column * size C) (size C) r l (c * size C) (size C) (column-room (edge_at es k).column c (size C) (omega arith)) ∙ steps-other c k (omega arith) (λ j m. n j (omega arith))
      ]

  pub spread-other : (c : ℕ) → ((j : ℕ) → j < length es → (edge_at es j).column ≢ c) → column_of (size C) (spread (size C) es cs new P) c ≡ column_of (size C) P c
  unfolding spread step
  spread-other c n = steps-other c (length es) (omega arith) n
