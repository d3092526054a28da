-- The window after a load and an iteration, from what layered's two calls promise.
use mathlib.Core.Path.{◌≡◌, refl, sym, ap, ◌∙◌}
use mathlib.Core.Bool.{Bool, true, false}
use mathlib.Core.List.{List}
use Prim.Native.Nat.{ℕ, ◌+◌}
use lib.Dec.{eqb}
use borrow.Author.Tests.{eq-eqb, ne_eqb}
use Rattle.trellis.specs.Lists.{pick}
use Rattle.machine.specs.Decoding.{Buffers, lending}
use Rattle.machine.specs.Moments.{Stage, Moment, Moves, loading, iterating}
use Rattle.machine.proofs.Moments.{loading-t, iterating-t}
use Rattle.window.specs.Window.{Registers, Window, entering, taking, load, iterate, second}

four : (y y' c c' s s' v v' : List ℕ) → y ≡ y' → c ≡ c' → s ≡ s' → v ≡ v' → lending y c s v ≡ lending y' c' s' v'
four y y' c c' s s' v v' e f g h = cc

-- the registers from the stage, the buffers one by one
taken : (m : Moment) (s : Stage) (b : Buffers) (t : ℕ) (r x : Registers) → Moves m s b → m.t ≡ pick (eqb m.stage.state 4) 0 t
    → x ≡ entering s.state s.number (pick (eqb s.state 4) 0 t) r → record { registers = x; buffers = b } ≡ taking m r
taken m s b t r x M z h =
    let a : x ≡ entering m.stage.state m.stage.number m.t r =
    h ∙ ap (λ (s : Stage). entering s.state s.number (pick (eqb s.state 4) 0 t) r) M.staged ∙ ap (λ t. entering m.stage.state m.stage.number t r) (sym z) in
    let e : b ≡ m.buffers =
    four b.symbols m.buffers.symbols b.costs m.buffers.costs b.store m.buffers.store b.margins m.buffers.margins M.symbols-then M.costs-then M.store_then M.margins-then in
    ap (λ (x : Registers). record { registers = x; buffers = b }) a ∙ ap (λ (b : Buffers). record { registers = (taking m r).registers; buffers = b }) e

-- command 1
pub loaded : (code f : List ℕ) (b b' : Buffers) (s : Stage) (r x : Registers) → Moves (loading code f b) s b'
    → x ≡ entering s.state s.number (pick (eqb s.state 4) 0 0) r
    → record { registers = x; buffers = b' } ≡ load code f (record { registers = r; buffers = b })
loaded code f b b' s r x M h = taken (loading code f b) s b' 0 r x M (loading-t code f b ∙ sym (same (eqb (loading code f b).stage.state 4))) h
  where
    same : (i : Bool) → ◌≡◌ {A = ℕ} (pick i 0 0) 0
    same true = refl
    same false = refl

-- command 2 in a running window
pub iteration_taken : (code f : List ℕ) (b b' : Buffers) (s : Stage) (r x : Registers) → Moves (iterating code f r.iterations b) s b'
    → x ≡ entering s.state s.number (pick (eqb s.state 4) 0 (r.iterations + 1)) r → r.state ≡ 1 → (r.iterations ≡ 255 → ⊥)
    → record { registers = x; buffers = b' } ≡ second code f (record { registers = r; buffers = b })
unfolding second
iteration_taken code f b b' s r x M h e n =
    let w : Window = record { registers = r; buffers = b } in
    let l : second code f w ≡ iterate code f w =
    ap (λ i. pick i (pick (eqb r.iterations 255) w (iterate code f w)) w) (eq-eqb r.state 1 e) ∙ ap (λ i. pick i w (iterate code f w)) (ne_eqb r.iterations 255 n) in
    taken (iterating code f r.iterations b) s b' (r.iterations + 1) r x M (iterating-t code f r.iterations b) h ∙ sym l
