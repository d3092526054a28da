-- What a stage says of t: the code answers a stage alone.
use mathlib.Core.Path.{◌≡◌, refl}
use mathlib.Core.Bool.{Bool, true, false}
use mathlib.Core.List.{List}
use Prim.Native.Nat.{ℕ, ◌+◌}
use lib.Dec.{eqb, leb}
use Rattle.trellis.specs.Lists.{pick}
use Rattle.machine.specs.CodeLine.{Read, good, bad, Code}
use Rattle.machine.specs.Machine.{settled}
use Rattle.machine.specs.Decoding.{Buffers, admitted}
use Rattle.machine.specs.Moments.{loading_under, loading, resumable, further, iterating_under, iterating}

pub loading-t : (code f : List ℕ) (b : Buffers) → (loading code f b).t ≡ 0
unfolding loading
loading-t code f b = go (admitted code f b)
  where
    go : (r : Read Code) → (loading_under r f b).t ≡ 0
    go (bad k) = refl
    go (good C) = refl

pub iterating-t : (code f : List ℕ) (t : ℕ) (b : Buffers) → (iterating code f t b).t ≡ pick (eqb (iterating code f t b).stage.state 4) 0 (t + 1)
unfolding iterating
iterating-t code f t b = go (resumable code f t b)
  where
    at : (i j : Bool) → t + 1 ≡ pick (eqb (pick i 2 (pick j 3 1)) 4) 0 (t + 1)
    at true j = refl
    at false true = refl
    at false false = refl

    go : (r : Read Code) → (iterating_under r t b).t ≡ pick (eqb (iterating_under r t b).stage.state 4) 0 (t + 1)
    go (bad k) = refl
    go (good C) = at (settled C (further C t b).costs) (leb C.limit (t + 1))
