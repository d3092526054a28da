-- What feed and close print fits the buffers that are lent to them.
use mathlib.Core.Path.{◌≡◌}
use mathlib.Core.List.{List}
use Prim.Native.Nat.{ℕ, ◌≤◌}
use native.Mathlib.Omega.{arith}
use lib.ListN.{length, take, length-take}
use Rattle.machine.specs.inner.Blocks.{Session, fed_out, close_out}
use Rattle.machine.proofs.Program.{fed-few, close_short}

pub feed_short : (k : Session) (m : ℕ) (s : List ℕ) (n : ℕ) → n ≡ length (fed_out k (take m s)) → m ≤ 65536 → n ≤ 328192
feed_short k m s n e h =
    let a : length (take m s) ≤ m = simp length-take (omega arith) in
    omega (arith, e, a, fed-few k (take m s))

pub close_few : (k : Session) (n : ℕ) → n ≡ length (close_out k) → n ≤ 517
close_few k n e = omega (arith, e, close_short k)
