-- The columns before n stand; the others still have their products.
use mathlib.Core.Path.{◌≡◌}
use Prim.Native.Nat.{◌*◌}
use lib.ListN.{length, take, drop}
use Rattle.trellis.specs.Lists.{blocks}
use Rattle.expansion.specs.inner.Transposed.{turned}
use Rattle.expansion.proofs.expansion.Lists.columns.Given as goal

abbrev pub invariant-loop-n : goal.invariant-loop-n
invariant-loop-n l = (length l.out ≡ length l.fn.out) × ((take (l.n * l.self.q) l.out ≡ blocks (turned l.self.k l.self.bytes.now l.self.q l.r l.fn.out) l.n) × (drop (l.n * l.self.q) l.out ≡ drop (l.n * l.self.q) l.fn.out))
