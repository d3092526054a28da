-- The symbols before x have their products.
use mathlib.Core.Path.{◌≡◌}
use Prim.Native.Nat.{◌^◌}
use lib.ListN.{length, take}
use Rattle.trellis.specs.Lists.{tab}
use Rattle.trellis.specs.Field.{product}
use Rattle.field.proofs.products.by_bits.Given as goal

abbrev pub invariant-loop-x : goal.invariant-loop-x
invariant-loop-x l = (length l.row ≡ 2 ^ l.p) × (take l.x l.row ≡ tab (product l.p l.h) l.x)
