-- A row has four products or eight: its number is a multiple of four, and at most eight.
use mathlib.Core.Path.{◌≡◌}
use Prim.Native.Nat.{◌^◌}
use native.Mathlib.Omega.{arith}
use Rattle.trellis.proofs.Recurrence.{size_4}
use Rattle.field.proofs.Filling.{four_divides, row_four, row_eight}
use Rattle.field.proofs.products.by_fours.Goals as goal

pub returns-then-row-eq8 : goal.returns-then-row-eq8
returns-then-row-eq8 c =
    let a = c.args in
    let e : 2 ^ a.p ≡ 8 = omega (arith, c.requires.row_len.0) in
    row_eight a.p a.h c.double-b.ensures.0 a.row.now c.put_four.ensures e (omega arith) c.double-c.ensures.0 c.put_four-then-row-eq8.ensures (omega arith)

pub returns-else-row-eq8 : goal.returns-else-row-eq8
returns-else-row-eq8 c =
    let a = c.args in
    let e : 2 ^ a.p ≡ 4 = omega (arith, c.requires.row_len.0, c.requires.row_len.1, four_divides a.p c.requires.factor.low, size_4 a.p c.requires.factor.low) in
    row_four a.p a.h c.double-b.ensures.0 a.row.now c.put_four.ensures e (omega arith)
