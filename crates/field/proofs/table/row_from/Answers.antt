use mathlib.Core.Path.{◌≡◌, ◌∙◌, ap}
use Prim.Native.Nat.{◌+◌, ◌*◌, ◌-◌}
use native.Mathlib.Omega.{arith}
use lib.ListN.{length}
use Rattle.field.proofs.Tables.{table-length, row_is}
use Rattle.field.proofs.table.row_from.Goals as goal

pub slice_bounds-copy_from_slice-end : goal.slice_bounds-copy_from_slice-end
slice_bounds-copy_from_slice-end c =
    omega (arith, ap length c.requires.table_value ∙ table-length)

pub returns : goal.returns
returns c =
    let h = c.args.h in
    let s : h * 64 + 64 - h * 64 ≡ 64 = omega arith in
    c.copy_from_slice.ensures.after ∙ rw (c.from-base.ensures, s) (row_is c.args.table.now h c.requires.table_value c.requires.h_bound.0)
