use mathlib.Core.Path.{◌≡◌, ap, ◌∙◌}
use mathlib.Core.List.{List}
use Prim.Native.Nat.{ℕ, ◌-◌, ◌*◌, ◌≤◌}
use native.Mathlib.Nat.{mul-le-mul}
use native.Mathlib.Omega.{arith}
use lib.ListN.{length, replicate}
use Rattle.std.proofs.Math.Nat.{mul_assoc}
use Rattle.std.proofs.lemmas.List.{length-replicate}
use Rattle.tables.proofs.rows.in_room.Goals as goal

pub with_room-requires-clause-l_in_bounds : goal.with_room-requires-clause-l_in_bounds
with_room-requires-clause-l_in_bounds g c =
    let S = c.args.shape in
    let row : List ℕ = replicate g.row.ROWS 0 in
    let m : (c.args.d - 1) * S.k * S.l ≤ g.row.KEPT * g.row.ROWS = mul-le-mul c.requires.after.0 c.requires.rows.0 in
    let n : length c.as_flattened_mut.result.now ≡ g.row.KEPT * g.row.ROWS = c.as_flattened_mut.ensures.len ∙ ap (λ i. i * g.row.ROWS) (length-replicate g.row.KEPT row) in (
      omega (arith, m, n, mul_assoc (c.args.d - 1) S.k S.l),
      (omega (arith, c.requires.rows.0, c.as_flattened_mut-2.ensures.len), omega (arith, length-replicate {A = ℕ} g.row.ROWS 0, c.requires.rows.0)),
    )
