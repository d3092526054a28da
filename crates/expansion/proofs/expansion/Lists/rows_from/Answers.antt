use mathlib.Core.Path.{refl}
use Prim.Native.Nat.{◌-◌}
use native.Mathlib.Omega.{arith}
use Rattle.expansion.proofs.Transposing.{rows_start, rows_turn, pair_room}
use Rattle.expansion.proofs.expansion.Lists.rows_from.Goals as goal

pub loop-j-init : goal.loop-j-init
loop-j-init c =
    let a = c.args in
    let s = a.self.now in rows_start s.bytes.now s.q s.k a.n a.at 16 (omega (arith, s.room.long))

pub loop-j-preserved : goal.loop-j-preserved
loop-j-preserved c =
    let a = c.args in
    let s = a.self.now in
    let j = c.loop-j.j in
    let room = pair_room (j - 1) s.k s.q a.at 16 s.bytes.now (omega arith) (omega (arith, s.room.long)) in
    rows_turn s.bytes.now s.q s.k a.n a.at 16 j c.loop-j.v (omega arith) (omega arith) c.loop-j.invariant refl refl room c.pair-v.ensures
