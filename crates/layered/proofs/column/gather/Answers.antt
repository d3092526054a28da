use mathlib.Core.Path.{refl, ap, ◌∙◌}
use Prim.Native.Nat.{◌+◌, ◌*◌, ◌≤◌}
use native.Mathlib.Nat.{suc-mul}
use native.Mathlib.Numerals.{add-one}
use native.Mathlib.Omega.{arith}
use lib.ListN.{length}
use Rattle.layered.proofs.Columns.{room_at, gather_turn, gather_start, length-gathered}
use Rattle.layered.proofs.column.gather.Goals as goal

pub loop-k-init : goal.loop-k-init
loop-k-init c = (refl, gather_start _ _ _ _ _ _)

pub loop-k-preserved : goal.loop-k-preserved
loop-k-preserved c =
    let a = c.args in
    let k = c.loop-k.k in
    let room = room_at a.costs.now a.cols.now a.old.now a.g a.q a.out.now c.requires k (omega arith) c.from.result c.from.ensures in
    let t = gather_turn a.costs.now a.cols.now a.old.now a.g a.q a.out.now c.requires k (omega arith) c.from.result c.from.ensures c.loop-k.out c.incoming_column.new.out c.loop-k.invariant.1 c.incoming_column.ensures in
    let e : (k + 1) * a.q ≤ length a.out.now = rw (add-one k, suc-mul k a.q) room.1.1 in
    (ap length t ∙ length-gathered a.costs.now a.cols.now a.old.now a.g a.q a.out.now (k + 1) c.requires.some e, t)
