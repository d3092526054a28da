use mathlib.Core.Path.{◌≡◌, refl, ap, ◌∙◌}
use Prim.Native.Nat.{◌*◌, ◌≤◌, ◌<◌}
use native.Mathlib.Nat.{add-sub_cancel_left}
use native.Mathlib.Omega.{arith}
use borrow.Author.Rules.{rules}
use lib.ListN.{length}
use lib.Seq.{get_or-take, length-take-le}
use Rattle.trellis.proofs.Loops.{length-tab, block_next}
use Rattle.expansion.specs.inner.Transposed.{turned}
use Rattle.expansion.proofs.Transposing.{kept_beyond, columns-room}
use Rattle.expansion.proofs.expansion.Lists.columns.Goals as goal

pub loop-n-preserved : goal.loop-n-preserved
loop-n-preserved c =
    let a = c.args in
    let n = c.loop-n.n in
    let o = c.loop-n.out in
    let i = c.loop-n.invariant in
    let m : n < a.d = omega (arith, length-take-le a.d a.r.now c.requires.shifts) in
    let u = add-sub_cancel_left (n * a.self.now.q) a.self.now.q in
    let s = get_or-take a.d a.r.now n 0 m in
    let v : c.column.new.out ≡ turned a.self.now.k a.self.now.bytes.now a.self.now.q a.r.now a.out.now n = c.column.ensures ∙ rw (u, s, i.1.1) refl in
    let l = ap length v ∙ length-tab _ a.self.now.q in
    let h : n * a.self.now.q ≤ length o = omega (arith, (columns-room c.requires n m).1, i.0) in
    (search rules, (block_next (turned a.self.now.k a.self.now.bytes.now a.self.now.q a.r.now a.out.now) n a.self.now.q _ o c.column.new.out h l v i.1.0, kept_beyond a.out.now n a.self.now.q _ o c.column.new.out h l u i.1.1))
