use Prim.Native.Nat.{◌*◌}
use native.Mathlib.Omega.{arith}
use borrow.Author.Rules.{rules}
use Rattle.expansion.specs.inner.Transposed.{value_in}
use Rattle.expansion.proofs.Transposing.{values_next, values_end}
use Rattle.expansion.proofs.expansion.Lists.values.Goals as goal

pub loop-b-preserved : goal.loop-b-preserved
loop-b-preserved c =
    let a = c.args in
    let i = c.loop-b.invariant in
    let f = value_in a.self.now.k a.self.now.bytes.now a.self.now.q a.n in
    (search rules, values_next f c.loop-b.b 16 c.loop-b.v _ (omega (arith, c.div_ceil-b-end.ensures, i.0, c.requires, a.self.now.room.most)) c.rows_from.ensures i.1)

pub returns : goal.returns
returns c =
    let a = c.args in
    values_end (value_in a.self.now.k a.self.now.bytes.now a.self.now.q a.n) a.self.now.q (c.loop-b.b * 16) c.loop-b.v (omega (arith, c.div_ceil-b-end.ensures)) c.loop-b.invariant.1
