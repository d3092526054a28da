use mathlib.Core.Path.{ap, ◌∙◌}
use Prim.Native.Nat.{◌+◌}
use native.Mathlib.Omega.{arith}
use borrow.Author.Rules.{rules}
use lib.Bits.{bit_xor}
use lib.ListN.{get_or}
use Rattle.std.proofs.lemmas.List.{drop-set-lt}
use Rattle.trellis.specs.Field.{xor}
use Rattle.trellis.proofs.Loops.{fill_next}
use Rattle.expansion.specs.inner.Transposed.{by_symbol}
use Rattle.expansion.proofs.Transposing.{kept_at, kept_more, symbol-room}
use Rattle.expansion.proofs.expansion.by_symbol.Goals as goal

pub bounds-v-from : goal.bounds-v-from
bounds-v-from c =
    let x = c.loop-x.x-index in
    let e = ap (λ y. bit_xor y c.args.s) (kept_at c.loop-x.out c.args.out.now x c.loop-x.invariant.1.1) in
    omega (arith, c.from.ensures, e, symbol-room c.args.v.now c.args.s x c.requires.shift_room c.requires.v_len (omega (arith, c.loop-x.invariant.0)))

pub loop-x-preserved : goal.loop-x-preserved
unfolding xor
loop-x-preserved c =
    let x = c.loop-x.x-index in
    let o = c.loop-x.out in
    let i = c.loop-x.invariant in
    let e = ap (λ y. bit_xor y c.args.s) (kept_at o c.args.out.now x i.1.1) in
    (search rules, (fill_next (by_symbol c.args.v.now c.args.out.now c.args.s) o x _ (omega arith) i.1.0 (ap (λ n. get_or c.args.v.now n 0) (c.from.ensures ∙ e)), drop-set-lt (x + 1) o x _ (omega arith) ∙ kept_more o c.args.out.now x 1 i.1.1))
