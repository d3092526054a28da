-- One block prints at most 328,192 bytes.
use Rattle.std.proofs.Common.{arith}
use mathlib.Core.Path.{ap, refl, sym, ◌∙◌}
use Rattle.std.proofs.Common.{◌≡◌, take, length}
use Rattle.std.proofs.lemmas.List.{length-take}
use Rattle.text.specs.inner.Held.{held_in, kept_of}
use Rattle.text.proofs.Laws.{fed-stands}
use Rattle.decode.proofs.Short.{feed_short}
use Rattle.decode.proofs.Owes.{step, stop}
use Rattle.decode.proofs.read_block.Goals as goal

pub flush-requires : goal.flush-requires
flush-requires g c =
    let f = feed_short _ c.in-Ok.n _ _ c.feed-s.ensures.full (omega (arith, c.in-Ok.ensures.count)) in
    omega (arith, f)

pub returns-clause-printed : goal.returns-clause-printed
returns-clause-printed g c =
    let h = held_in c.args.st c.args.line.now c.args.code.now in
    let bs = take c.in-Ok.n c.read.new.chunk in
    let l : length bs ≡ c.in-Ok.n = simp length-take (omega (arith, c.in-Ok.ensures.count)) in
    let k = ap kept_of c.feed-s.ensures.held ∙ fed-stands h bs (omega arith) in
    let s = step _ _ _ _ h bs _ c.feed-s.new.out c.args.left c.feed-s.result.full _ c.in-Ok.ensures.bytes.0 c.in_default.ensures c.feed-s.ensures.full c.feed-s.ensures.out_then k (omega (arith, l, c.in-Ok.ensures.count)) in
    rw (sym l) s

pub returns-then-s-clause-printed : goal.returns-then-s-clause-printed
returns-then-s-clause-printed g c =
    let h = held_in c.args.st c.args.line.now c.args.code.now in
    let bs = take c.in-Ok.n c.read.new.chunk in
    let l : length bs ≡ c.in-Ok.n = simp length-take (omega (arith, c.in-Ok.ensures.count)) in
    let k = ap kept_of c.feed-s.ensures.held ∙ fed-stands h bs (omega arith) in
    let s = step _ _ _ _ h bs _ c.feed-s.new.out c.args.left c.feed-s.result.full _ c.in-Ok.ensures.bytes.0 c.in_default.ensures c.feed-s.ensures.full c.feed-s.ensures.out_then k (omega (arith, l, c.in-Ok.ensures.count)) in
    stop _ _ _ _ _ (rw c.if-s.true refl) s
