-- The expansion buffer is cleared in the first iteration; later expand accepts the old record.
use mathlib.Core.Path.{◌≡◌}
use borrow.Author.Rules.{rules}
use lib.ListN.{length, replicate}
use Rattle.layered.proofs.Updates.{expand_ok, recall-first, recall-later}
use Rattle.layered.proofs.update.recall.Goals as goal

pub returns-then-start : goal.returns-then-start
returns-then-start c =
    let a = c.args in
    let e : c.fill.new.self ≡ replicate (length a.out.now) 0 = search rules in
    recall-first a.first a.start a.weights.now a.bytes.now a.out.now _ c.requires c.if-start.true e

pub returns : goal.returns
returns c =
    let a = c.args in
    recall-later a.first a.start a.weights.now a.bytes.now a.out.now _ c.requires c.if-start.false c.expand.ensures.out_then

pub unwrap-requires : goal.unwrap-requires
unwrap-requires c =
    let a = c.args in
    expand_ok a.first a.weights.now a.bytes.now a.out.now c.requires.weighed (c.requires.form c.if-start.false) c.requires.full c.expand.result c.expand.ensures.reply
