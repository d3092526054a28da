-- The mark everywhere but at count 0 and sum 0.
use mathlib.Core.Path.{◌≡◌, ap, ◌∙◌}
use borrow.Author.Rules.{rules}
use lib.ListN.{length, set, replicate}
use Rattle.trellis.specs.Sweep.{mark}
use Rattle.sweep.proofs.Laws.{tab_replicate}
use Rattle.sweep.proofs.step.begin.Goals as goal

pub returns : goal.returns
returns c =
    let n = length c.args.out.now in
    let e : c.fill.new.self ≡ replicate n mark = search rules in
    ap (λ l. set l 0 0) (e ∙ tab_replicate mark n)
