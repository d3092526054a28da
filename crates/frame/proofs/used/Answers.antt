use mathlib.Core.Path.{◌∙◌}
use native.Mathlib.Omega.{arith}
use lib.ListN.{length-take}
use Rattle.std.proofs.lemmas.List.{get_or-take}
use Rattle.frame.proofs.Resuming.{groups_small, place_more}
use Rattle.frame.proofs.used.Goals as goal

pub loop-d-preserved : goal.loop-d-preserved
loop-d-preserved c =
    let ds = c.args.degrees.now in
    let i = c.loop-d.d-index in (
      place_more c.args.numbers.first ds i c.loop-d.sum _ _ c.loop-d.invariant.0 (c.from-in-loop-d.ensures ∙ get_or-take c.min-count.result ds i 0 (let h = rw length-take at c.loop-d-test.true in omega (arith, h))) c.groups-groups.ensures,
      omega (arith, c.from-in-loop-d.ensures, c.groups-groups.ensures, groups_small c.args.numbers.first, c.loop-d.invariant),
    )
