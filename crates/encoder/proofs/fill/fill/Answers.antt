use mathlib.Core.Path.{refl, ◌∙◌, sym}
use Prim.Native.Nat.{◌+◌}
use native.Mathlib.Omega.{arith}
use lib.ListN.{length-set}
use lib.Seq.{length-take-le}
use Rattle.machine.proofs.Places.{before_more}
use Rattle.encoder.proofs.Filling.{whole, columns-end, turn_room, fill_turn, fill_start, fill_done}
use Rattle.encoder.proofs.fill.fill.Goals as goal

pub loop-m-init : goal.loop-m-init
loop-m-init c =
    (refl, (refl, fill_start c.args.code.now c.args.from c.args.symbols.now c.requires))

pub slice_bounds-own-end : goal.slice_bounds-own-end
slice_bounds-own-end c =
    omega (arith, whole c.args.code.now c.args.from c.args.symbols.now c.requires)

pub slice_bounds-own-end-in-loop-m : goal.slice_bounds-own-end-in-loop-m
slice_bounds-own-end-in-loop-m c =
    sym (length-take-le (c.args.from + c.loop-m.m) c.loop-m.symbols (omega (arith, whole c.args.code.now c.args.from c.args.symbols.now c.requires)))

pub own-requires : goal.own-requires
own-requires c =
    turn_room c.args.code.now c.args.from c.args.symbols.now c.requires c.loop-m.m (omega arith) c.loop-m.symbols c.loop-m.invariant.1.1 c.loop-m.at c.loop-m.invariant.0

pub bounds-symbols-e : goal.bounds-symbols-e
bounds-symbols-e c =
    omega (arith, whole c.args.code.now c.args.from c.args.symbols.now c.requires)

pub overflow_add-at : goal.overflow_add-at
overflow_add-at c =
    omega (arith, columns-end c.args.code.now c.loop-m.m c.loop-m.at c.from-at.result (omega arith) c.loop-m.invariant.0 c.from-at.ensures)

pub loop-m-preserved : goal.loop-m-preserved
loop-m-preserved c =
    (before_more c.args.code.now.degrees.now c.loop-m.m c.loop-m.at c.from-at.result c.loop-m.invariant.0 c.from-at.ensures, (length-set c.loop-m.symbols (c.args.from + c.loop-m.m) c.own.result ∙ c.loop-m.invariant.1.0, fill_turn c.args.code.now c.args.from c.args.symbols.now c.requires c.loop-m.m (omega arith) c.loop-m.symbols c.loop-m.invariant.1.1 c.own.result c.own.ensures))

pub returns : goal.returns
returns c =
    fill_done c.args.code.now c.args.from c.args.symbols.now c.requires c.loop-m.m c.loop-m.symbols (omega arith) c.loop-m.invariant.1.1
