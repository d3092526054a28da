-- After the refusals the loop starts on the copied message.
use mathlib.Core.Path.{ap, sym}
use mathlib.Core.List.{◌++◌}
use native.Mathlib.Omega.{arith}
use lib.ListN.{length, drop, length-take}
use lib.Seq.{length-take-le}
use Rattle.machine.specs.Encoding.{Wrote}
use Rattle.encoder.proofs.Encoded.{kept_room, call_room, call_fill_room, call_leaves}
use Rattle.encoder.proofs.encoding.under_code.Goals as goal

pub slice_bounds-copy-end : goal.slice_bounds-copy-end
slice_bounds-copy-end c =
    omega (arith, call_room c.args.code.now c.args.message.now c.args.symbols.now c.in_ok-validate.ensures c.from-n.result c.from-n.ensures)

pub slice_bounds-copy-end-2 : goal.slice_bounds-copy-end-2
slice_bounds-copy-end-2 c =
    simp length-take (omega (arith, call_room c.args.code.now c.args.message.now c.args.symbols.now c.in_ok-validate.ensures c.from-n.result c.from-n.ensures))

pub slice_bounds-fill-end : goal.slice_bounds-fill-end
slice_bounds-fill-end c =
    omega (arith, kept_room c.args.code.now c.args.message.now c.args.symbols.now c.in_ok-validate.ensures c.from-n.result c.from-n.ensures c.copy.new.to c.copy.ensures)

pub slice_bounds-fill-end-2 : goal.slice_bounds-fill-end-2
slice_bounds-fill-end-2 c =
    sym (length-take-le c.from-n.result (c.copy.new.to ++ drop (length c.args.message.now) c.args.symbols.now) (kept_room c.args.code.now c.args.message.now c.args.symbols.now c.in_ok-validate.ensures c.from-n.result c.from-n.ensures c.copy.new.to c.copy.ensures))

pub fill-requires : goal.fill-requires
fill-requires c =
    call_fill_room c.args.code.now c.args.message.now c.args.symbols.now c.in_ok-validate.ensures c.from-n.result c.from-n.ensures c.copy.new.to c.copy.ensures

pub returns-clause-symbols_then : goal.returns-clause-symbols_then
returns-clause-symbols_then c =
    sym (ap (λ (w : Wrote). w.out) (call_leaves c.args.code.now c.args.message.now c.args.symbols.now c.in_ok-validate.ensures c.from-n.result c.from-n.ensures c.copy.new.to c.copy.ensures c.fill.new.symbols c.fill.ensures))
