-- A refusal leaves the buffer; else the display stands in its front.
use mathlib.Core.Path.{◌≡◌}
use native.Mathlib.Omega.{arith}
use borrow.Author.Rules.{rules}
use lib.ListN.{length-take}
use Rattle.refusal.proofs.Numbers.{some_number}
use Rattle.std.specs.Prelude.{Err}
use Rattle.display.proofs.Refusals.{refused, room, show_room, written}
use Rattle.display.proofs.display.Goals as goal

pub returns-in_err-validate : goal.returns-in_err-validate
returns-in_err-validate c =
    let a = c.args in
    let e : c.from_residual.result ≡ Err c.in_err-validate.field-0.0 = search rules in
    let R = refused a.first a.weights.now a.bytes.now a.out.now _ c.in_err-validate.ensures (some_number c.in_err-validate.field-0.0) in
    record { reply = rw e R.0; out_then = R.1 }

pub slice_bounds-show-end : goal.slice_bounds-show-end
slice_bounds-show-end c =
    let a = c.args in
    (room a.first a.weights.now a.bytes.now a.out.now 0 c.in_ok-validate.ensures (search rules)).enough

pub slice_bounds-show-end-2 : goal.slice_bounds-show-end-2
slice_bounds-show-end-2 c =
    let a = c.args in
    simp length-take (omega (arith, (room a.first a.weights.now a.bytes.now a.out.now 0 c.in_ok-validate.ensures (search rules)).enough))

pub show-requires : goal.show-requires
show-requires c =
    let a = c.args in
    show_room a.first a.weights.now a.bytes.now a.out.now 0 c.in_ok-validate.ensures (search rules) c.power.result c.power.ensures

pub returns : goal.returns
returns c =
    let a = c.args in
    let R = written a.first a.weights.now a.bytes.now a.out.now 0 c.in_ok-validate.ensures (search rules) c.power.result c.power.ensures c.show.new.out c.show.ensures in
    record { reply = R.0; out_then = R.1 }
