-- Each refusal by its number; after them the run starts on the copied frame, and its equations give all five of the promise's.
use mathlib.Core.Path.{◌≡◌, refl, ◌∙◌, sym}
use borrow.Author.Rules.{rules}
use Rattle.refusal.proofs.Numbers.{some_number}
use Rattle.trellis.specs.Reply.{refusal}
use Rattle.refusal.specs.Numbers.{number_of}
use Rattle.layered.specs.Answers.{answer_reply}
use native.Mathlib.Omega.{arith}
use lib.ListN.{length, take, length-take}
use lib.Seq.{length-take-le}
use Rattle.layered.proofs.Columns.{front-room}
use Rattle.slices.proofs.Copies.{copied_is}
use Rattle.layered.proofs.Decoded.{fits, refused-leaves, copied_room, copied_leaves}
use Rattle.layered.proofs.decoding.under_code.Goals as goal

pub returns-in_err-validate_decode : goal.returns-in_err-validate_decode
returns-in_err-validate_decode g c =
    let r = c.in_err-validate_decode.field-0.0 in
    let e : answer_reply c.from_residual.result ≡ refusal (number_of r) = search rules in
    rw e (refused-leaves c.args.code.now c.from-n.result c.from-n.ensures c.args.frame.now c.args.symbols.now c.args.costs.now c.args.store.now c.args.margins.now (number_of r) c.in_err-validate_decode.ensures g.S.Schedule.early (some_number r))

pub slice_bounds-copy-end : goal.slice_bounds-copy-end
slice_bounds-copy-end g c =
    omega (arith, (fits c.args.code.now c.from-n.result c.from-n.ensures c.args.frame.now c.args.symbols.now c.args.costs.now c.args.store.now c.args.margins.now 0 c.in_ok-validate_decode.ensures refl))

pub slice_bounds-copy-end-2 : goal.slice_bounds-copy-end-2
slice_bounds-copy-end-2 g c =
    simp length-take (omega (arith, (fits c.args.code.now c.from-n.result c.from-n.ensures c.args.frame.now c.args.symbols.now c.args.costs.now c.args.store.now c.args.margins.now 0 c.in_ok-validate_decode.ensures refl)))

pub slice_bounds-run_over-end : goal.slice_bounds-run_over-end
slice_bounds-run_over-end g c =
    omega (arith, (fits c.args.code.now c.from-n.result c.from-n.ensures c.args.frame.now c.args.symbols.now c.args.costs.now c.args.store.now c.args.margins.now 0 c.in_ok-validate_decode.ensures refl))

pub slice_bounds-run_over-end-2 : goal.slice_bounds-run_over-end-2
slice_bounds-run_over-end-2 g c =
    sym (length-take-le c.from-n.result c.args.symbols.now (omega (arith, (fits c.args.code.now c.from-n.result c.from-n.ensures c.args.frame.now c.args.symbols.now c.args.costs.now c.args.store.now c.args.margins.now 0 c.in_ok-validate_decode.ensures refl))))

pub slice_bounds-run_over-end-3 : goal.slice_bounds-run_over-end-3
slice_bounds-run_over-end-3 g c =
    (front-room c.args.costs.now c.copy.new.costs (length c.args.frame.now) (omega (arith, (fits c.args.code.now c.from-n.result c.from-n.ensures c.args.frame.now c.args.symbols.now c.args.costs.now c.args.store.now c.args.margins.now 0 c.in_ok-validate_decode.ensures refl))) c.copy.auto.costs)

pub slice_bounds-run_over-end-4 : goal.slice_bounds-run_over-end-4
slice_bounds-run_over-end-4 g c =
    sym (length-take-le (length c.args.frame.now) _ (front-room c.args.costs.now c.copy.new.costs (length c.args.frame.now) (omega (arith, (fits c.args.code.now c.from-n.result c.from-n.ensures c.args.frame.now c.args.symbols.now c.args.costs.now c.args.store.now c.args.margins.now 0 c.in_ok-validate_decode.ensures refl))) c.copy.auto.costs))

pub slice_bounds-run_over-end-5 : goal.slice_bounds-run_over-end-5
slice_bounds-run_over-end-5 g c =
    omega (arith, (fits c.args.code.now c.from-n.result c.from-n.ensures c.args.frame.now c.args.symbols.now c.args.costs.now c.args.store.now c.args.margins.now 0 c.in_ok-validate_decode.ensures refl))

pub slice_bounds-run_over-end-6 : goal.slice_bounds-run_over-end-6
slice_bounds-run_over-end-6 g c =
    sym (length-take-le c.from-n.result c.args.margins.now (omega (arith, (fits c.args.code.now c.from-n.result c.from-n.ensures c.args.frame.now c.args.symbols.now c.args.costs.now c.args.store.now c.args.margins.now 0 c.in_ok-validate_decode.ensures refl))))

pub run_over-o-requires : goal.run_over-o-requires
run_over-o-requires g c =
    (copied_room c.args.code.now c.from-n.result c.from-n.ensures c.args.frame.now c.args.symbols.now c.args.costs.now c.args.store.now c.args.margins.now 0 c.in_ok-validate_decode.ensures refl c.copy.new.costs (copied_is c.args.frame.now (take (length c.args.frame.now) c.args.costs.now) c.copy.new.costs (sym (length-take-le (length c.args.frame.now) c.args.costs.now (omega (arith, (fits c.args.code.now c.from-n.result c.from-n.ensures c.args.frame.now c.args.symbols.now c.args.costs.now c.args.store.now c.args.margins.now 0 c.in_ok-validate_decode.ensures refl))))) c.copy.ensures) (λ x. omega (arith, c.type_inv.frame x)) (take c.from-n.result c.args.symbols.now) c.args.arrived.now c.args.sent.now (length-take-le c.from-n.result c.args.symbols.now (omega (arith, (fits c.args.code.now c.from-n.result c.from-n.ensures c.args.frame.now c.args.symbols.now c.args.costs.now c.args.store.now c.args.margins.now 0 c.in_ok-validate_decode.ensures refl)))) c.requires.arrived c.requires.sent, (length-take-le c.from-n.result c.args.margins.now (omega (arith, (fits c.args.code.now c.from-n.result c.from-n.ensures c.args.frame.now c.args.symbols.now c.args.costs.now c.args.store.now c.args.margins.now 0 c.in_ok-validate_decode.ensures refl)))) ∙ c.from-n.ensures)

pub returns : goal.returns
returns g c =
    copied_leaves c.args.code.now c.from-n.result c.from-n.ensures c.args.frame.now c.args.symbols.now c.args.costs.now c.args.store.now c.args.margins.now 0 c.in_ok-validate_decode.ensures refl c.copy.new.costs (copied_is c.args.frame.now (take (length c.args.frame.now) c.args.costs.now) c.copy.new.costs (sym (length-take-le (length c.args.frame.now) c.args.costs.now (omega (arith, (fits c.args.code.now c.from-n.result c.from-n.ensures c.args.frame.now c.args.symbols.now c.args.costs.now c.args.store.now c.args.margins.now 0 c.in_ok-validate_decode.ensures refl))))) c.copy.ensures) g.S.Schedule.early c.run_over-o.result _ _ _ _ c.run_over-o.ensures.ends c.run_over-o.ensures.symbols_then c.run_over-o.ensures.margins_then
