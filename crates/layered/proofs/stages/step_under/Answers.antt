-- Each refusal by its number; after them the iteration on the front of the cost buffer gives all five of the promise's equations.
use mathlib.Core.Path.{◌≡◌, refl, sym}
use borrow.Author.Rules.{rules}
use Rattle.refusal.proofs.Numbers.{some_number}
use Rattle.refusal.specs.Numbers.{number_of}
use Rattle.layered.specs.Answers.{stage_of, ends}
use native.Mathlib.Omega.{arith}
use lib.ListN.{length, take}
use lib.Seq.{length-take-le}
use Rattle.layered.proofs.Decoded.{fits}
use Rattle.layered.proofs.Steps.{step-refused, resume_refused, step_room, step-leaves}
use Rattle.layered.proofs.stages.step_under.Goals as goal

pub returns-in_err-validate_decode : goal.returns-in_err-validate_decode
returns-in_err-validate_decode c =
    let r = c.in_err-validate_decode.field-0.0 in
    let e : stage_of c.from_residual.result ≡ ends 4 (number_of r) = search rules in
    rw e (step-refused c.args.code.now c.from-n.result c.from-n.ensures c.args.frame.now c.args.symbols.now c.args.costs.now c.args.store.now c.args.margins.now (number_of r) c.in_err-validate_decode.ensures (some_number r) c.args.t)

pub returns-in_err-validate_resumed : goal.returns-in_err-validate_resumed
returns-in_err-validate_resumed c =
    let r = c.in_err-validate_resumed.field-0.0 in
    let e : stage_of c.from_residual-in_err-validate_resumed.result ≡ ends 4 (number_of r) = search rules in
    rw e (resume_refused c.args.code.now c.from-n.result c.from-n.ensures c.args.frame.now c.args.symbols.now c.args.costs.now c.args.store.now c.args.margins.now 0 c.in_ok-validate_decode.ensures refl c.args.t (number_of r) c.in_err-validate_resumed.ensures (some_number r))

pub slice_bounds-iterated-end : goal.slice_bounds-iterated-end
slice_bounds-iterated-end c =
    omega (arith, (fits c.args.code.now c.from-n.result c.from-n.ensures c.args.frame.now c.args.symbols.now c.args.costs.now c.args.store.now c.args.margins.now 0 c.in_ok-validate_decode.ensures refl))

pub slice_bounds-iterated-end-2 : goal.slice_bounds-iterated-end-2
slice_bounds-iterated-end-2 c =
    sym (length-take-le c.from-n.result c.args.symbols.now (omega (arith, (fits c.args.code.now c.from-n.result c.from-n.ensures c.args.frame.now c.args.symbols.now c.args.costs.now c.args.store.now c.args.margins.now 0 c.in_ok-validate_decode.ensures refl))))

pub slice_bounds-iterated-end-3 : goal.slice_bounds-iterated-end-3
slice_bounds-iterated-end-3 c =
    omega (arith, (fits c.args.code.now c.from-n.result c.from-n.ensures c.args.frame.now c.args.symbols.now c.args.costs.now c.args.store.now c.args.margins.now 0 c.in_ok-validate_decode.ensures refl))

pub slice_bounds-iterated-end-4 : goal.slice_bounds-iterated-end-4
slice_bounds-iterated-end-4 c =
    sym (length-take-le (length c.args.frame.now) c.args.costs.now (omega (arith, (fits c.args.code.now c.from-n.result c.from-n.ensures c.args.frame.now c.args.symbols.now c.args.costs.now c.args.store.now c.args.margins.now 0 c.in_ok-validate_decode.ensures refl))))

pub slice_bounds-iterated-end-5 : goal.slice_bounds-iterated-end-5
slice_bounds-iterated-end-5 c =
    omega (arith, (fits c.args.code.now c.from-n.result c.from-n.ensures c.args.frame.now c.args.symbols.now c.args.costs.now c.args.store.now c.args.margins.now 0 c.in_ok-validate_decode.ensures refl))

pub slice_bounds-iterated-end-6 : goal.slice_bounds-iterated-end-6
slice_bounds-iterated-end-6 c =
    sym (length-take-le c.from-n.result c.args.margins.now (omega (arith, (fits c.args.code.now c.from-n.result c.from-n.ensures c.args.frame.now c.args.symbols.now c.args.costs.now c.args.store.now c.args.margins.now 0 c.in_ok-validate_decode.ensures refl))))

pub iterated-found-requires : goal.iterated-found-requires
iterated-found-requires c =
    step_room c.args.code.now c.from-n.result c.from-n.ensures c.args.frame.now c.args.symbols.now c.args.costs.now c.args.store.now c.args.margins.now 0 c.in_ok-validate_decode.ensures refl c.args.t 0 c.in_ok-validate_resumed.ensures refl (take c.from-n.result c.args.symbols.now) (take c.from-n.result c.args.margins.now) c.args.arrived.now c.args.sent.now (length-take-le c.from-n.result c.args.symbols.now (omega (arith, (fits c.args.code.now c.from-n.result c.from-n.ensures c.args.frame.now c.args.symbols.now c.args.costs.now c.args.store.now c.args.margins.now 0 c.in_ok-validate_decode.ensures refl)))) (length-take-le c.from-n.result c.args.margins.now (omega (arith, (fits c.args.code.now c.from-n.result c.from-n.ensures c.args.frame.now c.args.symbols.now c.args.costs.now c.args.store.now c.args.margins.now 0 c.in_ok-validate_decode.ensures refl)))) c.requires.arrived c.requires.sent

pub returns : goal.returns
returns c =
    step-leaves c.args.code.now c.from-n.result c.from-n.ensures c.args.frame.now c.args.symbols.now c.args.costs.now c.args.store.now c.args.margins.now 0 c.in_ok-validate_decode.ensures refl c.args.t 0 c.in_ok-validate_resumed.ensures refl c.iterated-found.result _ _ _ _ c.iterated-found.ensures.test c.iterated-found.ensures.buffers c.iterated-found.ensures.symbols_then c.iterated-found.ensures.margins_then _ (rw c.from.ensures at c.stage_after.ensures)
