-- Each refusal by its number; after them the test on the copied frame gives all five of the promise's equations.
use mathlib.Core.Path.{◌≡◌, refl, sym}
use borrow.Author.Rules.{rules}
use Rattle.refusal.proofs.Numbers.{some_number}
use Rattle.refusal.specs.Numbers.{number_of}
use Rattle.layered.specs.Answers.{stage_of, ends}
use native.Mathlib.Omega.{arith}
use lib.ListN.{length, take, length-take}
use lib.Seq.{length-take-le}
use Rattle.layered.proofs.Columns.{front-room}
use Rattle.slices.proofs.Copies.{copied_is}
use Rattle.layered.proofs.Decoded.{fits}
use Rattle.layered.proofs.Steps.{load-refused, first-room, load-leaves}
use Rattle.layered.proofs.stages.load_under.Goals as goal

pub returns-in_err-validate_decode : goal.returns-in_err-validate_decode
returns-in_err-validate_decode c =
    let r = c.in_err-validate_decode.field-0.0 in
    let e : stage_of c.from_residual.result ≡ ends 4 (number_of r) = search rules in
    rw e (load-refused c.args.code.now c.from-n.result c.from-n.ensures c.args.frame.now c.args.symbols.now c.args.costs.now c.args.store.now c.args.margins.now (number_of r) c.in_err-validate_decode.ensures (some_number r))

pub slice_bounds-copy-end : goal.slice_bounds-copy-end
slice_bounds-copy-end c =
    omega (arith, (fits c.args.code.now c.from-n.result c.from-n.ensures c.args.frame.now c.args.symbols.now c.args.costs.now c.args.store.now c.args.margins.now 0 c.in_ok-validate_decode.ensures refl))

pub slice_bounds-copy-end-2 : goal.slice_bounds-copy-end-2
slice_bounds-copy-end-2 c =
    simp length-take (omega (arith, (fits c.args.code.now c.from-n.result c.from-n.ensures c.args.frame.now c.args.symbols.now c.args.costs.now c.args.store.now c.args.margins.now 0 c.in_ok-validate_decode.ensures refl)))

pub slice_bounds-tested-end : goal.slice_bounds-tested-end
slice_bounds-tested-end c =
    (front-room c.args.costs.now c.copy.new.costs (length c.args.frame.now) (omega (arith, (fits c.args.code.now c.from-n.result c.from-n.ensures c.args.frame.now c.args.symbols.now c.args.costs.now c.args.store.now c.args.margins.now 0 c.in_ok-validate_decode.ensures refl))) c.copy.auto.costs)

pub slice_bounds-tested-end-2 : goal.slice_bounds-tested-end-2
slice_bounds-tested-end-2 c =
    sym (length-take-le (length c.args.frame.now) _ (front-room c.args.costs.now c.copy.new.costs (length c.args.frame.now) (omega (arith, (fits c.args.code.now c.from-n.result c.from-n.ensures c.args.frame.now c.args.symbols.now c.args.costs.now c.args.store.now c.args.margins.now 0 c.in_ok-validate_decode.ensures refl))) c.copy.auto.costs))

pub slice_bounds-tested-end-3 : goal.slice_bounds-tested-end-3
slice_bounds-tested-end-3 c =
    omega (arith, (fits c.args.code.now c.from-n.result c.from-n.ensures c.args.frame.now c.args.symbols.now c.args.costs.now c.args.store.now c.args.margins.now 0 c.in_ok-validate_decode.ensures refl))

pub slice_bounds-tested-end-4 : goal.slice_bounds-tested-end-4
slice_bounds-tested-end-4 c =
    sym (length-take-le c.from-n.result c.args.symbols.now (omega (arith, (fits c.args.code.now c.from-n.result c.from-n.ensures c.args.frame.now c.args.symbols.now c.args.costs.now c.args.store.now c.args.margins.now 0 c.in_ok-validate_decode.ensures refl))))

pub slice_bounds-tested-end-5 : goal.slice_bounds-tested-end-5
slice_bounds-tested-end-5 c =
    omega (arith, (fits c.args.code.now c.from-n.result c.from-n.ensures c.args.frame.now c.args.symbols.now c.args.costs.now c.args.store.now c.args.margins.now 0 c.in_ok-validate_decode.ensures refl))

pub slice_bounds-tested-end-6 : goal.slice_bounds-tested-end-6
slice_bounds-tested-end-6 c =
    sym (length-take-le c.from-n.result c.args.margins.now (omega (arith, (fits c.args.code.now c.from-n.result c.from-n.ensures c.args.frame.now c.args.symbols.now c.args.costs.now c.args.store.now c.args.margins.now 0 c.in_ok-validate_decode.ensures refl))))

pub tested-found-requires : goal.tested-found-requires
tested-found-requires c =
    first-room c.args.code.now c.from-n.result c.from-n.ensures c.args.frame.now c.args.symbols.now c.args.costs.now c.args.store.now c.args.margins.now 0 c.in_ok-validate_decode.ensures refl c.copy.new.costs (copied_is c.args.frame.now (take (length c.args.frame.now) c.args.costs.now) c.copy.new.costs (sym (length-take-le (length c.args.frame.now) c.args.costs.now (omega (arith, (fits c.args.code.now c.from-n.result c.from-n.ensures c.args.frame.now c.args.symbols.now c.args.costs.now c.args.store.now c.args.margins.now 0 c.in_ok-validate_decode.ensures refl))))) c.copy.ensures) (λ x. omega (arith, c.type_inv.frame x)) (take c.from-n.result c.args.symbols.now) (take c.from-n.result c.args.margins.now) (length-take-le c.from-n.result c.args.symbols.now (omega (arith, (fits c.args.code.now c.from-n.result c.from-n.ensures c.args.frame.now c.args.symbols.now c.args.costs.now c.args.store.now c.args.margins.now 0 c.in_ok-validate_decode.ensures refl)))) (length-take-le c.from-n.result c.args.margins.now (omega (arith, (fits c.args.code.now c.from-n.result c.from-n.ensures c.args.frame.now c.args.symbols.now c.args.costs.now c.args.store.now c.args.margins.now 0 c.in_ok-validate_decode.ensures refl))))

pub returns : goal.returns
returns c =
    load-leaves c.args.code.now c.from-n.result c.from-n.ensures c.args.frame.now c.args.symbols.now c.args.costs.now c.args.store.now c.args.margins.now 0 c.in_ok-validate_decode.ensures refl c.copy.new.costs (copied_is c.args.frame.now (take (length c.args.frame.now) c.args.costs.now) c.copy.new.costs (sym (length-take-le (length c.args.frame.now) c.args.costs.now (omega (arith, (fits c.args.code.now c.from-n.result c.from-n.ensures c.args.frame.now c.args.symbols.now c.args.costs.now c.args.store.now c.args.margins.now 0 c.in_ok-validate_decode.ensures refl))))) c.copy.ensures) c.tested-found.result _ _ c.tested-found.ensures.test c.tested-found.ensures.symbols_then c.tested-found.ensures.margins_then _ c.stage_after.ensures
