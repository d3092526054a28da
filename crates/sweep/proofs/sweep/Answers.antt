-- A check that none of the numbers refuses is taken as `check` takes it.
use mathlib.Core.Path.{◌≡◌, ◌∙◌, ap, refl}
use Prim.Native.Nat.{◌+◌}
use native.Mathlib.Omega.{arith}
use borrow.Author.Rules.{rules}
use Rattle.refusal.proofs.Numbers.{some_number}
use Rattle.trellis.specs.Reply.{refusal}
use Rattle.refusal.specs.Numbers.{number_of}
use Rattle.refusal.specs.Replies.{reply_of}
use lib.ListN.{length, length-take}
use Rattle.checknode.proofs.CheckFault.{passed}
use Rattle.checknode.proofs.CheckCall.{refused, written}
use Rattle.sweep.proofs.sweep.Goals as goal

pub returns-in_err-validate_check : goal.returns-in_err-validate_check
returns-in_err-validate_check c =
    let a = c.args in
    let r = c.in_err-validate_check.field-0.0 in
    let e : reply_of c.from_residual.result ≡ refusal (number_of r) = search rules in
    let f = refused a.first a.weights.now a.costs.now a.out.now c.in_err-validate_check.ensures (some_number r) in
    record { reply = e ∙ f.0; out_then = f.1 }

pub slice_bounds-record_in-end : goal.slice_bounds-record_in-end
slice_bounds-record_in-end c =
    omega (arith, c.groups.ensures, (passed c.args.first c.args.weights.now c.args.costs.now (length c.args.out.now) c.in_ok-validate_check.ensures refl).fits)

pub slice_bounds-record_in-end-2 : goal.slice_bounds-record_in-end-2
slice_bounds-record_in-end-2 c =
    simp length-take (omega (arith, c.groups.ensures, (passed c.args.first c.args.weights.now c.args.costs.now (length c.args.out.now) c.in_ok-validate_check.ensures refl).fits))

pub invariant_of-check : goal.invariant_of-check
invariant_of-check c =
    let a = c.args in
    record { ready = (passed a.first a.weights.now a.costs.now (length a.out.now) c.in_ok-validate_check.ensures refl).ready; bytes = λ i. omega (arith, c.type_inv.costs i) }

pub record_in-requires : goal.record_in-requires
record_in-requires c =
    let a = c.args in
    simp length-take (omega (arith, c.groups.ensures, (passed a.first a.weights.now a.costs.now (length a.out.now) c.in_ok-validate_check.ensures refl).fits))

pub returns : goal.returns
returns c =
    let weights = c.args.weights.now in
    record {
      reply = (written c.args.first weights c.args.costs.now c.args.out.now c.in_ok-validate_check.ensures refl (ap (λ y. length weights + y) c.groups.ensures) c.record_in.ensures).0;
      out_then = (written c.args.first weights c.args.costs.now c.args.out.now c.in_ok-validate_check.ensures refl (ap (λ y. length weights + y) c.groups.ensures) c.record_in.ensures).1;
    }
