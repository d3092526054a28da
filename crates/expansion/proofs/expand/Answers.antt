-- Each return is one case of the reply and leaves the buffer as that case says; the last hands the expansion's place to expand_in.
use mathlib.Core.Path.{◌≡◌, sym}
use native.Mathlib.Omega.{arith}
use borrow.Author.Rules.{rules}
use lib.ListN.{length, length-take}
use Rattle.refusal.proofs.Numbers.{some_number}
use Rattle.std.specs.Prelude.{Err}
use Rattle.trellis.proofs.Recurrence.{size_64}
use Rattle.field.proofs.Weighed.{WeightsAccepted, no_fault}
use Rattle.field.proofs.Blocks.{mul_small}
use Rattle.expansion.proofs.ExpandCall.{refused_fault, refused_16, refused_2, accepts, written}
use Rattle.expansion.proofs.expand.Goals as goal

pub returns-in_err-validate_weights : goal.returns-in_err-validate_weights
returns-in_err-validate_weights c =
    let a = c.args in
    let e : c.from_residual.result ≡ Err c.in_err-validate_weights.field-0.0 = search rules in
    let R = refused_fault a.first a.weights.now a.bytes.now a.out.now c.in_err-validate_weights.ensures (some_number c.in_err-validate_weights.field-0.0) in
    record { reply = rw e R.0; out_then = R.1 }

pub returns-then-not-record_ok : goal.returns-then-not-record_ok
returns-then-not-record_ok c =
    let a = c.args in
    let W = no_fault a.first a.weights.now (sym c.in_ok-validate_weights.ensures) in
    let R = refused_16 a.first a.weights.now a.bytes.now a.out.now W _ c.size-q.ensures.0 c.record_ok.ensures c.if-not-record_ok.true in
    record { reply = R.0; out_then = R.1 }

pub overflow_mul-n : goal.overflow_mul-n
overflow_mul-n c =
    let W : WeightsAccepted c.args.first c.args.weights.now = no_fault _ _ (sym c.in_ok-validate_weights.ensures) in
    omega (arith, mul_small (length c.args.weights.now) c.size-q.result W.few (omega (arith, c.size-q.ensures.0, size_64 _ W.high)))

pub returns-then-out-n : goal.returns-then-out-n
returns-then-out-n c =
    let a = c.args in
    let W = no_fault a.first a.weights.now (sym c.in_ok-validate_weights.ensures) in
    let R = refused_2 a.first a.weights.now a.bytes.now a.out.now W _ c.size-q.ensures.0 c.record_ok.ensures c.if-not-record_ok.false c.if-out-n.true in
    record { reply = R.0; out_then = R.1 }

pub expand_in-requires : goal.expand_in-requires
expand_in-requires c =
    let a = c.args in
    let W = no_fault a.first a.weights.now (sym c.in_ok-validate_weights.ensures) in
    let e = c.size-q.ensures.0 in
    record {
      expand_room = accepts a.first a.weights.now a.bytes.now a.out.now W _ e c.record_ok.ensures c.if-not-record_ok.false;
      q_le_most_size = (omega (arith, e, size_64 _ W.high), (e, rw (← e) (simp length-take (omega arith))));
    }

pub returns : goal.returns
returns c =
    let a = c.args in
    let W = no_fault a.first a.weights.now (sym c.in_ok-validate_weights.ensures) in
    let R = written a.first a.weights.now a.bytes.now a.out.now W _ c.size-q.ensures.0 c.record_ok.ensures c.if-not-record_ok.false c.if-out-n.false c.expand_in.ensures in
    record { reply = R.0; out_then = R.1 }
