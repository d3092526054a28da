use mathlib.Core.Path.{refl}
use native.Mathlib.Omega.{arith}
use Rattle.codeline.specs.Codes.{lent_code}
use Rattle.machine.specs.Lent.{lent}
use Rattle.machine.specs.inner.Tables.{bytes_before}
use Rattle.layered.proofs.Places.{stands_own}
use Rattle.layered.proofs.Iterations.{updates-more, iteration-done}
use Rattle.layered.proofs.Loans.{same-scratch}
use Rattle.layered.proofs.Runs.{checks-count, update-updatable}
use Rattle.layered.proofs.iterate.iterate.Goals as goal

pub loop-here-init : goal.loop-here-init
unfolding bytes_before
loop-here-init c = (omega arith, (record { check_is = refl; edge_is = refl; byte_is = refl }, (refl, (refl, (refl, record { arrived = refl; sent = refl; arrived_length = refl; sent_length = refl })))))

pub update_at-here-requires : goal.update_at-here-requires
update_at-here-requires c =
    record { updatable = update-updatable c.args.code.now c.args.costs.now c.args.store.now c.args.start c.requires.running c.loop-here.here.check (omega (arith, c.from-count.ensures)) _ c.loop-here.invariant.1.1.0; stands = c.loop-here.invariant.1.0; arrived = omega (arith, c.requires.arrived, c.loop-here.invariant.1.1.1.1.1.arrived_length); sent = omega (arith, c.requires.sent, c.loop-here.invariant.1.1.1.1.1.sent_length) }

pub loop-here-smaller : goal.loop-here-smaller
loop-here-smaller c =
    omega (arith, c.update_at-here.ensures.next.check_is)

pub loop-here-preserved : goal.loop-here-preserved
loop-here-preserved c =
    let e = c.update_at-here.ensures.next.check_is in (omega (arith, e), (stands_own c.args.code.now.numbers.first c.args.code.now.degrees.now _ _ c.update_at-here.ensures.next, (updates-more (lent_code c.args.code.now) c.args.start _ _ _ c.loop-here.here.check _ e c.loop-here.invariant.1.1.0 c.update_at-here.ensures.buffers, (omega (arith, c.update_at-here.auto, c.loop-here.invariant.1.1.1.0), (omega (arith, c.update_at-here.auto, c.loop-here.invariant.1.1.1.1.0), same-scratch c.loop-here.invariant.1.1.1.1.1 c.update_at-here.ensures.scratch)))))

pub returns : goal.returns
returns c =
    record {
      scratch = c.loop-here.invariant.1.1.1.1.1;
      buffers = iteration-done (lent_code c.args.code.now) c.args.start (lent c.args.costs.now c.args.store.now) _ c.loop-here.here.check (omega (arith, c.from-count.ensures, checks-count c.args.code.now)) c.loop-here.invariant.1.1.0;
    }
