-- After the refusals the combined columns stand in the buffer's front.
use mathlib.Core.Path.{◌≡◌, ap, ap₂, ◌∙◌, sym}
use Prim.Native.Nat.{◌*◌}
use native.Mathlib.Omega.{arith}
use lib.ListN.{length-take}
use Rattle.trellis.specs.Rules.{size_of}
use Rattle.machine.specs.Combining.{combined_to}
use Rattle.combiner.proofs.Combined.{under-room, size-some, under_written}
use Rattle.combiner.proofs.combining.under_code.Goals as goal

pub slice_bounds-combine_all-end : goal.slice_bounds-combine_all-end
slice_bounds-combine_all-end c =
    omega (arith, under-room c.args.numbers.first c.args.numbers.columns c.args.first.now c.args.second.now c.args.out.now c.in_ok-validate.ensures)

pub slice_bounds-combine_all-end-2 : goal.slice_bounds-combine_all-end-2
slice_bounds-combine_all-end-2 c =
    simp length-take (omega (arith, under-room c.args.numbers.first c.args.numbers.columns c.args.first.now c.args.second.now c.args.out.now c.in_ok-validate.ensures))

pub combine_all-requires : goal.combine_all-requires
combine_all-requires c =
    let r = under-room c.args.numbers.first c.args.numbers.columns c.args.first.now c.args.second.now c.args.out.now c.in_ok-validate.ensures in
    let e : c.args.numbers.columns * size_of c.args.numbers.first ≡ c.from-n.result * c.size-q.result = ap₂ (λ a b. a * b) (sym c.from-n.ensures) (sym c.size-q.ensures.0) in
    (r.0 ∙ e, (r.1.0 ∙ e, (simp length-take (omega (arith, r, e)), size-some c.args.numbers.first c.args.numbers.columns c.args.first.now c.args.second.now c.args.out.now c.in_ok-validate.ensures c.size-q.result c.size-q.ensures.0)))

pub returns : goal.returns
returns c =
    let r = under_written c.args.numbers.first c.args.numbers.columns c.args.first.now c.args.second.now c.args.out.now c.in_ok-validate.ensures c.size-q.result c.combine_all.new.out c.size-q.ensures.0 (c.combine_all.ensures ∙ ap (combined_to c.size-q.result c.args.first.now c.args.second.now) c.from-n.ensures) in
    record { reply = r.0; out_then = r.1 }
