use mathlib.Core.Path.{◌≡◌, ap, ◌∙◌}
use mathlib.Core.List.{◌++◌}
use Prim.Native.Nat.{◌+◌, ◌-◌, ◌*◌, min}
use native.Mathlib.Omega.{arith}
use lib.ListN.{drop}
use Rattle.trellis.specs.Lists.{blocks}
use Rattle.groups.specs.inner.Pairs.{group_of}
use Rattle.tables.proofs.Parts.{fill_end}
use Rattle.groups.proofs.Listing.{group-length, span_length, groups_turn, rows_of}
use Rattle.groups.proofs.list.groups_in.Goals as goal

pub block-requires-clause-sent_len : goal.block-requires-clause-sent_len
block-requires-clause-sent_len c =
    let s = c.written-s in
    let t = c.written-t in (
      c.requires.le_d.1,
      (
        omega (arith, s.ensures, t.ensures),
        span_length s.result t.result (c.args.shape.k * 2 + 1) _ _ c.loop-b.out (omega (arith, s.ensures, t.ensures)) c.edge-x.ensures.value c.edge-y.ensures.value (omega (arith, c.edge-y.ensures.value, c.edge-y.ensures.within, c.requires.out_len)),
      ),
    )

pub loop-b-preserved : goal.loop-b-preserved
loop-b-preserved c =
    let S = c.args.shape in
    let w = S.k * 2 + 1 in
    let f = group_of S.l S.k c.args.sent.now c.args.d in
    let v = 16 * c.loop-b.b in
    let e : v + 16 ≡ 16 * (c.loop-b.b + 1) = omega arith in
    let F = groups_turn f w (group-length S.k S.l c.args.d c.args.sent.now) c.args.out.now c.loop-b.out S.q v c.written-s.result c.written-t.result _ _ (omega arith) c.written-s.ensures c.written-t.ensures c.edge-x.ensures.value c.edge-y.ensures.value c.requires.out_len c.loop-b.invariant c.block.ensures in
    F.1 ∙ ap (λ z. blocks f (min S.q z - 1) ++ drop ((min S.q z - 1) * w) c.args.out.now) e

pub returns : goal.returns
returns c =
    let S = c.args.shape in
    rows_of S.q S.l S.k c.args.d c.args.sent.now
    (fill_end (group_of S.l S.k c.args.sent.now c.args.d) (S.k * 2 + 1) (group-length S.k S.l c.args.d c.args.sent.now) c.args.out.now c.loop-b.out (min S.q (16 * c.loop-b.b) - 1) (S.q - 1) (omega arith) c.requires.out_len c.loop-b.invariant)
