use mathlib.Core.Path.{◌≡◌, refl, ◌∙◌}
use Prim.Native.Nat.{◌+◌, ◌-◌, ◌<◌}
use mathlib.Core.Bool.{false}
use mathlib.Core.List.{[], ◌∷◌, ◌++◌}
use native.Mathlib.Omega.{arith}
use borrow.Author.Rules.{rules}
use borrow.Author.Tests.{not-true, not-false}
use lib.ListN.{length, take, drop, length-drop}
use Rattle.text.specs.inner.Held.{held_in, to_newline}
use Rattle.text.proofs.Laws.{loop_start}
use Rattle.text.proofs.Parts.{newline_found, newline_none, rest-front, line_plain, line_piece, piece_room, piece_more, over_done, rest-done}
use Rattle.text.proofs.cut.feed_over.Goals as goal

pub loop-s-init : goal.loop-s-init
loop-s-init c =
    let e = loop_start (held_in c.args.st c.args.line.now c.args.code.now) c.args.out.now c.args.bytes.now in
    (omega arith, (c.requires.0, (c.requires.1.0, (refl, (e.0, (c.requires.1.1.0 ∙ e.1, e.2))))))

pub returns-in_default : goal.returns-in_default
returns-in_default c =
    let b = c.args.bytes.now in
    let on : c.loop-s.s.ended ≡ false = not-true _ c.loop-s-test.true in
    let z : to_newline (drop c.loop-s.at b) ≡ length (drop c.loop-s.at b) = newline_none (drop c.loop-s.at b) (rw (rest-front b c.loop-s.at) at c.in_default.ensures) in
    let r = rest-done (held_in c.args.st c.args.line.now c.args.code.now) c.args.out.now b c.loop-s.at c.requires.0 c.loop-s.s.len c.loop-s.s.code c.loop-s.s.ended c.loop-s.line c.loop-s.code c.loop-s.invariant.1.1.1.1.0 on c.loop-s.invariant.1.0 z
    (held_in c.keep.result c.keep.new.line c.loop-s.code) (rw (rest-front b c.loop-s.at) at (c.keep.ensures.held c.loop-s.code)) c.loop-s.s.full c.keep.result.full c.loop-s.out c.loop-s.invariant.1.1.1.1.1.0 c.loop-s.invariant.1.1.1.1.1.1 c.keep.ensures.full.0 in
    record { held = r.0; full = r.1.0; out_then = r.1.1 }

pub whole-s-requires : goal.whole-s-requires
whole-s-requires c =
    let b = c.args.bytes.now in
    let q = newline_found (drop c.loop-s.at b) c.in-Some.n (rw (rest-front b c.loop-s.at) at c.in-Some.ensures) in
    let r = piece_room (held_in c.args.st c.args.line.now c.args.code.now) c.args.out.now b c.loop-s.at (c.loop-s.at + (c.in-Some.n + 1)) c.requires.0 (held_in c.loop-s.s c.loop-s.line c.loop-s.code) c.loop-s.invariant.1.1.1.1.0
    (take c.in-Some.n (drop c.loop-s.at b) ++ (0x0A ∷ [])) (line_piece b c.loop-s.at c.in-Some.n q.0 q.1) c.loop-s.s.full c.loop-s.invariant.1.1.1.1.1.0 in
    rw (rest-front b c.loop-s.at)
    record {
      line_len = (c.loop-s.invariant.1.0, (c.loop-s.invariant.1.1.0, (not-true _ c.loop-s-test.true, line_plain (drop c.loop-s.at b) c.in-Some.n q.0)));
      part_in_bounds = omega (arith, r, c.loop-s.invariant.1.1.1.0, c.requires.1.1.1);
    }

pub loop-s-preserved : goal.loop-s-preserved
loop-s-preserved c =
    let b = c.args.bytes.now in
    let q = newline_found (drop c.loop-s.at b) c.in-Some.n (rw (rest-front b c.loop-s.at) at c.in-Some.ensures) in
    let l : c.in-Some.n < length b - c.loop-s.at = rw (← length-drop c.loop-s.at b) q.1 in
    let m = piece_more (held_in c.args.st c.args.line.now c.args.code.now) c.args.out.now b c.loop-s.at (c.loop-s.at + (c.in-Some.n + 1)) c.requires.0 (held_in c.loop-s.s c.loop-s.line c.loop-s.code) c.loop-s.invariant.1.1.1.1.0
    (take c.in-Some.n (drop c.loop-s.at b) ++ (0x0A ∷ [])) (line_piece b c.loop-s.at c.in-Some.n q.0 q.1) c.loop-s.s.full _ c.loop-s.out _ _
    c.loop-s.invariant.1.1.1.1.1.0 c.loop-s.invariant.1.1.1.1.1.1 (rw (rest-front b c.loop-s.at) at c.whole-s.ensures.held) (rw (rest-front b c.loop-s.at) at c.whole-s.ensures.full) (rw (rest-front b c.loop-s.at) at c.whole-s.ensures.out_then) in
    (omega (arith, l), (search rules, (search rules, (search rules, (m.0, (m.1, m.2))))))

pub returns : goal.returns
returns c =
    let r = over_done (held_in c.args.st c.args.line.now c.args.code.now) c.args.out.now c.args.bytes.now c.loop-s.at c.requires.0 (held_in c.loop-s.s c.loop-s.line c.loop-s.code) c.loop-s.invariant.1.1.1.1.0 (not-false _ c.loop-s-test.false) c.loop-s.s.full c.loop-s.out c.loop-s.invariant.1.1.1.1.1.0 c.loop-s.invariant.1.1.1.1.1.1 in
    record { held = r.0; full = r.1.0; out_then = r.1.1 }
