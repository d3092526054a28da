-- A full line stays as it is; another one takes what it has room for.
use mathlib.Core.Path.{refl}
use native.Mathlib.Omega.{arith}
use lib.ListN.{take, length-take, length-drop}
use Rattle.slices.proofs.Copies.{copied_is}
use Rattle.text.proofs.Parts.{keep-none, keep_some}
use Rattle.text.proofs.cut.keep.Goals as goal

pub returns-then-len-ge-LINE_ROOM : goal.returns-then-len-ge-LINE_ROOM
returns-then-len-ge-LINE_ROOM c =
    record {
      held = λ x. keep-none c.args.st.len c.args.st.code c.args.st.ended c.args.line.now x c.args.part.now c.if-len-ge-LINE_ROOM.true;
      full = (refl, refl);
    }

pub returns : goal.returns
returns c =
    record {
      held = λ x. keep_some c.args.st.len c.args.st.code c.min-n.result c.args.st.ended c.args.line.now x c.args.part.now _ c.min-n.ensures (copied_is (take c.min-n.result c.args.part.now) _ _ (simp (length-take, length-drop) (omega (arith, c.min-n.ensures, c.requires, c.if-len-ge-LINE_ROOM.false))) c.copy.ensures);
      full = (refl, refl);
    }
