-- The part is kept, then the line ends.
use mathlib.Core.Path.{◌∙◌}
use lib.ListN.{length}
use Rattle.text.specs.inner.Held.{held_in}
use Rattle.text.proofs.Parts.{whole_room, whole_done}
use borrow.Author.Rules.{rules}
use Rattle.text.proofs.cut.whole.Goals as goal

pub finish_line-requires : goal.finish_line-requires
finish_line-requires c = (
  search rules,
  (
    search rules,
    (
      c.keep-s.ensures.full.1 ∙ c.requires.line_len.1.1.0,
      whole_room c.args.part.now c.args.st.len c.args.st.code c.args.st.ended c.args.line.now c.args.code.now c.requires.line_len.1.1.0 c.requires.line_len.0 c.requires.line_len.1.1.1
          (held_in c.keep-s.result c.keep-s.new.line c.args.code.now) c.args.st.full c.keep-s.result.full (c.keep-s.ensures.held c.args.code.now) c.keep-s.ensures.full.0 (length c.args.out.now) c.requires.part_in_bounds,
    ),
  ),
)

pub returns : goal.returns
returns c =
    record {
      held = (whole_done c.args.part.now c.args.st.len c.args.st.code c.args.st.ended c.args.line.now c.args.code.now c.requires.line_len.1.1.0 c.requires.line_len.0 c.requires.line_len.1.1.1 (held_in c.keep-s.result c.keep-s.new.line c.args.code.now) c.args.st.full c.keep-s.result.full (c.keep-s.ensures.held c.args.code.now) c.keep-s.ensures.full.0 _ _ c.args.out.now _ c.finish_line.ensures.held c.finish_line.ensures.full c.finish_line.ensures.out_then).0;
      full = (whole_done c.args.part.now c.args.st.len c.args.st.code c.args.st.ended c.args.line.now c.args.code.now c.requires.line_len.1.1.0 c.requires.line_len.0 c.requires.line_len.1.1.1 (held_in c.keep-s.result c.keep-s.new.line c.args.code.now) c.args.st.full c.keep-s.result.full (c.keep-s.ensures.held c.args.code.now) c.keep-s.ensures.full.0 _ _ c.args.out.now _ c.finish_line.ensures.held c.finish_line.ensures.full c.finish_line.ensures.out_then).1.0;
      out_then = (whole_done c.args.part.now c.args.st.len c.args.st.code c.args.st.ended c.args.line.now c.args.code.now c.requires.line_len.1.1.0 c.requires.line_len.0 c.requires.line_len.1.1.1 (held_in c.keep-s.result c.keep-s.new.line c.args.code.now) c.args.st.full c.keep-s.result.full (c.keep-s.ensures.held c.args.code.now) c.keep-s.ensures.full.0 _ _ c.args.out.now _ c.finish_line.ensures.held c.finish_line.ensures.full c.finish_line.ensures.out_then).1.1;
    }
