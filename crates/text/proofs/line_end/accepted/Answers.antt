-- The header read says whether the code line is accepted.
use mathlib.Core.Path.{◌∙◌}
use Rattle.text.proofs.Laws.{header_says}
use Rattle.text.proofs.line_end.accepted.Goals as goal

pub returns : goal.returns
returns c = c.is_ok.ensures.value ∙ header_says c.args.code.now c.code_line.result c.code_line.ensures
