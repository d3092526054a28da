-- The numbers of docs/SWEEP.md, by evaluation of the definitions. Its record is a case of trellis/specs/Bench.antt.
use mathlib.Core.Path.{◌≡◌, refl}
use Rattle.trellis.specs.Field.{xor}
use Rattle.trellis.specs.Check.{choices, shift, decided}
use Rattle.trellis.specs.Sweep.{swept, joined, swept_sent}
use Rattle.sweep.specs.Worked.{worked_before, worked_after, worked_sent, printed_before, printed_after, printed_sent}

pub kept-before : worked_before ≡ printed_before
unfolding swept choices xor
kept-before = refl

pub kept-after : worked_after ≡ printed_after
unfolding swept choices xor
kept-after = refl

pub sent-printed : worked_sent ≡ printed_sent
unfolding swept_sent joined swept choices shift decided xor
sent-printed = refl
