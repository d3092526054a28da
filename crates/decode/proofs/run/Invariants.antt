-- What may still be read falls; and until something fails, what stands written at the end is the whole output.
use Rattle.std.proofs.Common.{◌≡◌, OnOk, OnErr}
use Rattle.std.specs.Io.KnownBytes.{Keeps}
use Rattle.machine.specs.inner.Blocks.{fresh}
use Rattle.text.specs.inner.Held.{held_in, kept_of}
use Rattle.decode.specs.Owed.{owed}
use Rattle.decode.proofs.run.Given as goal

abbrev pub invariant-loop-left : goal.invariant-loop-left
invariant-loop-left g l =
    OnErr l.done (l.left ≡ 0)
    × OnOk l.done (Keeps
    (owed (g.R.Read.remaining l.fn.input) (g.W.Write.contents l.fn.output) fresh 4294967295)
    (owed (g.R.Read.remaining l.input) (g.W.Write.contents l.output) (kept_of (held_in l.st l.line l.code)) l.left))

abbrev pub decreases-loop-left : goal.decreases-loop-left
decreases-loop-left g l = l.left
