-- The answers' meanings: the specification's number and values for each case.
use Rattle.std.specs.Prelude.{ℕ, Result, Ok, Err}
use Rattle.trellis.specs.Reply.{Reply, refusal, found_in, not_found_in}
use Rattle.refusal.specs.Numbers.{number_of}
use Rattle.refusal.specs.declared.Refusal.{Refusal}
use Rattle.machine.specs.Moments.{Stage as Ends}
use Rattle.layered.specs.declared.answers.Outcome.{Outcome}
use Rattle.layered.specs.declared.answers.Outcome.TheVariants.{Found, NotFound}
use Rattle.layered.specs.declared.answers.Stage.{Stage}
use Rattle.layered.specs.declared.answers.Stage.TheVariants.{Running, Found as StageFound, NotFound as StageNotFound}

-- the value is t, or the number of check updates
abbrev pub answer_reply : Result Outcome Refusal → Reply
answer_reply (Ok (Found t)) = found_in t
answer_reply (Ok (NotFound t)) = not_found_in t
answer_reply (Err r) = refusal (number_of r)

-- where a load or an iteration ends
abbrev pub ends : ℕ → ℕ → Ends
ends state number = record { state = state; number = number }

-- "States: 0 idle, 1 running, 2 found, 3 not found, 4 refused."
abbrev pub stage_of : Result Stage Refusal → Ends
stage_of (Ok Running) = ends 1 0
stage_of (Ok StageFound) = ends 2 0
stage_of (Ok StageNotFound) = ends 3 0
stage_of (Err r) = ends 4 (number_of r)
