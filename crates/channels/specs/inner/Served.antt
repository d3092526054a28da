-- The struct by which a call is answered, of its results or of its refusal.
use Rattle.std.specs.Prelude.{Result, Ok, Err, replicate}
use Rattle.refusal.specs.Numbers.{number_of}
use Rattle.refusal.specs.declared.Refusal.{Refusal}
use Rattle.machine.specs.Decoding.{Buffers}
use Rattle.channels.specs.declared.answers.Served.{Served}
use Rattle.channels.specs.Channels.{Results}
use Rattle.channels.specs.Answers.{Gives}

abbrev pub served_by : Result Served Refusal → Served
served_by (Ok s) = s
served_by (Err r) = record { number = number_of r; spent = 0; status = replicate 8 0; iterations = replicate 8 0 }

abbrev pub GivesBy : Results → Served → Buffers → Type 0
GivesBy R s b = Gives R s.number s.spent s.status s.iterations b
