-- What a call replies that answers a number, and what a test finds: the refusal's number beside the value, or 0 for none. SPEC 7.1.3.
use Rattle.std.specs.Prelude.{ℕ, Result, Ok, Err}
use Rattle.trellis.specs.Reply.{Reply, accepted, refusal}
use Rattle.refusal.specs.declared.Refusal.{Refusal}
use Rattle.refusal.specs.Numbers.{number_of}

-- a product, or the bytes written
abbrev pub reply_of : Result ℕ Refusal → Reply
reply_of (Ok n) = accepted n
reply_of (Err r) = refusal (number_of r)

-- "the number of the first refusal, 0 for none"
abbrev pub fault_in : Result Unit Refusal → ℕ
fault_in (Ok _) = 0
fault_in (Err r) = number_of r
