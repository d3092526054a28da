-- A decoding that may stop inside an iteration (true) or not (false): its run, what it leaves and what it asks. proofs/Decoded.antt shows
-- that these are the calls of the specification.
use Rattle.std.specs.Prelude.{Bool, true, false, List, ℕ, ◌*◌, ◌≤◌, length}
use Rattle.trellis.specs.Sizes.{most_expansion}
use Rattle.machine.specs.CodeLine.{Read, good, Code}
use Rattle.machine.specs.Lent.{Lent, Ended, go_lent}
use Rattle.machine.specs.inner.LentEarly.{stop_lent}
use Rattle.machine.specs.Decoding.{Buffers, After, admitted_under, decoding_under, decoding}
use Rattle.machine.specs.Early.{early_under, decoding_early}
use Rattle.codeline.specs.declared.answers.Numbers.{Numbers}

-- the machine over the lent buffers, which may stop inside an iteration or not
abbrev pub run_lent : Bool → Numbers → Code → Lent → Ended
run_lent false k C l = go_lent C k.limit 0 l
run_lent true k C l = stop_lent C (k.checks * k.limit) 0 l

-- what the call leaves under a code, or its refusal
abbrev pub call_under : Bool → Read Code → List ℕ → Buffers → After
call_under false = decoding_under
call_under true = early_under

-- under a code that is read
abbrev pub decoding_of : Bool → Code → List ℕ → Buffers → After
decoding_of early C f b = call_under early (admitted_under (good C) f b) f b

-- under a code line
abbrev pub called : Bool → List ℕ → List ℕ → Buffers → After
called false = decoding
called true = decoding_early

-- room to work in: two lists for the largest check's columns
pub record WorkRoom (A S : List ℕ) : Type 0 where
  pub arrived : most_expansion ≤ length A
  pub sent : most_expansion ≤ length S
