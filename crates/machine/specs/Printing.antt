-- The line that the program prints for one line of input. SPEC 9.5, 9.6.
use Rattle.std.specs.Prelude.{List, [], ◌∷◌, ◌++◌, ℕ, ◌+◌, ◌-◌, ◌/◌, ◌%◌, eqb, ltb}
use Rattle.trellis.specs.Lists.{pick, each}
use Rattle.trellis.specs.Reply.{Reply, refusal}
use Rattle.trellis.specs.Sizes.{most_line_bytes}
use Rattle.machine.specs.Line.{line_bytes, line_cases}
use Rattle.machine.specs.CodeLine.{Read, good, bad, Code, parse, frame_fault}
use Rattle.machine.specs.Machine.{run, symbols}
use Rattle.machine.specs.Decoding.{outcome}

-- a byte as two digits 0-9 and A-F (SPEC 9.6)
abbrev pub digit_of : ℕ → ℕ
digit_of n = pick (ltb n 10) (0x30 + n) (0x41 + (n - 10))

abbrev pub digits_of : ℕ → List ℕ
digits_of b = digit_of (b / 16) ∷ digit_of (b % 16) ∷ []

-- a reply, and the symbols that come with it
pub record Said : Type 0 where
  pub reply : Reply
  pub symbols : List ℕ

abbrev pub said : Reply → List ℕ → Said
said r l = record { reply = r; symbols = l }

-- "Each frame gives one line: status, t, then the symbols, all as two-digit bytes. A refused line prints its number as such a byte (12 as
-- 0C) and 00 only". "Each printed line ends in 0A." (SPEC 9.6)
unfoldable pub printed : Said → List ℕ
printed s = each digits_of (s.reply.number ∷ s.reply.value ∷ pick s.reply.refused [] s.symbols) ++ (0x0A ∷ [])

-- a frame under a code that was read, in buffers long enough: the code's refusals, 12, 13, or the run's outcome and its decisions
abbrev pub of_frame : Read Code → List ℕ → Said
of_frame (bad k) f = said (refusal k) []
of_frame (good C) f =
    pick (eqb (frame_fault C f) 0) (said (outcome (run C f).status (run C f).end.t) (symbols C (run C f).end.costs))
    (said (refusal (frame_fault C f)) [])

-- "Line refusals come before all others": 15, 14, then decode's. The longest line has 16,384 bytes (SPEC 9.5)
unfoldable pub frame_said : List ℕ → List ℕ → Said
frame_said code text = line_cases text most_line_bytes (λ k. said (refusal k) []) (of_frame (parse code) (line_bytes text))

unfoldable pub frame_line : List ℕ → List ℕ → List ℕ
frame_line code text = printed (frame_said code text)
