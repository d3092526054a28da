-- The program: the whole output of a whole input. SPEC 9.
use Rattle.std.specs.Prelude.{List, [], ◌∷◌, ◌++◌, ℕ, eqb, take}
use Rattle.trellis.specs.Lists.{pick, each}
use Rattle.trellis.specs.Reply.{refusal}
use Rattle.trellis.specs.Sizes.{most_line_bytes}
use Rattle.machine.specs.Line.{line_bytes, line_cases}
use Rattle.machine.specs.CodeLine.{Read, good, bad, Code, parse}
use Rattle.machine.specs.Printing.{said, printed, frame_line}

-- a last line: none if it is empty
abbrev pub last_line : List ℕ → List (List ℕ)
last_line [] = []
last_line (b ∷ l) = (b ∷ l) ∷ []

-- "Lines end in byte 0A; a last line without it counts if not empty.": the lines of what follows the bytes l of a line (SPEC 9.2)
unfoldable pub lines_after : List ℕ → List ℕ → List (List ℕ)
lines_after l [] = last_line l
lines_after l (b ∷ s) = pick (eqb b 0x0A) (l ∷ lines_after [] s) (lines_after (l ++ (b ∷ [])) s)

-- "A refused line prints its number as such a byte (12 as 0C) and 00 only" (SPEC 9.6)
abbrev pub refused_line : ℕ → List ℕ
refused_line k = printed (said (refusal k) [])

-- the code line: 15, 14, then the code's own refusals (SPEC 9.4)
unfoldable pub read_code : List ℕ → Read Code
read_code t = line_cases t most_line_bytes (λ k. bad k) (parse (line_bytes t))

-- "a refused code line ends the program"; else "Each frame gives one line" (SPEC 9.4, 9.5)
abbrev pub after_code : Read Code → List ℕ → List (List ℕ) → List ℕ
after_code (bad k) code frames = refused_line k
after_code (good C) code frames = each (frame_line code) frames

-- "first the code line, then one frame a line". "Empty input prints the line `0500`." (SPEC 9.7)
abbrev pub lines_output : List (List ℕ) → List ℕ
lines_output [] = refused_line 5
lines_output (t ∷ frames) = after_code (read_code t) (line_bytes t) frames

-- "The program reads at most 4,294,967,295 bytes and takes the input as ended there." (SPEC 9.1)
unfoldable pub output_of : List ℕ → List ℕ
output_of input = lines_output (lines_after [] (take 4294967295 input))
