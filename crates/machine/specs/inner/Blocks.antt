-- The program block by block, as the code has it: what is kept between two blocks of the input, and what each prints.
-- proofs/Program.antt shows that it prints output_of, however the input is cut.
use Rattle.std.specs.Prelude.{List, [], ◌∷◌, ◌++◌, ℕ, eqb, take}
use Rattle.trellis.specs.Lists.{pick, each}
use Rattle.machine.specs.Line.{line_bytes}
use Rattle.machine.specs.CodeLine.{Read, good, bad, Code}
use Rattle.machine.specs.Printing.{frame_line}
use Rattle.machine.specs.Program.{last_line, refused_line, read_code}

-- the code line so far; or the code line's bytes and the frame's line so far; or the program has ended
pub data Session : Type 0 where
  first : List ℕ → Session
  later : List ℕ → List ℕ → Session
  ended : Session

-- at the start
abbrev pub fresh : Session
fresh = first []

-- a byte of a line: 32,769 are enough to refuse it by 15
abbrev pub longer : List ℕ → ℕ → List ℕ
longer l b = take 32769 (l ++ (b ∷ []))

abbrev pub fed_byte : Session → ℕ → Session
fed_byte (first l) b = first (longer l b)
fed_byte (later code l) b = later code (longer l b)
fed_byte ended b = ended

-- the code line read to its end
abbrev pub code_kept : Read Code → List ℕ → Session
code_kept (bad k) code = ended
code_kept (good C) code = later code []

abbrev pub code_out : Read Code → List ℕ
code_out (bad k) = refused_line k
code_out (good C) = []

-- the end of a line: what is kept, and what is printed
unfoldable pub line_finished : Session → Session
line_finished (first l) = code_kept (read_code l) (line_bytes l)
line_finished (later code l) = later code []
line_finished ended = ended

unfoldable pub line_finished_out : Session → List ℕ
line_finished_out (first l) = code_out (read_code l)
line_finished_out (later code l) = frame_line code l
line_finished_out ended = []

-- one block: what is kept after it, and what is printed for it
unfoldable pub fed : Session → List ℕ → Session
fed k [] = k
fed k (b ∷ s) = pick (eqb b 0x0A) (fed (line_finished k) s) (fed (fed_byte k b) s)

unfoldable pub fed_out : Session → List ℕ → List ℕ
fed_out k [] = []
fed_out k (b ∷ s) = pick (eqb b 0x0A) (line_finished_out k ++ fed_out (line_finished k) s) (fed_out (fed_byte k b) s)

-- the end of the input
unfoldable pub close_out : Session → List ℕ
close_out (first l) = code_out (read_code l)
close_out (later code l) = each (frame_line code) (last_line l)
close_out ended = []

-- block after block
unfoldable pub fed_all : Session → List (List ℕ) → Session
fed_all k [] = k
fed_all k (s ∷ bs) = fed_all (fed k s) bs

unfoldable pub fed_all_out : Session → List (List ℕ) → List ℕ
fed_all_out k [] = []
fed_all_out k (s ∷ bs) = fed_out k s ++ fed_all_out (fed k s) bs

-- blocks end to end
abbrev pub all_blocks : List (List ℕ) → List ℕ
all_blocks bs = each (λ s. s) bs
