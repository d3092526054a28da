-- What `feed` keeps, as it lies in the state and the two lent buffers, and what it stands for.
use Rattle.std.specs.Prelude.{◌≡◌, Bool, true, false, not, List, [], ◌∷◌, ◌++◌, ℕ, suc, ◌+◌, ◌-◌, min, eqb, ltb, length, take, drop, set}
use Rattle.trellis.specs.Lists.{pick}
use Rattle.trellis.specs.Sizes.{most_line_bytes, line_room}
use Rattle.machine.specs.Line.{line_bytes, line_cases}
use Rattle.machine.specs.CodeLine.{Read, good, bad, Code, parse}
use Rattle.machine.specs.inner.Blocks.{Session, first, later, ended}
use Rattle.text.specs.declared.state.State.{State}

-- how many bytes of the line so far, how many of the code line (0 before it is read), whether the program has ended; and the two buffers
pub record Held : Type 0 where
  pub len : ℕ
  pub code : ℕ
  pub over : Bool
  pub line : List ℕ
  pub bytes : List ℕ

abbrev pub held_in : State → List ℕ → List ℕ → Held
held_in s l c = record { len = s.len; code = s.code; over = s.ended; line = l; bytes = c }

-- what that stands for, whatever the numbers
abbrev pub kept_of : Held → Session
kept_of h =
    pick h.over ended
    (pick (eqb h.code 0) (first (take h.len h.line)) (later (take h.code h.bytes) (take h.len h.line)))

-- a list put into a buffer at a place
abbrev pub put_at : List ℕ → ℕ → List ℕ → List ℕ
put_at out n s = take n out ++ (s ++ drop (length s) (drop n out))

-- a byte of a line
abbrev pub byte_held : Held → ℕ → Held
byte_held h b =
    pick (ltb h.len line_room)
    (record { len = h.len + 1; code = h.code; over = h.over; line = set h.line h.len b; bytes = h.bytes })
    h

-- how many bytes stand before the first 0A; all if there is none
unfoldable pub to_newline : List ℕ → ℕ
to_newline [] = 0
to_newline (b ∷ s) = pick (eqb b 0x0A) 0 (suc (to_newline s))

-- how many bytes of a part the line has room for
abbrev pub room_for : ℕ → List ℕ → ℕ
room_for n s = min (length s) (line_room - n)

-- a part of a line at once: 32,769 bytes are enough to refuse it by 15
unfoldable pub part_held : Held → List ℕ → Held
part_held h s =
    record {
      len = h.len + room_for h.len s;
      code = h.code;
      over = h.over;
      line = put_at h.line h.len
          (take (room_for h.len s) s);
      bytes = h.bytes;
    }

-- r and m are s and l with a part more, whatever the other buffer holds
abbrev pub KeepsPart : State → List ℕ → List ℕ → State → List ℕ → Type 0
KeepsPart s l t r m = (c : List ℕ) → held_in r m c ≡ part_held (held_in s l c) t

-- the bytes of the code line; none if the line is refused by 15 or 14
unfoldable pub code_bytes : List ℕ → List ℕ
code_bytes t = line_cases t most_line_bytes (λ k. []) (line_bytes t)

abbrev pub is_good : Read Code → Bool
is_good (good C) = true
is_good (bad k) = false

unfoldable pub accepts : List ℕ → Bool
accepts code = is_good (parse code)

-- the code line read to its end
abbrev pub code_held : Held → List ℕ → Held
code_held h t =
    record {
      len = 0;
      code = pick (accepts (code_bytes t)) (length (code_bytes t)) 0;
      over = not (accepts (code_bytes t));
      line = h.line;
      bytes = code_bytes t ++ drop (length (code_bytes t)) h.bytes;
    }

-- the end of a line
abbrev pub finished_held : Held → Held
finished_held h =
    pick (eqb h.code 0) (code_held h (take h.len h.line))
    (record { len = 0; code = h.code; over = false; line = h.line; bytes = h.bytes })

-- one byte of the input; none once the program has ended
unfoldable pub step_held : Held → ℕ → Held
step_held h b = pick h.over h (pick (eqb b 0x0A) (finished_held h) (byte_held h b))

-- a block
unfoldable pub fed_held : Held → List ℕ → Held
fed_held h [] = h
fed_held h (b ∷ s) = fed_held (step_held h b) s

-- whether the end of the input prints nothing: the program has ended, or a frame's line is empty
unfoldable pub quiet : Bool → ℕ → ℕ → Bool
quiet over code len = pick over true (pick (eqb code 0) false (eqb len 0))

-- the end of the input: it reads a code line that ends there
unfoldable pub close_held : Held → Held
close_held h = pick h.over h (pick (eqb h.code 0) (finished_held h) h)
