-- The most that an accepted code has of each thing (SPEC 4). The code's constants are those of the crate sizes.
use Rattle.std.specs.Prelude.{ℕ}

-- checks of a code, edges of all its checks, and of one
abbrev pub most_checks : ℕ
most_checks = 128

abbrev pub most_edges : ℕ
most_edges = 1024

abbrev pub most_degree : ℕ
most_degree = 32

-- symbols of the largest field
abbrev pub most_size : ℕ
most_size = 64

-- columns of a code, and so symbols of a word
abbrev pub most_symbols : ℕ
most_symbols = 256

-- costs of one check: its degree times the symbols of the field
abbrev pub most_expansion : ℕ
most_expansion = 2048

-- costs of a frame, and the bytes of a store that serves the largest code
abbrev pub most_costs : ℕ
most_costs = 16384

abbrev pub most_store : ℕ
most_store = 57472

-- channels of one call
abbrev pub most_channels : ℕ
most_channels = 8

-- digits of a line, the bytes that they make, and room enough to refuse the line
abbrev pub most_line : ℕ
most_line = 32768

abbrev pub most_line_bytes : ℕ
most_line_bytes = 16384

abbrev pub line_room : ℕ
line_room = 32769

-- the longest printed line
abbrev pub most_printed : ℕ
most_printed = 517
