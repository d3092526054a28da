-- What the readers of the code line answer, in the terms of the definitions.
use Rattle.std.specs.Prelude.{◌≡◌, List, ℕ, Result, Ok, Err, length, take, get_or}
use Rattle.refusal.specs.Numbers.{number_of}
use Rattle.refusal.specs.declared.Refusal.{Refusal}
use Rattle.trellis.specs.Refusals.{refused_by}
use Rattle.machine.specs.CodeLine.{Read, good, bad, Code, Edge as Pair, edge, word_at, head_tests, Numbers}
use Rattle.machine.specs.inner.Tables.{Flat, flat, Tables, tables}
use Rattle.codeline.specs.Answers.{degree_table, column_table, weight_table}
use Rattle.codeline.specs.declared.tables.Edge.{Edge}
use Rattle.codeline.specs.declared.tables.Tables.{Tables as LineTables}

-- the columns and weights that were put into tables
abbrev pub put_columns : LineTables → List ℕ
put_columns t = take t.edges t.columns

abbrev pub put_weights : LineTables → List ℕ
put_weights t = take t.edges t.weights

abbrev pub edge_read : Result Edge Refusal → Read Pair
edge_read (Ok e) = good (edge e.column e.weight)
edge_read (Err r) = bad (number_of r)

-- edges, with the columns and weights that are read by then
abbrev pub edges_read : Result Unit Refusal → LineTables → Read Flat
edges_read (Ok _) t = good (flat (put_columns t) (put_weights t))
edges_read (Err r) t = bad (number_of r)

-- a check, whose degree is the answer
abbrev pub check_read : Result ℕ Refusal → LineTables → Read Flat
check_read (Ok d) t = good (flat (put_columns t) (put_weights t))
check_read (Err r) t = bad (number_of r)

-- count checks
abbrev pub checks_read : Result Unit Refusal → ℕ → LineTables → Read Tables
checks_read (Ok _) count t = good (tables (take count t.degrees) (put_columns t) (put_weights t))
checks_read (Err r) count t = bad (number_of r)

-- tables into which a code's checks were read: behind these entries they hold anything
pub record Filled (C : Code) (t : LineTables) : Type 0 where
  pub degrees : take (length C.checks) t.degrees ≡ degree_table C
  pub columns : put_columns t ≡ column_table C
  pub weights : put_weights t ≡ weight_table C

-- the numbers as they stand before the checks, and the line's tests up to there
abbrev pub numbers_at : List ℕ → Numbers
numbers_at s = record { first = get_or s 0 0; columns = word_at s 1; checks = get_or s 3 0; scale = get_or s 4 0; limit = get_or s 5 0 }

unfoldable pub head_of : List ℕ → Read Numbers
head_of s = refused_by (head_tests s) bad (good (numbers_at s))
