-- What the public calls answer and leave: the numbers of the code line, or the number of its refusal; and the tables.
use Rattle.std.specs.Prelude.{◌≡◌, List, ◌++◌, ℕ, Result, Ok, Err, length, drop}
use Rattle.refusal.specs.Numbers.{number_of}
use Rattle.refusal.specs.declared.Refusal.{Refusal}
use Rattle.machine.specs.CodeLine.{Read, good, bad, Code, Numbers}
use Rattle.machine.specs.Machine.{used}
use Rattle.machine.specs.inner.Tables.{tables_of}
use Rattle.codeline.specs.declared.answers.Summary.{Summary}
use Rattle.codeline.specs.declared.answers.Numbers.{Numbers as LineNumbers}

abbrev pub numbers_in : LineNumbers → Numbers
numbers_in k = record { first = k.first; columns = k.columns; checks = k.checks; scale = k.scale; limit = k.limit }

abbrev pub header_numbers : Result LineNumbers Refusal → Read Numbers
header_numbers (Ok k) = good (numbers_in k)
header_numbers (Err r) = bad (number_of r)

-- what a code line says to whoever lends the buffers: 0 or the number of its refusal, its numbers, and "as many bytes as the M record
-- lengths add up to"
pub record Told : Type 0 where
  pub number : ℕ
  pub first : ℕ
  pub columns : ℕ
  pub checks : ℕ
  pub scale : ℕ
  pub limit : ℕ
  pub store : ℕ

abbrev pub told_refused : ℕ → Told
told_refused k = record { number = k; first = 0; columns = 0; checks = 0; scale = 0; limit = 0; store = 0 }

abbrev pub summary_of : Read Code → Told
summary_of (bad k) = told_refused k
summary_of (good C) =
    record {
      number = 0;
      first = C.first;
      columns = C.columns;
      checks = length C.checks;
      scale = C.scale;
      limit = C.limit;
      store = used C;
    }

-- the struct's fields are these
pub record Tells (t : Told) (s : Summary) : Type 0 where
  pub number_is : s.number ≡ t.number
  pub first_is : s.first ≡ t.first
  pub columns_is : s.columns ≡ t.columns
  pub checks_is : s.checks ≡ t.checks
  pub scale_is : s.scale ≡ t.scale
  pub limit_is : s.limit ≡ t.limit
  pub store_is : s.store ≡ t.store

-- a code's degrees, and all its columns and weights end to end
abbrev pub degree_table : Code → List ℕ
degree_table C = (tables_of C.checks).degrees

abbrev pub column_table : Code → List ℕ
column_table C = (tables_of C.checks).edges.columns

abbrev pub weight_table : Code → List ℕ
weight_table C = (tables_of C.checks).edges.weights

-- what stands in a lent table afterwards: an accepted line's entries first, the rest as it was; a refusal changes nothing
abbrev pub left_in : (Code → List ℕ) → Read Code → List ℕ → List ℕ
left_in f (good C) l = f C ++ drop (length (f C)) l
left_in f (bad k) l = l
