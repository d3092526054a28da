-- The code that the numbers of a line and its tables say, and that it is accepted.
use Rattle.std.specs.Prelude.{List, ℕ, ◌≤◌, length}
use Rattle.machine.specs.CodeLine.{Code}
use Rattle.machine.specs.inner.Tables.{edges_before, code_in}
use Rattle.machine.specs.inner.Accepted.{GoodCode}
use Rattle.codeline.specs.Answers.{numbers_in}
use Rattle.codeline.specs.declared.answers.Numbers.{Numbers}

abbrev pub code_of : Numbers → List ℕ → List ℕ → List ℕ → Code
code_of k ds cs ws = code_in (numbers_in k) ds cs ws

-- it is an accepted code's, and the tables have room for its edges
pub record Coded (k : Numbers) (ds cs ws : List ℕ) : Type 0 where
  pub good : GoodCode (code_of k ds cs ws)
  pub for_degrees : k.checks ≤ length ds
  pub for_columns : edges_before ds k.checks ≤ length cs
  pub for_weights : edges_before ds k.checks ≤ length ws
