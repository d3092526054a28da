-- What code_tables leaves says the line's code: the numbers and tables of an accepted line, read back, are what was parsed.
use mathlib.Core.Path.{◌≡◌, sym, ap, ◌∙◌}
use mathlib.Core.List.{List}
use Prim.Native.Nat.{ℕ}
use native.Mathlib.Omega.{arith}
use lib.ListN.{length, length-map}
use Rattle.std.specs.Prelude.{Result, Ok}
use Rattle.refusal.specs.declared.Refusal.{Refusal}
use Rattle.machine.specs.CodeLine.{good, Edge, Code, numbers_of, parse}
use Rattle.machine.specs.inner.Tables.{edges_before, checks_from, Tabled}
use Rattle.machine.specs.inner.Accepted.{GoodCode}
use Rattle.machine.proofs.Lines.{parse-good}
use Rattle.machine.proofs.Places.{start-length}
use Rattle.machine.proofs.Edges.{length-table}
use Rattle.machine.proofs.InTables.{checks_say, before_own}
use Rattle.codeline.specs.declared.answers.Numbers.{Numbers}
use Rattle.codeline.specs.Answers.{header_numbers, degree_table, column_table, weight_table, left_in}
use Rattle.codeline.specs.inner.Coding.{code_of, Coded}
use Rattle.codeline.proofs.Answered.{Accepted, header_read, tables-left}

module _ (s : List ℕ) (h : Result Numbers Refusal) (e : header_numbers h ≡ numbers_of (parse s)) (k : Numbers) (i : h ≡ Ok k)
    (ds₀ cs₀ ws₀ ds cs ws : List ℕ) (d : ds ≡ left_in degree_table (parse s) ds₀) (c : cs ≡ left_in column_table (parse s) cs₀) (w : ws ≡ left_in weight_table (parse s) ws₀) where
  accepted : Accepted s k
  accepted = header_read s h e k i

  tabled : Tabled accepted.code ds cs ws
  tabled = tables-left s ds₀ cs₀ ws₀ d c w accepted.code accepted.parsed

  same : code_of k ds cs ws ≡ accepted.code
  same =
      let A = accepted in
      let l : checks_from k.checks ds cs ws ≡ A.code.checks = ap (λ m. checks_from m ds cs ws) A.checks_is ∙ checks_say A.code ds cs ws tabled in
      code-ext A.code k.first k.columns k.scale k.limit (checks_from k.checks ds cs ws) A.first_is A.columns_is A.scale_is A.limit_is l
    where
      code-ext : (C : Code) (f n g t : ℕ) (l : List (List Edge)) → f ≡ C.first → n ≡ C.columns → g ≡ C.scale → t ≡ C.limit → l ≡ C.checks
          → record { first = f; columns = n; scale = g; limit = t; checks = l } ≡ C
      code-ext C f n g t l a b c d e = rw (a, b, c, d, e)

  pub line_says : parse s ≡ good (code_of k ds cs ws)
  line_says = accepted.parsed ∙ ap good (sym same)

  pub line-coded : Coded k ds cs ws
  line-coded =
      let A = accepted in
      let G : GoodCode (code_of k ds cs ws) = rw same (parse-good s A.code A.parsed) in
      let b : edges_before ds k.checks ≡ edges_before (degree_table A.code) (length A.code.checks) = ap (edges_before ds) A.checks_is ∙ before_own A.code ds cs ws tabled in
      record {
        good = G;
        for_degrees = omega (arith, A.checks_is, start-length ds (degree_table A.code) tabled.degrees, length-map A.code.checks (λ es. length es));
        for_columns = rw (b, ← length-table (λ e. e.column) A.code.checks) (start-length cs (column_table A.code) tabled.columns);
        for_weights = rw (b, ← length-table (λ e. e.weight) A.code.checks) (start-length ws (weight_table A.code) tabled.weights);
      }
