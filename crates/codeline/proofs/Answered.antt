-- What a header says of the code line that it was read from.
use mathlib.Core.Path.{◌≡◌, refl, sym, ap, ap₂, ◌∙◌}
use mathlib.Core.List.{List, ◌++◌}
use Prim.Native.Nat.{ℕ, ◌≤◌}
use native.Mathlib.Omega.{arith}
use lib.ListN.{length, take, drop, length-map}
use lib.Seq.{length-take-le, take_at}
use Rattle.std.specs.Prelude.{Result, Ok, Err}
use Rattle.refusal.specs.Numbers.{number_of}
use Rattle.refusal.specs.declared.Refusal.{Refusal}
use Rattle.machine.specs.CodeLine.{Read, good, bad, Code, Numbers, numbers_of, parse}
use Rattle.machine.specs.inner.Tables.{Tabled}
use Rattle.codeline.specs.declared.answers.Numbers.{Numbers as LineNumbers}
use Rattle.codeline.specs.declared.tables.Tables.{Tables as LineTables}
use Rattle.codeline.specs.Answers.{numbers_in, header_numbers, degree_table, column_table, weight_table, left_in}
use Rattle.codeline.specs.inner.Reading.{put_columns, put_weights, Filled}

-- the line is accepted, and these are the numbers of its code
pub record Accepted (s : List ℕ) (k : LineNumbers) : Type 0 where
  pub code : Code
  pub parsed : parse s ≡ good code
  pub first_is : k.first ≡ code.first
  pub columns_is : k.columns ≡ code.columns
  pub checks_is : k.checks ≡ length code.checks
  pub scale_is : k.scale ≡ code.scale
  pub limit_is : k.limit ≡ code.limit

module _ (s : List ℕ) (h : Result LineNumbers Refusal) (e : header_numbers h ≡ numbers_of (parse s)) where
  pub header_refused : (r : Refusal) → h ≡ Err r → parse s ≡ bad (number_of r)
  header_refused r i = go (parse s) (sym e ∙ ap header_numbers i)
    where
      go : (x : Read Code) → numbers_of x ≡ bad (number_of r) → x ≡ bad (number_of r)
      go (good C) o = let z : ◌≡◌ {A = ℕ} 0 1 = cc in absurd (omega arith)
      go (bad l) o = cc

  -- then a lent table stays as it is
  pub refused_left : (r : Refusal) → h ≡ Err r → (f : Code → List ℕ) (l : List ℕ) → l ≡ left_in f (parse s) l
  refused_left r i f l = rw (header_refused r i)

  pub header_read : (k : LineNumbers) → h ≡ Ok k → Accepted s k
  header_read k i = go (parse s) refl (sym e ∙ ap header_numbers i)
    where
      go : (r : Read Code) → parse s ≡ r → numbers_of r ≡ good (numbers_in k) → Accepted s k
      go (good C) j o =
          let v : record { first = C.first; columns = C.columns; checks = length C.checks; scale = C.scale; limit = C.limit } ≡ numbers_in k = cc in
          record {
            code = C;
            parsed = j;
            first_is = sym (ap (λ (a : Numbers). a.first) v);
            columns_is = sym (ap (λ (a : Numbers). a.columns) v);
            checks_is = sym (ap (λ (a : Numbers). a.checks) v);
            scale_is = sym (ap (λ (a : Numbers). a.scale) v);
            limit_is = sym (ap (λ (a : Numbers). a.limit) v);
          }
      go (bad l) j o = let z : ◌≡◌ {A = ℕ} 0 1 = cc in absurd (omega arith)

  -- and then it gets what was read in front
  module _ (k : LineNumbers) (i : h ≡ Ok k) (t : LineTables) (f : (C : Code) → parse s ≡ good C → Filled C t) where
    A : Accepted s k
    A = header_read k i

    filled : Filled A.code t
    filled = f A.code A.parsed

    pub degrees_left : (l : List ℕ) → take k.checks t.degrees ++ drop k.checks l ≡ left_in degree_table (parse s) l
    degrees_left l =
        let n : length (degree_table A.code) ≡ length A.code.checks = length-map A.code.checks (λ es. length es) in
        let m : take k.checks t.degrees ≡ degree_table A.code = ap (λ n. take n t.degrees) A.checks_is ∙ filled.degrees in
        ap₂ (λ a b. a ++ drop b l) m (A.checks_is ∙ sym n) ∙ sym (ap (λ r. left_in degree_table r l) A.parsed)

    pub columns_left : t.edges ≤ length t.columns → (l : List ℕ) → put_columns t ++ drop t.edges l ≡ left_in column_table (parse s) l
    columns_left r l = let n : length (column_table A.code) ≡ t.edges = ap length (sym filled.columns) ∙ length-take-le t.edges t.columns r in ap₂ (λ a b. a ++ drop b l) filled.columns (sym n) ∙ sym (ap (λ r. left_in column_table r l) A.parsed)

    pub weights_left : t.edges ≤ length t.weights → (l : List ℕ) → put_weights t ++ drop t.edges l ≡ left_in weight_table (parse s) l
    weights_left r l = let n : length (weight_table A.code) ≡ t.edges = ap length (sym filled.weights) ∙ length-take-le t.edges t.weights r in ap₂ (λ a b. a ++ drop b l) filled.weights (sym n) ∙ sym (ap (λ r. left_in weight_table r l) A.parsed)

-- what the tables then start with
pub tables-left : (s ds cs ws : List ℕ) {d c w : List ℕ} → d ≡ left_in degree_table (parse s) ds → c ≡ left_in column_table (parse s) cs → w ≡ left_in weight_table (parse s) ws
    → (C : Code) → parse s ≡ good C → Tabled C d c w
tables-left s ds cs ws a b e C i =
    record { degrees = front degree_table ds a; columns = front column_table cs b; weights = front weight_table ws e }
  where
    front : (f : Code → List ℕ) (l : List ℕ) {r : List ℕ} → r ≡ left_in f (parse s) l → take (length (f C)) r ≡ f C
    front f l o = ap (take (length (f C))) (rw i at o) ∙ take_at (f C) (drop (length (f C)) l) (length (f C)) refl
