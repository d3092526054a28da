-- The record of an accepted check has the accepted form, and its expansion is all the sent costs, each at its place.
use mathlib.Core.Path.{◌≡◌, refl, sym, ap, ◌∙◌, subst}
use mathlib.Core.Bool.{true}
use mathlib.Core.List.{List, [], ◌∷◌, map}
use Prim.Native.Nat.{ℕ, ◌+◌, ◌*◌, ◌<◌}
use native.Mathlib.Nat.{mul_comm, zero-add}
use lib.ListN.{length, get_or, drop, length-map}
use lib.Seq.{get_or-take, get_or-drop}
use Rattle.trellis.specs.Lists.{up_to, others, part}
use Rattle.trellis.specs.Field.{product}
use Rattle.trellis.specs.Check.{Rule, Column, IsLeast, weights, sent, all_sent}
use Rattle.trellis.specs.Record.{record_of, record_length, record_ok, expansion}
use Rattle.trellis.specs.Rules.{rule_for, power_of, size_of, columns_of}
use Rattle.trellis.specs.Ready.{Ready}
use Rattle.trellis.proofs.Places.{length-count, at-map-count, slice_each, length-each}
use Rattle.trellis.proofs.Records.{expand_all, sent_exists}
use Rattle.trellis.proofs.Form.{record_length_lem, record_ok_lem}
use Rattle.trellis.proofs.Ready.{length-columns, column-at, ready_proper}

weights-columns : (q : ℕ) (ws cs : List ℕ) → weights (columns_of q ws cs) ≡ ws
unfolding columns_of
weights-columns q [] cs = refl
weights-columns q (h ∷ ws) cs = ap (λ l. h ∷ l) (weights-columns q ws (drop q cs))

-- all sent costs: how many, and each at its place
module _ (R : Rule) (cs : List Column) where
  abbrev sent-column : ℕ → List ℕ
  sent-column n = map (sent R cs n) (up_to R.size)

  column-length : (n : ℕ) → length (sent-column n) ≡ R.size
  column-length n = length-map (up_to R.size) (sent R cs n) ∙ length-count 0 R.size

  pub length-sent : length (all_sent R cs) ≡ length cs * R.size
  unfolding all_sent
  length-sent = length-each sent-column R.size (up_to (length cs)) column-length ∙ ap (λ d. R.size * d) (length-count 0 (length cs)) ∙ mul_comm R.size (length cs)

  pub sent-place : (n x : ℕ) → n < length cs → x < R.size → get_or (all_sent R cs) (n * R.size + x) 0 ≡ sent R cs n x
  unfolding all_sent
  sent-place n x l h =
      let at : part (all_sent R cs) (n * R.size) R.size ≡ sent-column n =
      ap (λ a. part (all_sent R cs) a R.size) (mul_comm n R.size) ∙ slice_each sent-column R.size 0 (length cs) n (λ m i j. column-length m) l ∙ ap sent-column (zero-add n) in
      let e : get_or (part (all_sent R cs) (n * R.size) R.size) x 0 ≡ get_or (all_sent R cs) (n * R.size + x) 0 = rw (get_or-take, get_or-drop) in
      sym e ∙ ap (λ l. get_or l x 0) at ∙ at-map-count (sent R cs n) 0 R.size x 0 h ∙ ap (sent R cs n) (zero-add x)

module _ (f : ℕ) (ws cs : List ℕ) (D : Ready f ws cs) where
  abbrev R : Rule
  R = rule_for f

  abbrev the_columns : List Column
  the_columns = columns_of (size_of f) ws cs

  abbrev the_record : List ℕ
  the_record = record_of R the_columns

  pub ready-length : length the_record ≡ record_length R (length ws)
  ready-length = record_length_lem R the_columns (ready_proper f ws cs D) ∙ ap (record_length R) (length-columns (size_of f) ws cs)

  -- an expansion accepts it
  pub ready-form : record_ok R (length ws) the_record ≡ true
  ready-form = ap (λ d. record_ok R d the_record) (sym (length-columns (size_of f) ws cs)) ∙ record_ok_lem R the_columns (ready_proper f ws cs D)

  -- and is all the sent costs
  pub ready_messages : expansion R ws the_record ≡ all_sent R the_columns
  ready_messages =
      subst (λ (w : List ℕ). expansion R w the_record ≡ all_sent R the_columns) (weights-columns (size_of f) ws cs)
      (expand_all R the_columns (ready_proper f ws cs D))

  pub ready_many : length (all_sent R the_columns) ≡ length ws * size_of f
  ready_many = length-sent R the_columns ∙ ap (λ d. d * size_of f) (length-columns (size_of f) ws cs)

  -- each of them the least cost that the specification names
  pub ready-least : (n x : ℕ) → n < length ws → x < size_of f → IsLeast R (others n the_columns) (product (power_of f) (get_or ws n 0) x) (get_or (all_sent R the_columns) (n * size_of f + x) 0)
  ready-least n x l h =
      let k : n < length the_columns = rw (length-columns (size_of f) ws cs) l in
      rw (sent-place R the_columns n x k h)
      (subst (λ (c : Column). IsLeast R (others n the_columns) (product (power_of f) c.weight x) (sent R the_columns n x)) (column-at (size_of f) ws cs n l)
      (sent_exists R the_columns (ready_proper f ws cs D) n x k h))
