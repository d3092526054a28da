-- The loops over the columns, and the tests in their order, are machine's combining.
use mathlib.Core.Path.{◌≡◌, refl, sym, ap, ap₂, ◌∙◌}
use mathlib.Core.List.Memᴰ
use mathlib.Core.List.{List, ◌++◌, map}
use Prim.Native.Nat.{ℕ, ◌+◌, ◌-◌, ◌*◌, ◌≤◌, ◌<◌, min}
use native.Mathlib.Nat.{add-sub_cancel_left}
use native.Mathlib.Omega.{arith}
use lib.ListN.{length, take, drop}
use lib.Seq.{take_all}
use borrow.Rule.Slice.PartMut.{put_mid}
use lib.Pow.{pow_pos}
use borrow.Author.Tests.{eq-eqb, ne_eqb, lt-ltb, le-ltb}
use Rattle.refusal.proofs.Numbers.{some_number}
use Rattle.trellis.specs.Lists.{up_to, smallest, tab, part}
use Rattle.trellis.specs.Rules.{size_of}
use Rattle.trellis.specs.Reply.{accepted, refusal}
use Rattle.trellis.proofs.Lists.{in_up_to, smallest_le}
use Rattle.trellis.proofs.Loops.{block_next}
use Rattle.machine.specs.CodeLine.{good, Code, column_of, parse, numbers_of, frame_fault}
use Rattle.machine.specs.Combining.{both_costs, combined_column, combined_to, combine_fault, combining_under, combining}
use Rattle.machine.proofs.Faults.{combine_by}
use Rattle.machine.proofs.Lists.{map-after}
use Rattle.machine.proofs.Ranges.{frame-fits}
use Rattle.machine.proofs.Combining.{length-combined, fault_none}
use Rattle.codeline.specs.declared.answers.Numbers.{Numbers}
use Rattle.refusal.specs.declared.Refusal.{Refusal}
use Rattle.refusal.specs.Numbers.{number_of}
use Rattle.refusal.specs.Replies.{fault_in}
use Rattle.std.specs.Result.{is_err}
use mathlib.Core.Bool.{true, false, true≢false}
use Rattle.std.specs.Prelude.{Result, Ok, Err}
use Rattle.codeline.specs.Answers.{header_numbers}
use Rattle.codeline.proofs.Answered.{Accepted, header_refused, header_read}
use Rattle.frame.specs.Answers.{frame_fault_of}
use Rattle.machine.proofs.Leasts.{smallest_loop, up_to_tab}
use Rattle.machine.proofs.Places.{length_part}
use Rattle.combiner.specs.inner.Columns.{least_both, headed}

-- the least of a column's sums
pub least_is : (a b : List ℕ) (n : ℕ) → 0 < n → ((x : ℕ) → both_costs a b x ≤ 1000) → least_both a b n ≡ smallest (map (both_costs a b) (up_to n))
unfolding least_both
least_is a b n some s = sym (smallest_loop (both_costs a b) n some s)

pub least_le : (a b : List ℕ) (n : ℕ) → ((x : ℕ) → both_costs a b x ≤ 1000) → (x : ℕ) → x < n → least_both a b n ≤ both_costs a b x
least_le a b n s x h = rw (least_is a b n (omega arith) s) (smallest_le (Memᴰ.map (both_costs a b) (in_up_to h)))

-- the column as the loop makes it
pub column-done : (a b out : List ℕ) (least i : ℕ) → 0 < length a → ((x : ℕ) → both_costs a b x ≤ 1000) → length out ≡ length a → i ≡ length a → least ≡ least_both a b (length a)
    → take i out ≡ tab (λ x. min 255 (both_costs a b x - least)) i → out ≡ combined_column (length a) a b
unfolding combined_column
column-done a b out least i some s k e m o =
    let n : ℕ = length a in
    let v : ℕ → ℕ = λ x. min 255 (both_costs a b x - least) in
    let t : map (λ v. min 255 v) (map (λ v. v - least) (map (both_costs a b) (up_to n))) ≡ tab v n =
    ap (map (λ v. min 255 v)) (map-after (λ v. v - least) (both_costs a b) (up_to n)) ∙ map-after (λ v. min 255 v) (λ x. both_costs a b x - least) (up_to n) ∙ up_to_tab v n in
    let l : smallest (map (both_costs a b) (up_to n)) ≡ least = sym (m ∙ least_is a b n some s) in
    sym (take_all i out (omega arith)) ∙ o ∙ ap (tab v) e ∙ sym t ∙ ap (λ y. map (λ v. min 255 v) (map (λ v. v - y) (map (both_costs a b) (up_to n)))) (sym l)

-- one column more
pub column_next : (f g out x : List ℕ) (q c k : ℕ) → 0 < q → c * q + q ≤ length f → c * q ≤ length out
    → x ≡ combined_column (length (part f (c * q) (c * q + q - c * q))) (part f (c * q) (c * q + q - c * q)) (part g (c * q) (c * q + q - c * q))
    → take (c * q) out ≡ combined_to q f g c → take ((c + 1) * q) (put_mid (c * q) k out x) ≡ combined_to q f g (c + 1)
unfolding combined_to
column_next f g out x q c k some room fits i t =
    let at : ℕ → List ℕ = λ c. combined_column q (column_of q f c) (column_of q g c) in
    let b : c * q + q - c * q ≡ q = add-sub_cancel_left (c * q) q in
    let l : length (part f (c * q) q) ≡ q = length_part f (c * q) q room in
    let y : x ≡ at c = (rw b at i) ∙ ap (λ n. combined_column n (column_of q f c) (column_of q g c)) l in
    block_next at c q k out x fits (ap length y ∙ length-combined q some (column_of q f c) (column_of q g c)) y t

pub fault-some : (r : Result Unit Refusal) → is_err r ≡ true → fault_in r ≡ 0 → ⊥
fault-some (Ok u) e = absurd (true≢false (sym e))
fault-some (Err k) e = some_number k

pub fault_nothing : (r : Result Unit Refusal) → is_err r ≡ false → fault_in r ≡ 0
fault_nothing (Ok u) e = refl
fault_nothing (Err k) e = absurd (true≢false e)

-- the tests, in their order
frame_fault_is : (byte n : ℕ) (f : List ℕ) → frame_fault_of byte n f ≡ frame_fault (headed byte n) f
unfolding frame_fault_of frame_fault
frame_fault_is byte n f = refl

module _ (byte n : ℕ) (f g : List ℕ) (room k : ℕ) (e : k ≡ frame_fault_of byte n f) where
  abbrev C : Code
  C = headed byte n

  first_is : k ≡ frame_fault C f
  first_is = e ∙ frame_fault_is byte n f

  pub first_fault : (k ≡ 0 → ⊥) → k ≡ combine_fault C f g room
  first_fault h = first_is ∙ rw (combine_by C f g room, ne_eqb (frame_fault C f) 0 (λ z. h (first_is ∙ z)))

  module _ (z : k ≡ 0) (j : ℕ) (i : j ≡ frame_fault_of byte n g) where
    second_is : j ≡ frame_fault C g
    second_is = i ∙ frame_fault_is byte n g

    fits : frame_fault C f ≡ 0
    fits = sym first_is ∙ z

    pub second_fault : (j ≡ 0 → ⊥) → 23 ≡ combine_fault C f g room
    second_fault h = rw (combine_by C f g room) (simp (eq-eqb (frame_fault C f) 0 fits, ne_eqb (frame_fault C g) 0 (λ y. h (second_is ∙ y))))

    pub short_fault : j ≡ 0 → room < length f → 2 ≡ combine_fault C f g room
    short_fault y l = rw (combine_by C f g room) (simp (eq-eqb (frame_fault C f) 0 fits, eq-eqb (frame_fault C g) 0 (sym second_is ∙ y), lt-ltb room (n * size_of byte) (omega (arith, (frame-fits C f fits).0))))

    pub no_fault : j ≡ 0 → length f ≤ room → 0 ≡ combine_fault C f g room
    no_fault y l = rw (combine_by C f g room) (simp (eq-eqb (frame_fault C f) 0 fits, eq-eqb (frame_fault C g) 0 (sym second_is ∙ y), le-ltb room (n * size_of byte) (omega (arith, (frame-fits C f fits).0))))

-- a call under such a code that is not refused
module _ (byte n : ℕ) (f g out : List ℕ) (e : 0 ≡ combine_fault (headed byte n) f g (length out)) where
  -- the lengths
  pub under-room : (length f ≡ n * size_of byte) × ((length g ≡ n * size_of byte) × (n * size_of byte ≤ length out))
  under-room =
      let N = fault_none (headed byte n) f g (length out) (sym e) in
      ((frame-fits (headed byte n) f N.first).0, ((frame-fits (headed byte n) g N.second).0, N.enough))

  pub size-some : (q : ℕ) → q ≡ size_of byte → 0 < q
  size-some q j = rw j (pow_pos _)

  pub under_written : (q : ℕ) (x : List ℕ) → q ≡ size_of byte → x ≡ combined_to q f g n
      → (accepted (length f) ≡ (combining_under (good (headed byte n)) f g out).reply) × (x ++ drop (length f) out ≡ (combining_under (good (headed byte n)) f g out).out)
  under_written q x j o =
      let v : length f ≡ n * size_of byte = under-room.0 in
      rw (eq-eqb (combine_fault (headed byte n) f g (length out)) 0 (sym e)) (ap accepted v, ap₂ (λ x w. x ++ drop w out) (o ∙ ap (λ q. combined_to q f g n) j) v)

-- what the reader's answer says of the line
module _ (s : List ℕ) (h : Result Numbers Refusal) (e : header_numbers h ≡ numbers_of (parse s)) (f g out : List ℕ) where
  pub line_refused : (r : Refusal) → h ≡ Err r → (refusal (number_of r) ≡ (combining s f g out).reply) × (out ≡ (combining s f g out).out)
  unfolding combining
  line_refused r i = rw (header_refused s h e r i) (refl, refl)

  module _ (k : Numbers) (i : h ≡ Ok k) where
    read : Accepted s k
    read = header_read s h e k i

    pub line_is : combining_under (good (headed k.first k.columns)) f g out ≡ combining s f g out
    unfolding combining combine_fault frame_fault
    line_is =
        ap₂ (λ a b. combining_under (good (headed a b)) f g out) read.first_is read.columns_is
        ∙ ap (λ r. combining_under r f g out) (sym read.parsed)
