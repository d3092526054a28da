-- Two accepted frames combine to an accepted frame, the same in either order; its decisions are those of the two frames' costs together.
use mathlib.Core.Path.{◌≡◌, refl, sym, ap, ap₂, ◌∙◌}
use mathlib.Core.Bool.{Bool, true, false}
use mathlib.Core.List.Memᴰ
use mathlib.Core.List.{List, [], ◌∷◌, ◌++◌, map, Memᴰ}
use Prim.Native.Nat.{ℕ, zero, suc, ◌+◌, ◌*◌, ◌-◌, ◌<◌, ◌≤◌, min}
use native.Mathlib.Nat.{add_comm, suc-mul, zero-mul, not-suc-le-zero, zero-sub}
use native.Mathlib.Decide.{ℕ_discrete, dec_lt}
use native.Mathlib.Omega.{arith}
use lib.Dec.{eqb, ltb, lt→ltb}
use lib.ListN.{length, get_or, take, drop, length-map, length-take, length-drop, get_or-map}
use lib.Seq.{take_all, take-add, take_at, drop_at, ext_get_or}
use borrow.Author.Tests.{eq-eqb, eqb-true, eqb-false, ltb-false}
use Rattle.trellis.specs.Lists.{up_to, smallest, pick, all_to, blocks}
use Rattle.trellis.specs.Check.{first_zero}
use Rattle.trellis.specs.Reply.{Reply, accepted, refusal}
use Rattle.trellis.proofs.Lists.{in_up_to, smallest_le}
use Rattle.trellis.proofs.Places.{map_ext, length-count}
use Rattle.trellis.proofs.Loops.{blocks_ext, length-even}
use Rattle.trellis.proofs.Tests.{all_of, of_true, to_true}
use Rattle.trellis.proofs.Instances.{first-zero}
use Rattle.machine.specs.CodeLine.{Read, good, bad, Code, size, column_of, zero_in, parse, frame_fault}
use Rattle.machine.specs.Machine.{less_least, capped}
use Rattle.machine.specs.Decoding.{Accepts}
use Rattle.machine.specs.Encoding.{Wrote, wrote, Codeword, Undisturbed}
use Rattle.machine.specs.Combining.{both_costs, combined_column, combined_to, combined, combine_fault, combining_under, combining, Left, AcceptedAgain, EitherOrder, NothingAdded, cost_in, both_in, decided_in, LeastTogether, DecidedTogether, Shared, SharedZero, OfOneWord, FoundTogether}
use Rattle.machine.proofs.Faults.{combine_by}
use Rattle.machine.proofs.Lists.{at_up_to}
use Rattle.machine.specs.inner.InRange.{Below}
use Rattle.machine.proofs.Updates.{less_zero, size-some}
use Rattle.machine.proofs.Ranges.{below-append, below-take, below-drop, part-front, column-room, frame-ranged}
use Rattle.machine.proofs.EncodedFound.{found_at_once}

-- a block of one length, and blocks that are the columns of a list
pub block_at : (f : ℕ → List ℕ) (q n c : ℕ) → ((c : ℕ) → length (f c) ≡ q) → c < n → column_of q (blocks f n) c ≡ f c
block_at f q zero c h l = absurd (not-suc-le-zero l)
block_at f q (suc n) c h l =
    elim (ℕ_discrete c n) [
      | yes e ↦ rw (e, drop_at (blocks f n) (f n) (n * q) (length-even f q h n)) (take_all q (f n) (omega (arith, h n)))
      | no e ↦ part-front (blocks f n) (f n) (c * q) q (omega (arith, length-even f q h n, column-room c n q (omega arith))) ∙ block_at f q n c h (omega arith)
    ]

own_blocks : (l : List ℕ) (q n : ℕ) → blocks (column_of q l) n ≡ take (n * q) l
own_blocks l q zero = rw (zero-mul q)
own_blocks l q (suc n) = let e : suc n * q ≡ n * q + q = suc-mul n q in rw (own_blocks l q n, e) (sym (take-add (n * q) q l))

-- no cost before the first 0 is 0
before-zero : (l : List ℕ) (x : ℕ) → x < first_zero l → 0 < get_or l x 0
before-zero [] x h = absurd (not-suc-le-zero h)
before-zero (zero ∷ l) x h = absurd (not-suc-le-zero h)
before-zero (suc v ∷ l) zero h = omega arith
before-zero (suc v ∷ l) (suc x) h = before-zero l x (omega arith)

-- one column
module _ (q : ℕ) (some : 0 < q) (a b : List ℕ) where
  abbrev sums : List ℕ
  sums = map (both_costs a b) (up_to q)

  abbrev least : ℕ
  least = smallest sums

  pub length-combined : length (combined_column q a b) ≡ q
  unfolding combined_column
  length-combined = simp (length-map) (length-count 0 q)

  pub zero-combined : Memᴰ 0 (combined_column q a b)
  unfolding combined_column
  zero-combined = Memᴰ.map (λ v. min 255 v) (less_zero sums (Memᴰ.map (both_costs a b) (in_up_to some)))

  pub small-combined : Below 255 (combined_column q a b)
  unfolding combined_column
  small-combined x = rw (get_or-map (λ v. min 255 v) (less_least sums) x 0) (omega arith)

  pub turned : combined_column q a b ≡ combined_column q b a
  unfolding combined_column
  turned = ap (λ l. capped (less_least l)) (map_ext {l = up_to q} (λ x i. add_comm (get_or a x 0) (get_or b x 0)))

  pub combined-at : (x : ℕ) → x < q → get_or (combined_column q a b) x 0 ≡ min 255 (both_costs a b x - least)
  unfolding combined_column
  combined-at x h =
      let e : get_or (less_least sums) x 0 ≡ get_or sums x 0 - least = ap (get_or (less_least sums) x) (sym (zero-sub least)) ∙ get_or-map (λ v. v - least) sums x 0 in
      get_or-map (λ v. min 255 v) (less_least sums) x 0 ∙ ap (min 255) (e ∙ ap (λ v. v - least) (at_up_to (both_costs a b) q x 0 h))

  least_le : (x : ℕ) → x < q → least ≤ both_costs a b x
  least_le x h = smallest_le (Memᴰ.map (both_costs a b) (in_up_to h))

  -- a cost of 0 stands where the two add up to the least
  pub free-least : (x : ℕ) → x < q → get_or (combined_column q a b) x 0 ≡ 0 → both_costs a b x ≡ least
  free-least x h e = omega (arith, combined-at x h, least_le x h)

  pub dear-least : (x : ℕ) → x < q → 0 < get_or (combined_column q a b) x 0 → least < both_costs a b x
  dear-least x h e = omega (arith, combined-at x h, least_le x h)

  -- and where they add up to 0
  pub free-both : (x : ℕ) → x < q → both_costs a b x ≡ 0 → get_or (combined_column q a b) x 0 ≡ 0
  free-both x h e = combined-at x h ∙ omega (arith, e)

  -- where some symbol adds up to 0, each that does not keeps a cost
  pub dear-both : (y x : ℕ) → y < q → x < q → both_costs a b y ≡ 0 → 0 < both_costs a b x → 0 < get_or (combined_column q a b) x 0
  dear-both y x k h e d = omega (arith, combined-at x h, least_le y k, e, d)

  abbrev decided : ℕ
  decided = first_zero (combined_column q a b)

  pub decided-small : decided < q
  decided-small = omega (arith, length-combined, (first-zero zero-combined).0)

  pub decided-least : both_costs a b decided ≡ least
  decided-least = free-least decided decided-small (first-zero zero-combined).1

  pub decided-first : (x : ℕ) → x < decided → both_costs a b decided < both_costs a b x
  decided-first x h = omega (arith, decided-least, dear-least x (omega (arith, decided-small)) (before-zero (combined_column q a b) x h))

  pub decided_le : (x : ℕ) → x < q → both_costs a b decided ≤ both_costs a b x
  decided_le x h = omega (arith, decided-least, least_le x h)

-- a column of bytes with a 0 comes back where nothing is added
pub combined-zeros : (q : ℕ) (a b : List ℕ) → length a ≡ q → Memᴰ 0 a → Below 255 a → ((x : ℕ) → get_or b x 0 ≡ 0) → combined_column q a b ≡ a
combined-zeros q a b l z s o =
    let i = first-zero z in
    let h : first_zero a < q = omega (arith, i.0) in
    let some : 0 < q = omega arith in
    let e : smallest (map (both_costs a b) (up_to q)) ≡ 0 = omega (arith, smallest_le (Memᴰ.map (both_costs a b) (in_up_to h)), i.1, o (first_zero a)) in
    ext_get_or 0 (combined_column q a b) a (length-combined q some a b ∙ sym l) (λ x k.
    combined-at q some a b x (omega (arith, length-combined q some a b)) ∙ omega (arith, e, o x, s x))

-- the frame
module _ (C : Code) (f g : List ℕ) where
  abbrev column_at : ℕ → List ℕ
  column_at c = combined_column (size C) (column_of (size C) f c) (column_of (size C) g c)

  length_at : (c : ℕ) → length (column_at c) ≡ size C
  length_at c = length-combined (size C) (size-some C) (column_of (size C) f c) (column_of (size C) g c)

  pub length-frame : length (combined C f g) ≡ C.columns * size C
  unfolding combined_to
  length-frame = length-even column_at (size C) length_at C.columns

  pub column-frame : (c : ℕ) → c < C.columns → column_of (size C) (combined C f g) c ≡ column_at c
  unfolding combined_to
  column-frame c h = block_at column_at (size C) C.columns c length_at h

  -- "The result is itself an accepted frame": N times q costs, a 0 in each column
  pub combined-accepted : frame_fault C (combined C f g) ≡ 0
  unfolding frame_fault
  combined-accepted =
      let z : all_to (zero_in (size C) (combined C f g)) C.columns ≡ true =
      to_true (all_of (zero_in (size C) (combined C f g)) C.columns (λ c h.
      rw (column-frame c h) (lt→ltb (first_zero (column_at c)) (size C) (decided-small (size C) (size-some C) (column_of (size C) f c) (column_of (size C) g c))))) in
      simp (eq-eqb _ _ length-frame, z)

  -- and at most 255 each
  pub combined-small : Below 255 (combined C f g)
  unfolding combined_to
  combined-small = go C.columns
    where
      go : (n : ℕ) → Below 255 (blocks column_at n)
      go zero x = omega arith
      go (suc n) x = below-append 255 (blocks column_at n) (column_at n) (go n) (small-combined (size C) (size-some C) (column_of (size C) f n) (column_of (size C) g n)) x

-- "the same in either order of the two"
pub combined-turned : (C : Code) (f g : List ℕ) → combined C f g ≡ combined C g f
unfolding combined_to
combined-turned C f g = blocks_ext _ _ C.columns (λ c h. turned (size C) (size-some C) (column_of (size C) f c) (column_of (size C) g c))

-- a call that is not refused
pub record NoFault (C : Code) (f g : List ℕ) (room : ℕ) : Type 0 where
  pub first : frame_fault C f ≡ 0
  pub second : frame_fault C g ≡ 0
  pub enough : C.columns * size C ≤ room

pub fault_none : (C : Code) (f g : List ℕ) (room : ℕ) → combine_fault C f g room ≡ 0 → NoFault C f g room
fault_none C f g room h = go (eqb (frame_fault C f) 0) refl (eqb (frame_fault C g) 0) refl (ltb room (C.columns * size C)) refl (sym (combine_by C f g room) ∙ h)
  where
    go : (a : Bool) → eqb (frame_fault C f) 0 ≡ a → (b : Bool) → eqb (frame_fault C g) 0 ≡ b → (d : Bool) → ltb room (C.columns * size C) ≡ d
        → ◌≡◌ {A = ℕ} (pick a (pick b (pick d 2 0) 23) (frame_fault C f)) 0 → NoFault C f g room
    go true ea true eb false ed k = record { first = eqb-true _ _ ea; second = eqb-true _ _ eb; enough = ltb-false _ _ ed }
    go true ea true eb true ed k = absurd (omega arith)
    go true ea false eb d ed k = absurd (omega arith)
    go false ea b eb d ed k = absurd (eqb-false _ 0 ea k)

-- two accepted frames are refused for the buffer alone, in either order
fault_turned : (C : Code) (f g : List ℕ) (room : ℕ) → frame_fault C f ≡ 0 → frame_fault C g ≡ 0 → combine_fault C f g room ≡ combine_fault C g f room
fault_turned C f g room h k = rw (combine_by C f g room, combine_by C g f room) (simp (eq-eqb (frame_fault C f) 0 h, eq-eqb (frame_fault C g) 0 k))

calls-turned : (code f g : List ℕ) (C : Code) → Accepts code f C → Accepts code g C → (out : List ℕ) → combining code f g out ≡ combining code g f out
unfolding combining
calls-turned code f g C A B out = rw (A.line, fault_turned C f g (length out) A.fits B.fits, combined-turned C f g)

pub either_order : EitherOrder
either_order code f g C A B =
    record {
      frames = combined-turned C f g;
      calls = λ out r r' o o' c d.
          let e : combining code f g out ≡ combining code g f out = calls-turned code f g C A B out in
          (c.replies ∙ ap (λ (w : Wrote). w.reply) e ∙ sym d.replies, c.out-then ∙ ap (λ (w : Wrote). w.out) e ∙ sym d.out-then);
    }

-- what a call that wrote leaves
pub accepted-again : AcceptedAgain
unfolding combining
accepted-again code f g out w out' H = go (parse code) refl H.replies H.out-then
  where
    go : (r : Read Code) → parse code ≡ r → accepted w ≡ (combining_under r f g out).reply → out' ≡ (combining_under r f g out).out → Left code f g out w out'
    go (bad k) e i o = let z : false ≡ true = ap (λ (r : Reply). r.refused) i in absurd (of_true z)
    go (good C) e i o = by (eqb (combine_fault C f g (length out)) 0) refl i o
      where
        full : List ℕ
        full = combined C f g ++ drop (C.columns * size C) out

        by : (b : Bool) → eqb (combine_fault C f g (length out)) 0 ≡ b
            → accepted w ≡ (pick b (wrote (accepted (C.columns * size C)) full) (wrote (refusal (combine_fault C f g (length out))) out)).reply
            → out' ≡ (pick b (wrote (accepted (C.columns * size C)) full) (wrote (refusal (combine_fault C f g (length out))) out)).out → Left code f g out w out'
        by false eb i o = let z : false ≡ true = ap (λ (r : Reply). r.refused) i in absurd (of_true z)
        by true eb i o =
            let N = fault_none C f g (length out) (eqb-true _ _ eb) in
            let u : w ≡ C.columns * size C = ap (λ (r : Reply). r.value) i in
            let front : take w out' ≡ combined C f g = ap₂ take u o ∙ take_at (combined C f g) (drop (C.columns * size C) out) (C.columns * size C) (length-frame C f g) in
            record {
              under = C;
              first = record { line = e; fits = N.first };
              second = record { line = e; fits = N.second };
              bytes = u;
              front = front;
              rest = ap₂ drop u o ∙ drop_at (combined C f g) (drop (C.columns * size C) out) (C.columns * size C) (length-frame C f g) ∙ ap (λ k. drop k out) (sym u);
              itself = record { line = e; fits = ap (frame_fault C) front ∙ combined-accepted C f g };
              small = λ x. rw front (combined-small C f g x);
            }

pub nothing_added : NothingAdded
unfolding combined_to
nothing_added code f g C A B small zeros =
    let R = frame-ranged C f A.fits small in
    blocks_ext _ (column_of (size C) f) C.columns (λ c h.
    combined-zeros (size C) (column_of (size C) f c) (column_of (size C) g c)
    (simp (length-take, length-drop) (omega (arith, R.full, column-room c C.columns (size C) h)))
    (R.has_zero c h)
    (below-take 255 (size C) (drop (c * size C) f) (below-drop 255 (c * size C) f small))
    (λ x. let z = below-take 0 (size C) (drop (c * size C) g) (below-drop 0 (c * size C) g (λ i. omega (arith, zeros i))) x in omega (arith, z)))
    ∙ own_blocks f (size C) C.columns
    ∙ take_all (C.columns * size C) f (omega (arith, R.full))

-- the decisions of the combined frame
module _ (C : Code) (f g : List ℕ) (c : ℕ) (h : c < C.columns) where
  abbrev a : List ℕ
  a = column_of (size C) f c

  abbrev b : List ℕ
  b = column_of (size C) g c

  decided-is : decided_in C f g c ≡ first_zero (combined_column (size C) a b)
  decided-is = ap first_zero (column-frame C f g c h)

  pub together : LeastTogether C f g c
  together =
      record {
        element = rw decided-is (decided-small (size C) (size-some C) a b);
        least = λ x l. rw decided-is (decided_le (size C) (size-some C) a b x l);
        smallest = λ x l. rw decided-is (decided-first (size C) (size-some C) a b x (rw (← decided-is) l));
      }

  module _ (x : ℕ) (l : x < size C) (i : cost_in C f c x ≡ 0) (j : cost_in C g c x ≡ 0) where
    pub shared : Shared C f g c x
    shared =
        let z : both_in C f g c (decided_in C f g c) ≡ 0 = omega (arith, together.least x l, i, j) in
        record {
          free = ap (λ l. get_or l x 0) (column-frame C f g c h) ∙ free-both (size C) (size-some C) a b x l (omega (arith, i, j));
          first-free = omega (arith, z);
          second-free = omega (arith, z);
          smallest = elim (dec_lt x (decided_in C f g c)) [
            | yes k ↦ absurd (omega (arith, together.smallest x k, i, j))
            | no k ↦ omega arith
          ];
        }

pub decided-together : DecidedTogether
decided-together = together

pub shared_zero : SharedZero
shared_zero C f g c x h l i j = shared C f g c h x l i j

-- two frames of one word
pub combined_undisturbed : (C : Code) (w f g : List ℕ) → Codeword C w → OfOneWord C w f g → Undisturbed C w (combined C f g)
combined_undisturbed C w f g W O =
    record {
      full = length-frame C f g;
      free = λ c h. (shared C f g c h (get_or w c 0) (W.small c (omega (arith, W.full))) (O.first-free c h) (O.second-free c h)).free;
      dear = λ c x h l n.
          let a : List ℕ = column_of (size C) f c in
          let b : List ℕ = column_of (size C) g c in
          let s : get_or w c 0 < size C = W.small c (omega (arith, W.full)) in
          let z : both_costs a b (get_or w c 0) ≡ 0 = omega (arith, O.first-free c h, O.second-free c h) in
          rw (column-frame C f g c h) (dear-both (size C) (size-some C) a b (get_or w c 0) x s l z (O.dear c x h l n));
    }

pub found_together : FoundTogether
found_together code w f g C e W O b R = found_at_once C w (combined C f g) W (combined_undisturbed C w f g W O) code b e R
