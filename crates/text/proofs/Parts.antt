-- A part of a line without a 0A is kept at once: as byte by byte, and nothing is printed for it.
use mathlib.Core.Path.{◌≡◌, refl, sym, ap, ap₂, ◌∙◌}
use mathlib.Core.Bool.{Bool, true, false, true≢false}
use mathlib.Core.List.{List, [], ◌∷◌, ◌++◌, append-nil}
use Prim.Native.Nat.{ℕ, suc, ◌+◌, ◌-◌, ◌*◌, ◌≤◌, ◌<◌, min}
use native.Mathlib.Numerals.{add-one}
use native.Mathlib.Decide.{dec_le}
use native.Mathlib.Omega.{arith}
use lib.Dec.{eqb, ltb}
use lib.ListN.{length, take, drop, set, get_or, length-append, length-take, length-drop, length-set, take-append-drop}
use lib.Seq.{drop-drop, drop-set-lt, take-add, take-suc, take-suc-set, append_snoc, take_all, take-length}
use borrow.Author.Tests.{eqb-true, lt-ltb, le-ltb, ltb-true, ltb-false}
use Rattle.std.specs.Prelude.{Option, Some, None, cond, position}
use Rattle.std.specs.List.{position_or_len}
use Rattle.std.proofs.lemmas.List.Recursion.{is_position_or_len}
use Rattle.trellis.specs.Lists.{pick}
use Rattle.machine.specs.inner.Blocks.{Session, fed_byte, line_finished, line_finished_out, fed, fed_out}
use Rattle.machine.proofs.Program.{fed-more, fed-few, ended_silent}
use Rattle.text.specs.inner.Held.{Held, kept_of, put_at, byte_held, step_held, fed_held, finished_held, to_newline, room_for, part_held}
use Rattle.text.proofs.Laws.{put-none, put_mid, put-more, fed_held-more, fed-stands, add_none, put-nothing, part_same}

-- what stands before the first 0A has none
pub before_plain : (s : List ℕ) → to_newline (take (to_newline s) s) ≡ length (take (to_newline s) s)
unfolding to_newline
before_plain [] = refl
before_plain (b ∷ s) = go (eqb b 0x0A) refl (before_plain s)
  where
    go : (t : Bool) → eqb b 0x0A ≡ t → to_newline (take (to_newline s) s) ≡ length (take (to_newline s) s)
        → to_newline (take (pick t 0 (suc (to_newline s))) (b ∷ s)) ≡ length (take (pick t 0 (suc (to_newline s))) (b ∷ s))
    go true e h = refl
    go false e h = rw e (ap suc h)

-- and where the search stops before the end there is one
pub at_newline : (s : List ℕ) → to_newline s < length s → get_or s (to_newline s) 0 ≡ 0x0A
unfolding to_newline
at_newline [] h = absurd (omega arith)
at_newline (b ∷ s) h = go (eqb b 0x0A) refl h (λ i. at_newline s i)
  where
    go : (t : Bool) → eqb b 0x0A ≡ t → pick t 0 (suc (to_newline s)) < suc (length s) → (to_newline s < length s → get_or s (to_newline s) 0 ≡ 0x0A)
        → get_or (b ∷ s) (pick t 0 (suc (to_newline s))) 0 ≡ 0x0A
    go true e k f = eqb-true b 0x0A e
    go false e k f = f (omega arith)

-- what the search for it says
newline_is : (s : List ℕ) → to_newline s ≡ position_or_len (λ b. eqb b 0x0A) s
unfolding to_newline
newline_is = is_position_or_len to_newline (λ b. eqb b 0x0A) refl (λ x xs. go (eqb x 0x0A) (to_newline xs))
  where
    go : (t : Bool) (m : ℕ) → pick t 0 (suc m) ≡ cond t 0 (1 + m)
    go true m = refl
    go false m = omega arith

newline_most : (s : List ℕ) → to_newline s ≤ length s
unfolding to_newline
newline_most [] = omega arith
newline_most (b ∷ s) = go (eqb b 0x0A) (newline_most s)
  where
    go : (t : Bool) → to_newline s ≤ length s → pick t 0 (suc (to_newline s)) ≤ suc (length s)
    go true h = omega arith
    go false h = omega arith

pub newline_found : (s : List ℕ) (n : ℕ) → Some n ≡ position (λ b. eqb b 0x0A) s → (n ≡ to_newline s) × (n < length s)
newline_found s n e = go (ltb (to_newline s) (length s)) refl (e ∙ ap (λ m. cond (ltb m (length s)) (Some m) None) (sym (newline_is s)))
  where
    go : (t : Bool) → ltb (to_newline s) (length s) ≡ t → Some n ≡ cond t (Some (to_newline s)) None → (n ≡ to_newline s) × (n < length s)
    go true i e = let k : n ≡ to_newline s = cc in (k, omega (arith, k, ltb-true (to_newline s) (length s) i))
    go false i e = let z : ◌≡◌ {A = ℕ} 0 1 = cc in absurd (omega arith)

pub newline_none : (s : List ℕ) → None ≡ position (λ b. eqb b 0x0A) s → to_newline s ≡ length s
newline_none s e = go (ltb (to_newline s) (length s)) refl (e ∙ ap (λ m. cond (ltb m (length s)) (Some m) None) (sym (newline_is s)))
  where
    go : (t : Bool) → ltb (to_newline s) (length s) ≡ t → ◌≡◌ {A = Option ℕ} None (cond t (Some (to_newline s)) None) → to_newline s ≡ length s
    go true i e = let z : ◌≡◌ {A = ℕ} 0 1 = cc in absurd (omega arith)
    go false i e = omega (arith, ltb-false (to_newline s) (length s) i, newline_most s)

-- nothing is printed for a part
pub plain_out : (s : List ℕ) (k : Session) → to_newline s ≡ length s → fed_out k s ≡ []
unfolding to_newline fed_out
plain_out [] k e = refl
plain_out (b ∷ s) k e = go (eqb b 0x0A) e (λ j. plain_out s (fed_byte k b) j)
  where
    go : (t : Bool) → pick t 0 (suc (to_newline s)) ≡ suc (length s) → (to_newline s ≡ length s → fed_out (fed_byte k b) s ≡ [])
        → pick t (line_finished_out k ++ fed_out (line_finished k) s) (fed_out (fed_byte k b) s) ≡ []
    go true i h = absurd (omega arith)
    go false i h = h (omega arith)

set-put : (l : List ℕ) (n b : ℕ) (t : List ℕ) → n < length l → put_at (set l n b) (n + 1) t ≡ put_at l n (b ∷ t)
set-put l n b t h =
    let a : take (n + 1) (set l n b) ≡ take n l ++ (b ∷ []) = rw (add-one n) (take-suc-set l n b h) in
    let d : drop (n + 1) (set l n b) ≡ drop (n + 1) l = rw (add-one n) (drop-set-lt (suc n) l n b (omega arith)) in
    let f : drop (length t) (drop (n + 1) l) ≡ drop (suc (length t)) (drop n l) =
    let m : n + 1 + length t ≡ n + suc (length t) = omega arith in
    drop-drop (length t) (n + 1) l ∙ ap (λ m. drop m l) m ∙ sym (drop-drop (suc (length t)) n l) in
    rw (a, d, f) (append_snoc (take n l) b (t ++ drop (suc (length t)) (drop n l)))

held_as : (n m k : ℕ) (o : Bool) (l x c : List ℕ) → n ≡ m → l ≡ x
    → ◌≡◌ {A = Held} (record { len = n; code = k; over = o; line = l; bytes = c }) (record { len = m; code = k; over = o; line = x; bytes = c })
held_as n m k o l x c e f = rw (e, f) refl

-- what keep does: a full line stays, another one takes what it has room for
pub keep-none : (n k : ℕ) (o : Bool) (l c p : List ℕ) → 32769 ≤ n
    → ◌≡◌ {A = Held} (record { len = n; code = k; over = o; line = l; bytes = c }) (part_held (record { len = n; code = k; over = o; line = l; bytes = c }) p)
unfolding part_held
keep-none n k o l c p h =
    let z : room_for n p ≡ 0 = omega arith in
    held_as n (n + room_for n p) k o l (put_at l n (take (room_for n p) p)) c (omega arith) (rw z (sym (put-none l n)))

pub keep_some : (n k m : ℕ) (o : Bool) (l c p x : List ℕ) → m ≡ min (length p) (32769 - n) → x ≡ take m p
    → ◌≡◌ {A = Held} (record { len = n + m; code = k; over = o; line = take n l ++ (x ++ drop (n + m - n) (drop n l)); bytes = c }) (part_held (record { len = n; code = k; over = o; line = l; bytes = c }) p)
unfolding part_held
keep_some n k m o l c p x e f =
    held_as (n + m) (n + room_for n p) k o _ (put_at l n (take (room_for n p) p)) c (ap (λ i. n + i) e) (put_mid l p x n m (omega arith) f ∙ ap (λ i. put_at l n (take i p)) e)

-- a state that has not ended
abbrev runs : ℕ → ℕ → List ℕ → List ℕ → Held
runs n k l c = record { len = n; code = k; over = false; line = l; bytes = c }

pub fed-part : (s : List ℕ) (n k : ℕ) (l c : List ℕ) → length l ≡ 32769 → to_newline s ≡ length s → fed_held (runs n k l c) s ≡ part_held (runs n k l c) s
unfolding fed_held step_held part_held to_newline
fed-part [] n k l c h e =
    let z : room_for n [] ≡ 0 = omega arith in
    held_as n (n + room_for n []) k false l (put_at l n (take (room_for n []) [])) c (omega arith) (rw z (sym (put-none l n)))
fed-part (b ∷ s) n k l c h e = go (eqb b 0x0A) e (λ m x i j. fed-part s m k x c i j)
  where
    go : (t : Bool) → pick t 0 (suc (to_newline s)) ≡ suc (length s)
        → ((m : ℕ) (x : List ℕ) → length x ≡ 32769 → to_newline s ≡ length s → fed_held (runs m k x c) s ≡ part_held (runs m k x c) s)
        → fed_held (pick t (finished_held (runs n k l c)) (byte_held (runs n k l c) b)) s ≡ part_held (runs n k l c) (b ∷ s)
    go true i ih = absurd (omega arith)
    go false i ih =
        elim (dec_le 32769 n) [
          | yes j ↦
              let t : ltb n 32769 ≡ false = le-ltb n 32769 j in
              let y : room_for n s ≡ 0 = omega arith in
              let z : room_for n (b ∷ s) ≡ 0 = omega arith in
              rw t (ih n l h (omega arith) ∙ held_as (n + room_for n s) (n + room_for n (b ∷ s)) k false (put_at l n (take (room_for n s) s)) (put_at l n (take (room_for n (b ∷ s)) (b ∷ s))) c (omega arith) (rw (y, z) refl))
          | no j ↦
              let t : ltb n 32769 ≡ true = lt-ltb n 32769 (omega arith) in
              let z : room_for n (b ∷ s) ≡ suc (room_for (n + 1) s) = omega arith in
              rw t (ih (n + 1) (set l n b) (length-set l n b ∙ h) (omega arith)
              ∙ held_as (n + 1 + room_for (n + 1) s) (n + room_for n (b ∷ s)) k false (put_at (set l n b) (n + 1) (take (room_for (n + 1) s) s)) (put_at l n (take (room_for n (b ∷ s)) (b ∷ s))) c (omega arith)
              (rw z (set-put l n b (take (room_for (n + 1) s) s) (omega arith))))
        ]

newline_out : (k : Session) → fed_out k (0x0A ∷ []) ≡ line_finished_out k
unfolding fed_out
newline_out k = append-nil (line_finished_out k)

-- a part and the 0A behind it
module _ (s : List ℕ) (n k : ℕ) (o : Bool) (l c : List ℕ) (on : o ≡ false) (long : length l ≡ 32769) (plain : to_newline s ≡ length s) where
  abbrev at_part : Held
  at_part = record { len = n; code = k; over = o; line = l; bytes = c }

  pub part_held_lem : fed_held at_part s ≡ part_held at_part s
  part_held_lem = rw on (fed-part s n k l c long plain)

  pub whole_held : fed_held at_part (s ++ (0x0A ∷ [])) ≡ finished_held (part_held at_part s)
  unfolding fed_held step_held part_held
  whole_held = fed_held-more at_part s (0x0A ∷ []) ∙ ap (λ h. step_held h 0x0A) part_held_lem ∙ rw on refl

  pub whole_out : fed_out (kept_of at_part) (s ++ (0x0A ∷ [])) ≡ line_finished_out (kept_of (part_held at_part s))
  whole_out =
      let a : fed (kept_of at_part) s ≡ kept_of (part_held at_part s) = sym (fed-stands at_part s long) ∙ ap kept_of part_held_lem in
      (fed-more (kept_of at_part) s (0x0A ∷ [])).1 ∙ ap₂ (λ x y. x ++ fed_out y (0x0A ∷ [])) (plain_out s (kept_of at_part) plain) a ∙ newline_out (kept_of (part_held at_part s))

  -- the same of what keep and finish_line leave
  module _ (K : Held) (f f' : ℕ) (kept_at : K ≡ part_held at_part s) (same : f' ≡ f) where
    pub whole_room : (r : ℕ) → f + length (fed_out (kept_of at_part) (s ++ (0x0A ∷ []))) ≤ r → f' + length (line_finished_out (kept_of K)) ≤ r
    whole_room r h = rw (kept_at, same, ← whole_out) h

    pub whole_done : (R : Held) (g : ℕ) (out u : List ℕ) → R ≡ finished_held K → g ≡ f' + length (line_finished_out (kept_of K)) → u ≡ put_at out f' (line_finished_out (kept_of K))
        → (R ≡ fed_held at_part (s ++ (0x0A ∷ []))) × ((g ≡ f + length (fed_out (kept_of at_part) (s ++ (0x0A ∷ [])))) × (u ≡ put_at out f (fed_out (kept_of at_part) (s ++ (0x0A ∷ [])))))
    whole_done R g out u a b d =
        let e : line_finished_out (kept_of K) ≡ fed_out (kept_of at_part) (s ++ (0x0A ∷ [])) = ap (λ x. line_finished_out (kept_of x)) kept_at ∙ sym whole_out in
        (a ∙ ap finished_held kept_at ∙ sym whole_held, (b ∙ ap₂ (λ x y. x + length y) same e, d ∙ ap₂ (λ x y. put_at out x y) same e))

-- once the program has ended
pub over-held : (s : List ℕ) (h : Held) → h.over ≡ true → fed_held h s ≡ h
unfolding fed_held step_held
over-held [] h e = refl
over-held (b ∷ s) h e = ap (λ x. fed_held x s) (go h.over e) ∙ over-held s h e
  where
    go : (o : Bool) → o ≡ true → pick o h (pick (eqb b 0x0A) (finished_held h) (byte_held h b)) ≡ h
    go true i = refl
    go false i = absurd (true≢false (sym i))

pub over-out : (s : List ℕ) (h : Held) → h.over ≡ true → fed_out (kept_of h) s ≡ []
over-out s h e = rw e (ended_silent s).1

-- the loop over a block: a piece more, from i to j
module _ (h : Held) (o s : List ℕ) (i j : ℕ) (long : length h.line ≡ 32769) (now : Held) (here : now ≡ fed_held h (take i s)) (t : List ℕ) (piece : take j s ≡ take i s ++ t) where
  piece-out : fed_out (kept_of h) (take j s) ≡ fed_out (kept_of h) (take i s) ++ fed_out (kept_of now) t
  piece-out =
      let k : fed (kept_of h) (take i s) ≡ kept_of now = sym (ap kept_of here ∙ fed-stands h (take i s) long) in
      rw piece ((fed-more (kept_of h) (take i s) t).1 ∙ ap (λ r. fed_out (kept_of h) (take i s) ++ fed_out r t) k)

  pub piece_room : (f : ℕ) → f ≡ length (fed_out (kept_of h) (take i s)) → f + length (fed_out (kept_of now) t) ≤ 512 + 5 * length s
  piece_room f e =
      let x : List ℕ = fed_out (kept_of h) (take i s) in
      let y : List ℕ = fed_out (kept_of now) t in
      let a : length (fed_out (kept_of h) (take j s)) ≡ length x + length y = ap length piece-out ∙ length-append x y in
      let b : length (take j s) ≤ length s = simp length-take (omega arith) in
      omega (arith, a, b, e, fed-few (kept_of h) (take j s))

  pub piece_more : (f f' : ℕ) (o' o'' : List ℕ) (then : Held)
      → f ≡ length (fed_out (kept_of h) (take i s)) → o' ≡ put_at o 0 (fed_out (kept_of h) (take i s))
      → then ≡ fed_held now t → f' ≡ f + length (fed_out (kept_of now) t) → o'' ≡ put_at o' f (fed_out (kept_of now) t)
      → (then ≡ fed_held h (take j s)) × (f' ≡ length (fed_out (kept_of h) (take j s))) × (o'' ≡ put_at o 0 (fed_out (kept_of h) (take j s)))
  piece_more f f' o' o'' then ef eo eh eg eu =
      let x : List ℕ = fed_out (kept_of h) (take i s) in
      let y : List ℕ = fed_out (kept_of now) t in
      let a : then ≡ fed_held h (take j s) = rw piece (eh ∙ ap (λ r. fed_held r t) here ∙ sym (fed_held-more h (take i s) t)) in
      let b : f' ≡ length (x ++ y) = eg ∙ ap (λ m. m + length y) ef ∙ sym (length-append x y) in
      let d : o'' ≡ put_at (put_at o 0 x) (length x) y = eu ∙ ap₂ (λ p q. put_at p q y) eo ef in
      (a, b ∙ ap length (sym piece-out), d ∙ put-more o x y ∙ ap (put_at o 0) (sym piece-out))

-- the pieces of the loop: a whole line, the rest without a 0A
pub line_piece : (s : List ℕ) (i n : ℕ) → n ≡ to_newline (drop i s) → n < length (drop i s) → take (i + (n + 1)) s ≡ take i s ++ (take n (drop i s) ++ (0x0A ∷ []))
line_piece s i n k m =
    let l : List ℕ = drop i s in
    let b : get_or l n 0 ≡ 0x0A = rw k (at_newline l (omega (arith, m, k))) in
    take-add i (n + 1) s ∙ ap (λ x. take i s ++ x) (rw (add-one n) (take-suc l n 0 m ∙ ap (λ x. take n l ++ (x ∷ [])) b))

pub line_plain : (s : List ℕ) (n : ℕ) → n ≡ to_newline s → to_newline (take n s) ≡ length (take n s)
line_plain s n k = rw k (before_plain s)

pub rest-front : (s : List ℕ) (i : ℕ) → take (length s - i) (drop i s) ≡ drop i s
rest-front s i = take_all (length s - i) (drop i s) (simp length-drop (omega arith))

pub rest_piece : (s : List ℕ) (i : ℕ) → take (length s) s ≡ take i s ++ drop i s
rest_piece s i = take-length s ∙ sym (take-append-drop i s)

-- the loop's ends: the program has ended, or the rest has no 0A
module _ (h : Held) (o s : List ℕ) (i : ℕ) (long : length h.line ≡ 32769) where
  pub over_done : (now : Held) → now ≡ fed_held h (take i s) → now.over ≡ true → (f : ℕ) (o' : List ℕ)
      → f ≡ length (fed_out (kept_of h) (take i s)) → o' ≡ put_at o 0 (fed_out (kept_of h) (take i s))
      → (now ≡ fed_held h s) × ((f ≡ length (fed_out (kept_of h) s)) × (o' ≡ put_at o 0 (fed_out (kept_of h) s)))
  over_done now here over f o' ef eo =
      let x : fed_out (kept_of now) (drop i s) ≡ [] = over-out (drop i s) now over in
      let m = piece_more h o s i (length s) long now here (drop i s) (rest_piece s i) f f o' o' now ef eo (sym (over-held (drop i s) now over)) (add_none f _ x) (put-nothing o' f _ x) in
      part_same h o (take (length s) s) s now f o' (take-length s) m.0 m.1 m.2

  pub rest-done : (n k : ℕ) (b : Bool) (l c : List ℕ) → ◌≡◌ {A = Held} (record { len = n; code = k; over = b; line = l; bytes = c }) (fed_held h (take i s)) → b ≡ false → length l ≡ 32769
      → to_newline (drop i s) ≡ length (drop i s)
      → (K : Held) → K ≡ part_held (record { len = n; code = k; over = b; line = l; bytes = c }) (drop i s)
      → (f f' : ℕ) (o' : List ℕ) → f ≡ length (fed_out (kept_of h) (take i s)) → o' ≡ put_at o 0 (fed_out (kept_of h) (take i s)) → f' ≡ f
      → (K ≡ fed_held h s) × ((f' ≡ length (fed_out (kept_of h) s)) × (o' ≡ put_at o 0 (fed_out (kept_of h) s)))
  rest-done n k b l c here on room p K kept_at f f' o' ef eo same =
      let now : Held = record { len = n; code = k; over = b; line = l; bytes = c } in
      let t : List ℕ = drop i s in
      let x : fed_out (kept_of now) t ≡ [] = plain_out t (kept_of now) p in
      let m = piece_more h o s i (length s) long now here t (rest_piece s i) f f' o' o' K ef eo (kept_at ∙ sym (part_held_lem t n k b l c on room p)) (same ∙ add_none f _ x) (put-nothing o' f _ x) in
      part_same h o (take (length s) s) s K f' o' (take-length s) m.0 m.1 m.2
