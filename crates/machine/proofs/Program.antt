-- The program block by block: however an input is cut, what the blocks print, end to end, is the whole output; and one block prints at most
-- 512 bytes and five for each of its bytes.
use mathlib.Core.Path.{◌≡◌, refl, sym, ap, ◌∙◌}
use mathlib.Core.Bool.{Bool, true, false}
use mathlib.Core.Logic.{◌⊎◌, inl, inr, ⊎_elim}
use mathlib.Core.List.{List, [], ◌∷◌, ◌++◌, append-nil, append_assoc}
use Prim.Native.Nat.{ℕ, zero, suc, ◌+◌, ◌*◌, ◌/◌, ◌≤◌, ◌<◌}
use native.Mathlib.Nat.{mul-le-mul, le_refl}
use native.Mathlib.Decide.{dec_le}
use native.Mathlib.Omega.{arith}
use lib.Dec.{eqb, ltb}
use lib.ListN.{length, take, length-append, length-take, length-map}
use lib.Seq.{take_all}
use borrow.Author.Tests.{eqb-true, lt-ltb}
use Rattle.trellis.specs.Lists.{pick, each}
use Rattle.trellis.specs.Reply.{Reply, refusal}
use Rattle.trellis.proofs.Loops.{length-tab}
use Rattle.trellis.proofs.Places.{length-count}
use Rattle.trellis.proofs.Recurrence.{size_4}
use Rattle.machine.specs.Line.{byte_at, line_bytes, line_ok}
use Rattle.machine.specs.CodeLine.{Read, good, bad, Code, parse, size, frame_fault, power}
use Rattle.machine.specs.Machine.{Status, found, not_found, run, symbols}
use Rattle.machine.specs.Printing.{digits_of, Said, said, printed, of_frame, frame_said, frame_line}
use Rattle.machine.specs.Decoding.{outcome}
use Rattle.machine.proofs.Lines.{parse-good}
use Rattle.machine.proofs.Ranges.{frame-fits}
use Rattle.machine.specs.Program.{last_line, lines_after, refused_line, read_code, after_code, lines_output, output_of}
use Rattle.machine.specs.inner.Blocks.{Session, first, later, ended, fresh, fed_byte, code_kept, code_out, line_finished, line_finished_out, fed, fed_out, close_out, fed_all, fed_all_out, all_blocks}

take_more : (n : ℕ) (l m : List ℕ) → take n (take n l ++ m) ≡ take n (l ++ m)
take_more zero l m = refl
take_more (suc n) [] m = refl
take_more (suc n) (x ∷ l) m = ap {B = List ℕ} (λ r. x ∷ r) (take_more n l m)

-- a line longer than 32,769 bytes is refused by 15, and so is what is kept of it
pub record Long (t : List ℕ) : Type 0 where
  pub code-line : read_code t ≡ bad 15
  pub frame_line_refused : (code : List ℕ) → frame_line code t ≡ refused_line 15

long : (t : List ℕ) → 32768 < length t → Long t
unfolding read_code frame_line frame_said
long t h =
    let e : ltb 32768 (length t) ≡ true = lt-ltb _ _ h in
    record { code-line = rw e refl; frame_line_refused = λ code. rw e refl }

cut_line : (l : List ℕ) → (take 32769 l ≡ l) ⊎ (Long (take 32769 l) × Long l)
cut_line l =
    elim (dec_le (length l) 32769) [
      | yes h ↦ inl (take_all 32769 l h)
      | no h ↦ inr (long (take 32769 l) (simp length-take (omega arith)), long l (omega arith))
    ]

-- what is kept, of what came
abbrev pub cut_session : Session → Session
cut_session (first l) = first (take 32769 l)
cut_session (later code l) = later code (take 32769 l)
cut_session ended = ended

-- all that came
abbrev pub put_byte : Session → ℕ → Session
put_byte (first l) b = first (l ++ (b ∷ []))
put_byte (later code l) b = later code (l ++ (b ∷ []))
put_byte ended b = ended

put-cut : (k : Session) (b : ℕ) → fed_byte (cut_session k) b ≡ cut_session (put_byte k b)
put-cut (first l) b = ap {B = Session} (λ r. first r) (take_more 32769 l (b ∷ []))
put-cut (later code l) b = ap {B = Session} (λ r. later code r) (take_more 32769 l (b ∷ []))
put-cut ended b = refl

finished-cut : (k : Session) → line_finished (cut_session k) ≡ line_finished k
unfolding line_finished
finished-cut (first l) =
    ⊎_elim (λ (e : take 32769 l ≡ l). rw e refl)
    (λ (h : Long (take 32769 l) × Long l). rw (h.0.code-line, h.1.code-line) refl) (cut_line l)
finished-cut (later code l) = refl
finished-cut ended = refl

finished_out_cut : (k : Session) → line_finished_out (cut_session k) ≡ line_finished_out k
unfolding line_finished_out
finished_out_cut (first l) =
    ⊎_elim (λ (e : take 32769 l ≡ l). rw e refl)
    (λ (h : Long (take 32769 l) × Long l). rw (h.0.code-line, h.1.code-line) refl) (cut_line l)
finished_out_cut (later code l) =
    ⊎_elim (λ (e : take 32769 l ≡ l). rw e refl)
    (λ (h : Long (take 32769 l) × Long l). h.0.frame_line_refused code ∙ sym (h.1.frame_line_refused code)) (cut_line l)
finished_out_cut ended = refl

finished-short : (k : Session) → cut_session (line_finished k) ≡ line_finished k
unfolding line_finished
finished-short (first l) = go (read_code l)
  where
    go : (r : Read Code) → cut_session (code_kept r (line_bytes l)) ≡ code_kept r (line_bytes l)
    go (good C) = refl
    go (bad n) = refl
finished-short (later code l) = refl
finished-short ended = refl

-- the line so far, and what the lines from it on print
abbrev line_of : Session → List ℕ
line_of (first l) = l
line_of (later code l) = l
line_of ended = []

abbrev printed_for : Session → List (List ℕ) → List ℕ
printed_for (first l) ls = lines_output ls
printed_for (later code l) ls = each (frame_line code) ls
printed_for ended ls = []

at_turn : (k : Session) (s : List ℕ) → printed_for k (line_of k ∷ lines_after [] s) ≡ line_finished_out k ++ printed_for (line_finished k) (lines_after (line_of (line_finished k)) s)
unfolding line_finished line_finished_out
at_turn (first l) s = go (read_code l)
  where
    go : (r : Read Code) → after_code r (line_bytes l) (lines_after [] s) ≡ code_out r ++ printed_for (code_kept r (line_bytes l)) (lines_after (line_of (code_kept r (line_bytes l))) s)
    go (good C) = refl
    go (bad n) = sym (append-nil (refused_line n))
at_turn (later code l) s = refl
at_turn ended s = refl

at-put : (k : Session) (b : ℕ) (s : List ℕ) → printed_for k (lines_after (line_of k ++ (b ∷ [])) s) ≡ printed_for (put_byte k b) (lines_after (line_of (put_byte k b)) s)
at-put (first l) b s = refl
at-put (later code l) b s = refl
at-put ended b s = refl

empty_code : read_code [] ≡ bad 5
unfolding read_code line_ok line_bytes parse
empty_code = refl

at_close : (k : Session) → close_out (cut_session k) ≡ printed_for k (last_line (line_of k))
unfolding close_out line_finished_out
at_close (first []) = rw empty_code refl
at_close (first (b ∷ l)) = go (read_code (take 32769 (b ∷ l))) (read_code (b ∷ l)) (finished_out_cut (first (b ∷ l)))
  where
    go : (r t : Read Code) → code_out r ≡ code_out t → code_out r ≡ after_code t (line_bytes (b ∷ l)) []
    go r (good C) e = e
    go r (bad n) e = e
at_close (later code []) = refl
at_close (later code (b ∷ l)) = rw (finished_out_cut (later code (b ∷ l))) refl
at_close ended = refl

-- what is kept gives the same output as all that came
all_said : (k : Session) (s : List ℕ) → fed_out (cut_session k) s ++ close_out (fed (cut_session k) s) ≡ printed_for k (lines_after (line_of k) s)
unfolding fed fed_out lines_after
all_said k [] = at_close k
all_said k (b ∷ s) = go (eqb b 0x0A) (all_said (line_finished k) s) (all_said (put_byte k b) s)
  where
    go : (t : Bool) → fed_out (cut_session (line_finished k)) s ++ close_out (fed (cut_session (line_finished k)) s) ≡ printed_for (line_finished k) (lines_after (line_of (line_finished k)) s)
        → fed_out (cut_session (put_byte k b)) s ++ close_out (fed (cut_session (put_byte k b)) s) ≡ printed_for (put_byte k b) (lines_after (line_of (put_byte k b)) s)
        → pick t (line_finished_out (cut_session k) ++ fed_out (line_finished (cut_session k)) s) (fed_out (fed_byte (cut_session k) b) s) ++ close_out (pick t (fed (line_finished (cut_session k)) s) (fed (fed_byte (cut_session k) b) s))
        ≡ printed_for k (pick t (line_of k ∷ lines_after [] s) (lines_after (line_of k ++ (b ∷ [])) s))
    go true h i =
        let e : line_finished (cut_session k) ≡ cut_session (line_finished k) = finished-cut k ∙ sym (finished-short k) in
        rw (finished_out_cut k, e)
        (append_assoc (line_finished_out k) (fed_out (cut_session (line_finished k)) s) (close_out (fed (cut_session (line_finished k)) s)) ∙ ap (λ r. line_finished_out k ++ r) h ∙ sym (at_turn k s))
    go false h i = rw (put-cut k b) (i ∙ sym (at-put k b s))

-- blocks end to end are one block
pub fed-more : (k : Session) (s t : List ℕ) → (fed k (s ++ t) ≡ fed (fed k s) t) × (fed_out k (s ++ t) ≡ fed_out k s ++ fed_out (fed k s) t)
unfolding fed fed_out
fed-more k [] t = (refl, refl)
fed-more k (b ∷ s) t = go (eqb b 0x0A) (fed-more (line_finished k) s t) (fed-more (fed_byte k b) s t)
  where
    go : (c : Bool) → (fed (line_finished k) (s ++ t) ≡ fed (fed (line_finished k) s) t) × (fed_out (line_finished k) (s ++ t) ≡ fed_out (line_finished k) s ++ fed_out (fed (line_finished k) s) t)
        → (fed (fed_byte k b) (s ++ t) ≡ fed (fed (fed_byte k b) s) t) × (fed_out (fed_byte k b) (s ++ t) ≡ fed_out (fed_byte k b) s ++ fed_out (fed (fed_byte k b) s) t)
        → (pick c (fed (line_finished k) (s ++ t)) (fed (fed_byte k b) (s ++ t)) ≡ fed (pick c (fed (line_finished k) s) (fed (fed_byte k b) s)) t)
        × (pick c (line_finished_out k ++ fed_out (line_finished k) (s ++ t)) (fed_out (fed_byte k b) (s ++ t)) ≡ pick c (line_finished_out k ++ fed_out (line_finished k) s) (fed_out (fed_byte k b) s) ++ fed_out (pick c (fed (line_finished k) s) (fed (fed_byte k b) s)) t)
    go true h i = (h.0, ap (λ r. line_finished_out k ++ r) h.1 ∙ sym (append_assoc (line_finished_out k) (fed_out (line_finished k) s) (fed_out (fed (line_finished k) s) t)))
    go false h i = i

all-fed : (k : Session) (bs : List (List ℕ)) → (fed_all k bs ≡ fed k (all_blocks bs)) × (fed_all_out k bs ≡ fed_out k (all_blocks bs))
unfolding fed_all fed_all_out fed fed_out
all-fed k [] = (refl, refl)
all-fed k (s ∷ bs) =
    let h = all-fed (fed k s) bs in
    let m = fed-more k s (all_blocks bs) in
    (h.0 ∙ sym m.0, ap (λ r. fed_out k s ++ r) h.1 ∙ sym m.1)

-- the theorem: however what is read of an input is cut into blocks, what they print, with the closing step, is the output of the input
pub blocks_output : (input : List ℕ) (bs : List (List ℕ)) → all_blocks bs ≡ take 4294967295 input → fed_all_out fresh bs ++ close_out (fed_all fresh bs) ≡ output_of input
unfolding output_of
blocks_output input bs e =
    let a = all-fed fresh bs in
    rw (a.0, a.1, e) (all_said fresh (take 4294967295 input))

-- once it has ended, no block prints: the program may stop reading
pub ended_silent : (s : List ℕ) → (fed ended s ≡ ended) × (fed_out ended s ≡ []) × (close_out ended ≡ [])
unfolding fed fed_out line_finished line_finished_out close_out
ended_silent [] = (refl, refl, refl)
ended_silent (b ∷ s) = go (eqb b 0x0A) (ended_silent s)
  where
    go : (c : Bool) → (fed ended s ≡ ended) × (fed_out ended s ≡ []) × (close_out ended ≡ [])
        → (pick c (fed ended s) (fed ended s) ≡ ended) × (pick c (fed_out ended s) (fed_out ended s) ≡ []) × (close_out ended ≡ [])
    go true h = h
    go false h = h

-- what a line prints
length_digits : (l : List ℕ) → length (each digits_of l) ≡ length l * 2
length_digits [] = refl
length_digits (x ∷ l) = let h = length_digits l in omega arith

length-printed : (s : Said) → length (printed s) ≡ length (pick s.reply.refused [] s.symbols) * 2 + 5
unfolding printed
length-printed s = simp (length-append, length_digits (pick s.reply.refused [] s.symbols)) (omega arith)

-- a printed line has at most 517 bytes, and at most five for each byte of its line and the 0A
pub record ShortLine (text out : List ℕ) : Type 0 where
  pub few : length out ≤ 517
  pub fewer : length out ≤ 5 * (length text + 1)

five_short : (t : List ℕ) (k : ℕ) → ShortLine t (refused_line k)
five_short t k = let h = length-printed (said (refusal k) []) in record { few = omega arith; fewer = omega arith }

decided-short : (code t : List ℕ) (C : Code) → parse code ≡ good C → frame_fault C (line_bytes t) ≡ 0 → (r : Reply) → r.refused ≡ false
    → ShortLine t (printed (said r (symbols C (run C (line_bytes t)).end.costs)))
unfolding symbols line_bytes
decided-short code t C e f r h =
    let y : List ℕ = symbols C (run C (line_bytes t)).end.costs in
    let n : length y ≡ C.columns = simp length-map (length-count 0 C.columns) in
    let g = parse-good code C e in
    let i : length t / 2 ≡ C.columns * size C = sym (length-tab (byte_at t) (length t / 2)) ∙ (frame-fits C (line_bytes t) f).0 in
    let q : C.columns * 4 ≤ C.columns * size C = mul-le-mul (le_refl C.columns) (size_4 (power C) g.p-low) in
    let a : length (printed (said r y)) ≡ C.columns * 2 + 5 = length-printed (said r y) ∙ rw (h, n) refl in
    record { few = omega (arith, a, g.columns-high); fewer = omega (arith, a, i, q) }

pub frame-short : (code t : List ℕ) → ShortLine t (frame_line code t)
unfolding frame_line frame_said
frame-short code t = go (ltb 32768 (length t)) (line_ok t) (ltb 16384 (length t / 2))
  where
    not-refused : (s : Status) (n : ℕ) → (outcome s n).refused ≡ false
    not-refused found n = refl
    not-refused not_found n = refl

    under : (C : Code) → parse code ≡ good C → (b : Bool) → eqb (frame_fault C (line_bytes t)) 0 ≡ b
        → ShortLine t (printed (pick b (said (outcome (run C (line_bytes t)).status (run C (line_bytes t)).end.t) (symbols C (run C (line_bytes t)).end.costs)) (said (refusal (frame_fault C (line_bytes t))) [])))
    under C e true h = decided-short code t C e (eqb-true _ _ h) _ (not-refused (run C (line_bytes t)).status (run C (line_bytes t)).end.t)
    under C e false h = five_short t (frame_fault C (line_bytes t))

    frame : (r : Read Code) → parse code ≡ r → ShortLine t (printed (of_frame r (line_bytes t)))
    frame (bad k) e = five_short t k
    frame (good C) e = under C e (eqb (frame_fault C (line_bytes t)) 0) refl

    go : (a b c : Bool) → ShortLine t (printed (pick a (said (refusal 15) []) (pick b (pick c (said (refusal 2) []) (of_frame (parse code) (line_bytes t))) (said (refusal 14) []))))
    go true b c = five_short t 15
    go false true true = five_short t 2
    go false true false = frame (parse code) refl
    go false false c = five_short t 14

code-short : (t : List ℕ) → ShortLine t (code_out (read_code t))
code-short t = go (read_code t)
  where
    go : (r : Read Code) → ShortLine t (code_out r)
    go (good C) = record { few = omega arith; fewer = omega arith }
    go (bad k) = five_short t k

pub turn_short : (k : Session) → ShortLine (line_of k) (line_finished_out k)
unfolding line_finished_out
turn_short (first l) = code-short l
turn_short (later code l) = frame-short code l
turn_short ended = record { few = omega arith; fewer = omega arith }

pub close_short : (k : Session) → length (close_out k) ≤ 517
unfolding close_out
close_short (first l) = (code-short l).few
close_short (later code []) = omega arith
close_short (later code (b ∷ l)) = rw (append-nil (frame_line code (b ∷ l))) (frame-short code (b ∷ l)).few
close_short ended = omega arith

finished_empty : (k : Session) → line_of (line_finished k) ≡ []
unfolding line_finished
finished_empty (first l) = go (read_code l)
  where
    go : (r : Read Code) → line_of (code_kept r (line_bytes l)) ≡ []
    go (good C) = refl
    go (bad n) = refl
finished_empty (later code l) = refl
finished_empty ended = refl

kept-long : (k : Session) (b : ℕ) → length (line_of (fed_byte k b)) ≤ length (line_of k) + 1
kept-long (first l) b = simp (length-take, length-append) (omega arith)
kept-long (later code l) b = simp (length-take, length-append) (omega arith)
kept-long ended b = omega arith

-- five bytes for each byte of the line so far and of the block
fed-fewer : (k : Session) (s : List ℕ) → length (fed_out k s) ≤ 5 * (length (line_of k) + length s)
unfolding fed_out
fed-fewer k [] = omega arith
fed-fewer k (b ∷ s) = go (eqb b 0x0A) (fed-fewer (line_finished k) s) (fed-fewer (fed_byte k b) s)
  where
    go : (c : Bool) → length (fed_out (line_finished k) s) ≤ 5 * (length (line_of (line_finished k)) + length s)
        → length (fed_out (fed_byte k b) s) ≤ 5 * (length (line_of (fed_byte k b)) + length s)
        → length (pick c (line_finished_out k ++ fed_out (line_finished k) s) (fed_out (fed_byte k b) s)) ≤ 5 * (length (line_of k) + suc (length s))
    go true h i =
        let e : length (line_of (line_finished k)) ≡ 0 = ap length (finished_empty k) in
        rw (length-append (line_finished_out k) (fed_out (line_finished k) s)) (omega (arith, (turn_short k).fewer))
    go false h i = omega (arith, kept-long k b)

-- the bound: the first line that ends in a block prints at most 517 bytes, each other one at most five for each of its bytes and the 0A
pub fed-few : (k : Session) (s : List ℕ) → length (fed_out k s) ≤ 512 + 5 * length s
unfolding fed_out
fed-few k [] = omega arith
fed-few k (b ∷ s) = go (eqb b 0x0A) (fed-few (fed_byte k b) s)
  where
    go : (c : Bool) → length (fed_out (fed_byte k b) s) ≤ 512 + 5 * length s
        → length (pick c (line_finished_out k ++ fed_out (line_finished k) s) (fed_out (fed_byte k b) s)) ≤ 512 + 5 * suc (length s)
    go true i =
        let e : length (line_of (line_finished k)) ≡ 0 = ap length (finished_empty k) in
        rw (length-append (line_finished_out k) (fed_out (line_finished k) s)) (omega (arith, (turn_short k).few, fed-fewer (line_finished k) s))
    go false i = omega arith
