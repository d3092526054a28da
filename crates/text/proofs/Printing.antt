-- Printing: the digits of bytes end to end are blocks of two, and a decoding in buffers that are long enough has the reply and the symbols
-- that are printed.
use mathlib.Core.Path.{◌≡◌, refl, sym, ap, ◌∙◌}
use mathlib.Core.Bool.{Bool, true, false, true≢false}
use mathlib.Core.List.{List, [], ◌∷◌, ◌++◌, append-nil}
use Prim.Native.Nat.{ℕ, suc, ◌+◌, ◌-◌, ◌*◌, ◌/◌, ◌≤◌, ◌<◌}
use native.Mathlib.Omega.{arith}
use lib.Dec.{eqb, ltb}
use lib.ListN.{length, take, drop, get_or, set, length-append, length-map}
use lib.Seq.{drop-cons, set_at, append_snoc, take_at, take-length, drop-length}
use borrow.Author.Tests.{eqb-true, ltb-false}
use Rattle.std.specs.Prelude.{replicate}
use Rattle.std.proofs.lemmas.List.{length-replicate}
use Rattle.trellis.specs.Lists.{pick, each, blocks, patch}
use Rattle.trellis.specs.Reply.{Reply, accepted, refusal}
use Rattle.trellis.proofs.Loops.{blocks-front, length-even, length-tab}
use Rattle.trellis.proofs.Places.{length-count}
use Rattle.machine.specs.CodeLine.{Read, good, bad, Code, parse, frame_fault, numbers_of, columns_read}
use Rattle.machine.specs.Line.{byte_at, line_bytes, line_ok, line_reply, line_leaves}
use Rattle.machine.specs.Machine.{run, symbols}
use Rattle.machine.specs.Decoding.{Buffers, Decodes, admitted_under, admitted, decoding_under, decoding, outcome}
use Rattle.machine.specs.Printing.{digits_of, said, of_frame, frame_said, printed}
use Rattle.machine.proofs.Lines.{parse-good}
use Rattle.machine.proofs.Rooms.{roomy}
use Rattle.machine.proofs.Faults.{admitted-by}
use Rattle.machine.proofs.Buffers.{accepted_call}
use Rattle.text.specs.inner.Lines.{as_line, over, DecodeRoom}

pub two-set : (l : List ℕ) (a b : ℕ) → length l ≡ 2 → set (set l 0 a) 1 b ≡ a ∷ b ∷ []
two-set [] a b h = absurd (omega arith)
two-set (x ∷ []) a b h = absurd (omega arith)
two-set (x ∷ y ∷ []) a b h = refl
two-set (x ∷ y ∷ z ∷ l) a b h = absurd (omega arith)

-- the digits of byte j
abbrev pub digits_at : List ℕ → ℕ → List ℕ
digits_at l j = digits_of (get_or l j 0)

each_digits : (l : List ℕ) → blocks (digits_at l) (length l) ≡ each digits_of l
each_digits [] = refl
each_digits (x ∷ l) = blocks-front (digits_at (x ∷ l)) (length l) ∙ ap (λ r. digits_of x ++ r) (each_digits l)

length_digits : (l : List ℕ) → length (each digits_of l) ≡ length l * 2
length_digits l = rw (← each_digits l) (length-even (digits_at l) 2 (λ j. refl) (length l))

-- the end of a line, after all its digits
pub line-end : (l o out : List ℕ) → length l * 2 < length o → out ≡ blocks (digits_at l) (length l) ++ drop (length l * 2) o → set out (length l * 2) 0x0A ≡ over (as_line l) o
unfolding as_line
line-end l o out h e =
    let d : List ℕ = each digits_of l in
    let k : length (d ++ (0x0A ∷ [])) ≡ suc (length l * 2) = simp (length-append, length_digits l) (omega arith) in
    rw (e, each_digits l, k, drop-cons o (length l * 2) 0 h)
    (set_at d (get_or o (length l * 2) 0) (drop (suc (length l * 2)) o) 0x0A (length l * 2) (length_digits l) ∙ sym (append_snoc d 0x0A (drop (suc (length l * 2)) o)))

-- a decoding in buffers that are long enough for every code line
module _ (code f : List ℕ) (b o : Buffers) (r : Reply) (R : DecodeRoom b.symbols b.costs b.store b.margins) (D : Decodes code f b r o) where
  abbrev z : List ℕ
  z = o.symbols

  tells-of : (r ≡ (of_frame (parse code) f).reply) × (printed (said r (take (columns_read (numbers_of (parse code))) z)) ≡ printed (of_frame (parse code) f))
  unfolding printed decoding admitted symbols
  tells-of = go (parse code) refl
    where
      fit : (C : Code) → parse code ≡ good C → frame_fault C f ≡ 0
          → (r ≡ outcome (run C f).status (run C f).end.t) × (take C.columns z ≡ symbols C (run C f).end.costs)
      fit C e g =
          let a = accepted_call code f b C (record { line = e; fits = g }) (roomy C (parse-good code C e) b R.for_symbols R.for_costs R.for_store R.for_margins) in (
            D.replies ∙ ap (λ x. x.reply) a,
            rw (D.symbols-then, a) (take_at (symbols C (run C f).end.costs) (drop C.columns b.symbols) C.columns (simp length-map (length-count 0 C.columns))),
          )

      go : (p : Read Code) → parse code ≡ p → (r ≡ (of_frame p f).reply) × (printed (said r (take (columns_read (numbers_of p)) z)) ≡ printed (of_frame p f))
      go (bad n) e = let b : r ≡ refusal n = rw e at D.replies in (b, rw b refl)
      go (good C) e = under (eqb (frame_fault C f) 0) refl
        where
          under : (t : Bool) → eqb (frame_fault C f) 0 ≡ t
              → (r ≡ (of_frame (good C) f).reply) × (printed (said r (take C.columns z)) ≡ printed (of_frame (good C) f))
          under true g =
              let a = fit C e (eqb-true (frame_fault C f) 0 g) in
              rw (g, a.0, a.1) (refl, refl)
          under false g =
              let w : r ≡ refusal (frame_fault C f) =
              D.replies ∙ ap (λ q. (decoding_under (admitted_under q f b) f b).reply) e ∙ ap (λ q. (decoding_under q f b).reply) (admitted-by C f b) ∙ rw g in
              rw (g, w) (refl, refl)

  pub tells : (n : ℕ) → n ≡ columns_read (numbers_of (parse code)) → (r ≡ (of_frame (parse code) f).reply) × (printed (said r (take n z)) ≡ printed (of_frame (parse code) f))
  tells n e = rw e tells-of

-- a line of text with room for 16,384 bytes
module _ (t out : List ℕ) (room : length out ≡ 16384) where
  pub line_refused : (k : ℕ) → refusal k ≡ line_reply t out → (code : List ℕ) → frame_said code t ≡ said (refusal k) []
  unfolding line_reply frame_said
  line_refused k e code = go (ltb 32768 (length t)) (line_ok t) (ltb 16384 (length t / 2)) (rw room at e)
    where
      go : (a b c : Bool) → refusal k ≡ pick a (refusal 15) (pick b (pick c (refusal 2) (accepted (length t / 2))) (refusal 14))
          → pick a (said (refusal 15) []) (pick b (pick c (said (refusal 2) []) (of_frame (parse code) (line_bytes t))) (said (refusal 14) [])) ≡ said (refusal k) []
      go true b c h = ap (λ r. said r []) (sym h)
      go false true true h = ap (λ r. said r []) (sym h)
      go false true false h = absurd (true≢false (ap (λ r. r.refused) h))
      go false false c h = ap (λ r. said r []) (sym h)

  pub line_read : (n : ℕ) → accepted n ≡ line_reply t out
      → (n ≤ 16384) × (take n (line_leaves t out) ≡ line_bytes t) × ((code : List ℕ) → frame_said code t ≡ of_frame (parse code) (line_bytes t))
  unfolding line_reply line_leaves frame_said line_bytes
  line_read n e = rw room (go (ltb 32768 (length t)) (line_ok t) (ltb 16384 (length t / 2)) refl (rw room at e))
    where
      go : (a b c : Bool) → ltb 16384 (length t / 2) ≡ c → accepted n ≡ pick a (refusal 15) (pick b (pick c (refusal 2) (accepted (length t / 2))) (refusal 14))
          → (n ≤ 16384) × (take n (pick a out (pick b (pick c out (line_bytes t ++ drop (length t / 2) out)) out)) ≡ line_bytes t)
          × ((code : List ℕ) → pick a (said (refusal 15) []) (pick b (pick c (said (refusal 2) []) (of_frame (parse code) (line_bytes t))) (said (refusal 14) [])) ≡ of_frame (parse code) (line_bytes t))
      go true b c l h = absurd (true≢false (sym (ap (λ r. r.refused) h)))
      go false true true l h = absurd (true≢false (sym (ap (λ r. r.refused) h)))
      go false true false l h =
          let i : n ≡ length t / 2 = ap (λ r. r.value) h in
          (omega (arith, ltb-false 16384 (length t / 2) l), rw i (take_at (line_bytes t) (drop (length t / 2) out) (length t / 2) (length-tab (byte_at t) (length t / 2))), λ code. refl)
      go false false c l h = absurd (true≢false (sym (ap (λ r. r.refused) h)))

-- the buffer that the line is read into
abbrev pub new_line : List ℕ
new_line = replicate 16384 0

pub new_room : length new_line ≡ 16384
new_room = let z : ℕ = 0 in length-replicate 16384 z

-- status and t in front of the symbols and the end
abbrev after_two : List ℕ → List ℕ → List ℕ → List ℕ
after_two o p q = patch (p ++ drop 2 o) 2 2 q

pub line-head : (o l p q r : List ℕ) (a b : ℕ) → 4 ≤ length o → p ≡ digits_of a → q ≡ digits_of b → r ≡ over (as_line l) (take (length (after_two o p q) - 4) (drop 4 (after_two o p q)))
    → patch (after_two o p q) 4 (length (after_two o p q) - 4) r ≡ over (as_line (a ∷ b ∷ l)) o
unfolding as_line
line-head o l p q r a b h i j k = rw (k, i, j) (go o h)
  where
    go : (o : List ℕ) → 4 ≤ length o
        → patch (after_two o (digits_of a) (digits_of b)) 4 (length (after_two o (digits_of a) (digits_of b)) - 4) (over (as_line l) (take (length (after_two o (digits_of a) (digits_of b)) - 4) (drop 4 (after_two o (digits_of a) (digits_of b)))))
        ≡ over (as_line (a ∷ b ∷ l)) o
    go [] h = absurd (omega arith)
    go (w ∷ []) h = absurd (omega arith)
    go (w ∷ x ∷ []) h = absurd (omega arith)
    go (w ∷ x ∷ y ∷ []) h = absurd (omega arith)
    go (w ∷ x ∷ y ∷ z ∷ s) h =
        let n : suc (suc (suc (suc (length s)))) - 4 ≡ length s = omega arith in
        rw (n, take-length s, drop-length s, append-nil (as_line l ++ drop (length (as_line l)) s))

pub length-line : (a b : ℕ) (l : List ℕ) → length l * 2 + 5 ≡ length (as_line (a ∷ b ∷ l))
unfolding as_line
length-line a b l = simp (length-append, length_digits l) (omega arith)
