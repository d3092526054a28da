-- What the buffers hold stands for what the definition keeps, byte by byte.
use mathlib.Core.Path.{◌≡◌, refl, sym, ap, ◌∙◌}
use mathlib.Core.Bool.{Bool, true, false, not, true≢false}
use mathlib.Core.Logic.{◌⊎◌, inl, inr, ⊎_elim}
use mathlib.Core.List.{List, [], ◌∷◌, ◌++◌, append-nil, append_assoc}
use Prim.Native.Nat.{ℕ, zero, suc, ◌+◌, ◌-◌, ◌/◌, ◌≤◌, ◌<◌, min}
use native.Mathlib.Numerals.{add-one}
use native.Mathlib.Decide.{dec_le}
use native.Mathlib.Omega.{arith}
use lib.Dec.{eqb, ltb}
use lib.ListN.{length, take, drop, set, length-append, length-take, length-set, take-append-drop}
use lib.Seq.{take_all, take_at, drop_at, drop-drop, take-suc-set}
use borrow.Author.Tests.{eqb-true, ltb-false, ltb-true, eq-eqb, ne_eqb}
use Rattle.trellis.specs.Lists.{pick}
use Rattle.trellis.specs.Reply.{accepted, refusal}
use Rattle.trellis.proofs.Loops.{length-tab}
use Rattle.std.specs.Prelude.{Result, Ok, Err}
use Rattle.std.specs.Result.{result_unwrap_or, is_ok}
use Rattle.codeline.specs.declared.answers.Numbers.{Numbers as LineNumbers}
use Rattle.codeline.specs.Answers.{numbers_in, header_numbers}
use Rattle.refusal.specs.declared.Refusal.{Refusal}
use Rattle.refusal.specs.Numbers.{number_of}
use Rattle.refusal.specs.Replies.{reply_of}
use Rattle.machine.specs.Line.{byte_at, line_bytes, line_ok, line_reply, line_leaves}
use Rattle.machine.specs.CodeLine.{Read, good, bad, Code, parse, Numbers, numbers_of}
use Rattle.machine.specs.Printing.{frame_said, frame_line}
use Rattle.machine.specs.Program.{read_code, refused_line}
use Rattle.machine.specs.inner.Blocks.{Session, first, later, ended, longer, fed_byte, code_kept, code_out, line_finished, line_finished_out, fed, fed_out, close_out}
use Rattle.machine.proofs.Program.{fed-more, turn_short}
use Rattle.text.specs.inner.Held.{Held, kept_of, put_at, byte_held, code_bytes, is_good, accepts, code_held, finished_held, step_held, fed_held, quiet, close_held}

-- a line that is kept longer
line-longer : (l : List ℕ) (n b : ℕ) → length l ≡ 32769 → n < 32769 → longer (take n l) b ≡ take (n + 1) (set l n b)
line-longer l n b h k =
    let e : take (n + 1) (set l n b) ≡ take n l ++ (b ∷ []) = rw (add-one n) (take-suc-set l n b (omega arith)) in
    let m : length (take n l ++ (b ∷ [])) ≤ 32769 = simp (length-append, length-take) (omega arith) in
    take_all 32769 (take n l ++ (b ∷ [])) m ∙ sym e

line-full : (l : List ℕ) (n b : ℕ) → length l ≡ 32769 → 32769 ≤ n → longer (take n l) b ≡ take n l
line-full l n b h k =
    let e : take n l ≡ l = take_all n l (omega arith) in
    rw e (take_at l (b ∷ []) 32769 h)

kept_cases : (o c : Bool) (x y z : List ℕ) (b : ℕ) → longer x b ≡ y → pick o ended (pick c (first y) (later z y)) ≡ fed_byte (pick o ended (pick c (first x) (later z x))) b
kept_cases true c x y z b e = refl
kept_cases false true x y z b e = ap {B = Session} (λ r. first r) (sym e)
kept_cases false false x y z b e = ap {B = Session} (λ r. later z r) (sym e)

byte-stands : (h : Held) (b : ℕ) → length h.line ≡ 32769 → kept_of (byte_held h b) ≡ fed_byte (kept_of h) b
byte-stands h b e = go (ltb h.len 32769) refl
  where
    go : (t : Bool) → ltb h.len 32769 ≡ t
        → kept_of (pick t (record { len = h.len + 1; code = h.code; over = h.over; line = set h.line h.len b; bytes = h.bytes }) h) ≡ fed_byte (kept_of h) b
    go true i = kept_cases h.over (eqb h.code 0) (take h.len h.line) _ (take h.code h.bytes) b (line-longer h.line h.len b e (ltb-true _ _ i))
    go false i = kept_cases h.over (eqb h.code 0) (take h.len h.line) _ (take h.code h.bytes) b (line-full h.line h.len b e (ltb-false _ _ i))

-- a code line that is accepted, and one that is refused
pub record AcceptedCode (t : List ℕ) : Type 0 where
  pub code : Code
  pub read : read_code t ≡ good code
  pub accepted : accepts (code_bytes t) ≡ true
  pub same : code_bytes t ≡ line_bytes t
  pub some : eqb (length (code_bytes t)) 0 ≡ false

pub record Refused (t : List ℕ) : Type 0 where
  pub number : ℕ
  pub read : read_code t ≡ bad number
  pub refused : accepts (code_bytes t) ≡ false
  pub prints : frame_line (code_bytes t) t ≡ refused_line number

no_code : parse [] ≡ bad 5
unfolding parse
no_code = refl

some-code : (s : List ℕ) (C : Code) → parse s ≡ good C → eqb (length s) 0 ≡ false
some-code [] C e = let z : ◌≡◌ {A = ℕ} 0 1 = cc no_code in absurd (omega arith)
some-code (b ∷ s) C e = ne_eqb (suc (length s)) 0 (λ (z : suc (length s) ≡ 0). omega arith)

pub code_told : (t : List ℕ) → AcceptedCode t ⊎ Refused t
unfolding read_code code_bytes accepts frame_line frame_said
code_told t = go (ltb 32768 (length t)) (line_ok t) (ltb 16384 (length t / 2)) refl refl refl
  where
    last : ltb 32768 (length t) ≡ false → line_ok t ≡ true → ltb 16384 (length t / 2) ≡ false → (r : Read Code) → parse (line_bytes t) ≡ r → AcceptedCode t ⊎ Refused t
    last i j k (good C) e = inl (record { code = C; read = rw (i, j, k) e; accepted = rw (i, j, k, e) refl; same = rw (i, j, k) refl; some = rw (i, j, k) (some-code (line_bytes t) C e) })
    last i j k (bad n) e = inr (record { number = n; read = rw (i, j, k) e; refused = rw (i, j, k, e) refl; prints = rw (i, j, k, e) refl })

    go : (a b c : Bool) → ltb 32768 (length t) ≡ a → line_ok t ≡ b → ltb 16384 (length t / 2) ≡ c → AcceptedCode t ⊎ Refused t
    go true b c i j k = inr (record { number = 15; read = rw i refl; refused = rw (i, no_code) refl; prints = rw i refl })
    go false true true i j k = inr (record { number = 2; read = rw (i, j, k) refl; refused = rw (i, j, k, no_code) refl; prints = rw (i, j, k) refl })
    go false true false i j k = last i j k (parse (line_bytes t)) refl
    go false false c i j k = inr (record { number = 14; read = rw (i, j) refl; refused = rw (i, j, no_code) refl; prints = rw (i, j) refl })

-- what the code line prints
pub accepted-out : (t : List ℕ) → accepts (code_bytes t) ≡ true → code_out (read_code t) ≡ []
accepted-out t e = ⊎_elim (λ (a : AcceptedCode t). rw a.read refl) (λ (r : Refused t). absurd (true≢false (sym e ∙ r.refused))) (code_told t)

pub refused-out : (t : List ℕ) → accepts (code_bytes t) ≡ false → code_out (read_code t) ≡ frame_line (code_bytes t) t
refused-out t e = ⊎_elim (λ (a : AcceptedCode t). absurd (true≢false (sym a.accepted ∙ e))) (λ (r : Refused t). rw r.read (sym r.prints)) (code_told t)

code-stands : (h : Held) (t : List ℕ) → kept_of (code_held h t) ≡ code_kept (read_code t) (line_bytes t)
code-stands h t =
    ⊎_elim
    (λ (a : AcceptedCode t). rw (a.accepted, a.read, a.some) (ap {B = Session} (λ r. later r []) (take_at (code_bytes t) (drop (length (code_bytes t)) h.bytes) (length (code_bytes t)) refl ∙ a.same)))
    (λ (r : Refused t). rw (r.refused, r.read) refl)
    (code_told t)

turn_stands : (h : Held) → h.over ≡ false → kept_of (finished_held h) ≡ line_finished (kept_of h)
unfolding line_finished
turn_stands h o = rw o (go (eqb h.code 0) refl)
  where
    go : (c : Bool) → eqb h.code 0 ≡ c
        → kept_of (pick c (code_held h (take h.len h.line)) (record { len = 0; code = h.code; over = false; line = h.line; bytes = h.bytes }))
        ≡ line_finished (pick c (first (take h.len h.line)) (later (take h.code h.bytes) (take h.len h.line)))
    go true e = code-stands h (take h.len h.line)
    go false e = rw e refl

pub step-stands : (h : Held) (b : ℕ) → length h.line ≡ 32769 → kept_of (step_held h b) ≡ fed (kept_of h) (b ∷ [])
unfolding step_held fed line_finished
step-stands h b e = go h.over refl (eqb b 0x0A)
  where
    go : (o : Bool) → h.over ≡ o → (t : Bool) → kept_of (pick o h (pick t (finished_held h) (byte_held h b))) ≡ pick t (line_finished (kept_of h)) (fed_byte (kept_of h) b)
    go true i true = rw i refl
    go true i false = rw i refl
    go false i true = turn_stands h i
    go false i false = byte-stands h b e

pub line_stays : (h : Held) (b : ℕ) → length (step_held h b).line ≡ length h.line
unfolding step_held
line_stays h b = go h.over (eqb b 0x0A) (eqb h.code 0) (ltb h.len 32769)
  where
    go : (o t c u : Bool) → length (pick o h (pick t (pick c (code_held h (take h.len h.line)) (record { len = 0; code = h.code; over = false; line = h.line; bytes = h.bytes })) (pick u (record { len = h.len + 1; code = h.code; over = h.over; line = set h.line h.len b; bytes = h.bytes }) h))).line ≡ length h.line
    go true t c u = refl
    go false true true u = refl
    go false true false u = refl
    go false false c true = length-set h.line h.len b
    go false false c false = refl

-- a block
pub fed-stands : (h : Held) (s : List ℕ) → length h.line ≡ 32769 → kept_of (fed_held h s) ≡ fed (kept_of h) s
unfolding fed_held fed
fed-stands h [] e = refl
fed-stands h (b ∷ s) e = fed-stands (step_held h b) s (line_stays h b ∙ e) ∙ ap (λ k. fed k s) (step-stands h b e) ∙ sym (fed-more (kept_of h) (b ∷ []) s).0

pub fed-line : (h : Held) (s : List ℕ) → length (fed_held h s).line ≡ length h.line
unfolding fed_held
fed-line h [] = refl
fed-line h (b ∷ s) = fed-line (step_held h b) s ∙ line_stays h b

-- the bytes of a code line, as `line` leaves them
module _ (t out : List ℕ) (room : length out ≡ 16384) where
  pub bytes-refused : (k : ℕ) → refusal k ≡ line_reply t out → (code_bytes t ≡ []) × (line_leaves t out ≡ out)
  unfolding line_reply line_leaves code_bytes
  bytes-refused k e = rw room (go (ltb 32768 (length t)) (line_ok t) (ltb 16384 (length t / 2)) (rw room at e))
    where
      go : (a b c : Bool) → refusal k ≡ pick a (refusal 15) (pick b (pick c (refusal 2) (accepted (length t / 2))) (refusal 14))
          → (pick a [] (pick b (pick c [] (line_bytes t)) []) ≡ []) × (pick a out (pick b (pick c out (line_bytes t ++ drop (length t / 2) out)) out) ≡ out)
      go true b c h = (refl, refl)
      go false true true h = (refl, refl)
      go false true false h = absurd (true≢false (ap (λ r. r.refused) h))
      go false false c h = (refl, refl)

  pub bytes_read : (n : ℕ) → accepted n ≡ line_reply t out → (n ≡ length (code_bytes t)) × (n ≤ 16384) × (line_leaves t out ≡ code_bytes t ++ drop (length (code_bytes t)) out)
  unfolding line_reply line_leaves code_bytes line_bytes
  bytes_read n e = rw room (go (ltb 32768 (length t)) (line_ok t) (ltb 16384 (length t / 2)) refl (rw room at e))
    where
      go : (a b c : Bool) → ltb 16384 (length t / 2) ≡ c → accepted n ≡ pick a (refusal 15) (pick b (pick c (refusal 2) (accepted (length t / 2))) (refusal 14))
          → (n ≡ length (pick a [] (pick b (pick c [] (line_bytes t)) []))) × (n ≤ 16384)
          × (pick a out (pick b (pick c out (line_bytes t ++ drop (length t / 2) out)) out) ≡ pick a [] (pick b (pick c [] (line_bytes t)) []) ++ drop (length (pick a [] (pick b (pick c [] (line_bytes t)) []))) out)
      go true b c l h = absurd (true≢false (sym (ap (λ r. r.refused) h)))
      go false true true l h = absurd (true≢false (sym (ap (λ r. r.refused) h)))
      go false true false l h =
          let i : n ≡ length t / 2 = ap (λ r. r.value) h in
          (i ∙ sym (length-tab (byte_at t) (length t / 2)), omega (arith, ltb-false 16384 (length t / 2) l), ap (λ m. line_bytes t ++ drop m out) (sym (length-tab (byte_at t) (length t / 2))))
      go false false c l h = absurd (true≢false (sym (ap (λ r. r.refused) h)))

  -- the same of the number that stands for a refused line
  pub bytes_or_none : (r : Result ℕ Refusal) → reply_of r ≡ line_reply t out → (x : List ℕ) → x ≡ line_leaves t out
      → ((result_unwrap_or r 0 ≡ length (code_bytes t)) × (result_unwrap_or r 0 ≤ 16384)) × (x ≡ code_bytes t ++ drop (length (code_bytes t)) out)
  bytes_or_none (Ok n) e x j = let b = bytes_read n e in ((b.0, b.1), j ∙ b.2)
  bytes_or_none (Err k) e x j = let b = bytes-refused (number_of k) e in rw b.0 ((refl, omega arith), j ∙ b.1)

header_good : (s : List ℕ) (h : Numbers) → good h ≡ numbers_of (parse s) → true ≡ accepts s
unfolding accepts
header_good s h e = go (parse s) e
  where
    go : (r : Read Code) → good h ≡ numbers_of r → true ≡ is_good r
    go (good C) k = refl
    go (bad n) k = let z : ◌≡◌ {A = ℕ} 0 1 = cc in absurd (omega arith)

header_bad : (s : List ℕ) (n : ℕ) → bad n ≡ numbers_of (parse s) → false ≡ accepts s
unfolding accepts
header_bad s n e = go (parse s) e
  where
    go : (r : Read Code) → bad n ≡ numbers_of r → false ≡ is_good r
    go (good C) k = let z : ◌≡◌ {A = ℕ} 0 1 = cc in absurd (omega arith)
    go (bad m) k = refl

pub header_says : (s : List ℕ) (h : Result LineNumbers Refusal) → header_numbers h ≡ numbers_of (parse s) → is_ok h ≡ accepts s
header_says s (Ok k) e = header_good s (numbers_in k) e
header_says s (Err r) e = header_bad s (number_of r) e

-- a list at the place behind what is there
pub put-none : (out : List ℕ) (n : ℕ) → put_at out n [] ≡ out
put-none out n = take-append-drop n out

pub put_mid : (out row x : List ℕ) (f n : ℕ) → n ≤ length row → x ≡ take n row → take f out ++ (x ++ drop (f + n - f) (drop f out)) ≡ put_at out f (take n row)
put_mid out row x f n h e =
    let a : f + n - f ≡ length (take n row) = simp length-take (omega arith) in
    rw (e, a) refl

-- what frame_line leaves in a row
pub row-long : (l o row : List ℕ) (n : ℕ) → n ≡ length l → row ≡ l ++ drop (length l) o → n ≤ length row
row-long l o row n h e = rw e (simp length-append (omega arith))

pub row-front : (l o row : List ℕ) (n : ℕ) → n ≡ length l → row ≡ l ++ drop (length l) o → take n row ≡ l
row-front l o row n h e = rw e (take_at l (drop (length l) o) n (sym h))

-- the code line, once it is read
module _ (t c c' : List ℕ) (n : ℕ) (count : n ≡ length (code_bytes t)) (leaves : c' ≡ code_bytes t ++ drop (length (code_bytes t)) c) where
  pub code-front : take n c' ≡ code_bytes t
  code-front = row-front (code_bytes t) c c' n count leaves

  pub accepted_turn : (out : List ℕ) (full : ℕ) → accepts (take n c') ≡ true
      → (n ≡ pick (accepts (code_bytes t)) (length (code_bytes t)) 0) × (false ≡ not (accepts (code_bytes t))) × (full ≡ full + length (code_out (read_code t))) × (out ≡ put_at out full (code_out (read_code t)))
  accepted_turn out full e =
      let a : accepts (code_bytes t) ≡ true = rw code-front at e in
      rw (a, accepted-out t a) (count, refl, omega arith, sym (put-none out full))

  pub refused-front : accepts (take n c') ≡ false → code_out (read_code t) ≡ frame_line (take n c') t
  refused-front e = let a : accepts (code_bytes t) ≡ false = rw code-front at e in rw code-front (refused-out t a)

  pub refused_turn : (out out' : List ℕ) (full f : ℕ) → accepts (take n c') ≡ false → f ≡ full + length (frame_line (take n c') t) → out' ≡ put_at out full (frame_line (take n c') t)
      → (0 ≡ pick (accepts (code_bytes t)) (length (code_bytes t)) 0) × (true ≡ not (accepts (code_bytes t))) × (f ≡ full + length (code_out (read_code t))) × (out' ≡ put_at out full (code_out (read_code t)))
  refused_turn out out' full f e h k =
      let a : accepts (code_bytes t) ≡ false = rw code-front at e in
      rw (a, refused-front e) (refl, refl, h, k)

-- a front of a buffer, whatever the number
pub least-front : (n m k : ℕ) (l : List ℕ) → m ≡ min n k → length l ≡ k → take m l ≡ take n l
least-front n m k l e h =
    elim (dec_le n k) [
      | yes i ↦ let a : m ≡ n = omega arith in rw a refl
      | no i ↦ let a : take m l ≡ l = take_all m l (omega arith) in a ∙ sym (take_all n l (omega arith))
    ]

-- the end of a line, in the state's numbers: n bytes of the line l, k of the code line in c
module _ (n k : ℕ) (en : Bool) (l c : List ℕ) (m : ℕ) (least : m ≡ min n 32769) (long : length l ≡ 32769) (runs : en ≡ false) where
  abbrev here : Held
  here = record { len = n; code = k; over = en; line = l; bytes = c }

  line-front : take m l ≡ take n l
  line-front = least-front n m 32769 l least long

  pub first_out : k ≡ 0 → line_finished_out (kept_of here) ≡ code_out (read_code (take m l))
  unfolding line_finished_out
  first_out h =
      let e : eqb k 0 ≡ true = eq-eqb k 0 h in
      rw (runs, e, line-front) refl

  pub first-held : k ≡ 0 → (a b : ℕ) (o : Bool) (c' : List ℕ) → a ≡ 0 → b ≡ pick (accepts (code_bytes (take m l))) (length (code_bytes (take m l))) 0
      → o ≡ not (accepts (code_bytes (take m l))) → c' ≡ code_bytes (take m l) ++ drop (length (code_bytes (take m l))) c
      → ◌≡◌ {A = Held} (record { len = a; code = b; over = o; line = l; bytes = c' }) (finished_held here)
  first-held h a b o c' ea eb eo ec =
      let e : eqb k 0 ≡ true = eq-eqb k 0 h in
      rw (ea, eb, eo, ec, line-front, e) refl

  pub later-out : (k ≡ 0 → ⊥) → (j : ℕ) → j ≡ min k 16384 → length c ≡ 16384 → line_finished_out (kept_of here) ≡ frame_line (take j c) (take m l)
  unfolding line_finished_out
  later-out h j i r =
      let e : eqb k 0 ≡ false = ne_eqb k 0 h in
      let f : take j c ≡ take k c = least-front k j 16384 c i r in
      rw (runs, e, line-front, f) refl

  pub later-held : (k ≡ 0 → ⊥) → ◌≡◌ {A = Held} (record { len = 0; code = k; over = en; line = l; bytes = c }) (finished_held here)
  later-held h = let e : eqb k 0 ≡ false = ne_eqb k 0 h in rw (runs, e) refl

pub add_none : (f : ℕ) (x : List ℕ) → x ≡ [] → f ≡ f + length x
add_none f x e = rw e (omega arith)

pub put-nothing : (out : List ℕ) (f : ℕ) (x : List ℕ) → x ≡ [] → out ≡ put_at out f x
put-nothing out f x e = rw e (sym (put-none out f))

-- a list put behind another one
pub put-more : (o x y : List ℕ) → put_at (put_at o 0 x) (length x) y ≡ put_at o 0 (x ++ y)
put-more o x y =
    let d : List ℕ = drop (length x) o in
    let a : take (length x) (x ++ d) ≡ x = take_at x d (length x) refl in
    let b : drop (length x) (x ++ d) ≡ d = drop_at x d (length x) refl in
    let e : drop (length y) d ≡ drop (length (x ++ y)) o = drop-drop (length y) (length x) o ∙ ap (λ m. drop m o) (sym (length-append x y)) in
    rw (a, b, e) (sym (append_assoc x y (drop (length (x ++ y)) o)))

pub fed_held-more : (h : Held) (s t : List ℕ) → fed_held h (s ++ t) ≡ fed_held (fed_held h s) t
unfolding fed_held
fed_held-more h [] t = refl
fed_held-more h (b ∷ s) t = fed_held-more (step_held h b) s t

-- the loop over a block
module _ (h : Held) (o : List ℕ) (s : List ℕ) where
  pub loop_start : (h ≡ fed_held h (take 0 s)) × (0 ≡ length (fed_out (kept_of h) (take 0 s))) × (o ≡ put_at o 0 (fed_out (kept_of h) (take 0 s)))
  unfolding fed_held fed_out
  loop_start = (refl, refl, refl)

-- what is said of a part is said of another one that is the same
pub part_same : (h : Held) (o a b : List ℕ) (x : Held) (f : ℕ) (u : List ℕ) → a ≡ b → x ≡ fed_held h a → f ≡ length (fed_out (kept_of h) a) → u ≡ put_at o 0 (fed_out (kept_of h) a)
    → (x ≡ fed_held h b) × ((f ≡ length (fed_out (kept_of h) b)) × (u ≡ put_at o 0 (fed_out (kept_of h) b)))
part_same h o a b x f u e i j k = rw (← e) (i, (j, k))

-- the end of the input
module _ (n k : ℕ) (en : Bool) (l c : List ℕ) (long : length l ≡ 32769) where
  abbrev last : Held
  last = record { len = n; code = k; over = en; line = l; bytes = c }

  pub close_none : quiet en k n ≡ true → (close_out (kept_of last) ≡ []) × (c ≡ (close_held last).bytes)
  unfolding quiet close_out close_held
  close_none h = go en (eqb k 0) (eqb n 0) refl h
    where
      go : (o t e : Bool) → eqb n 0 ≡ e → pick o true (pick t false e) ≡ true
          → (close_out (pick o ended (pick t (first (take n l)) (later (take k c) (take n l)))) ≡ [])
          × (c ≡ (pick o (record { len = n; code = k; over = en; line = l; bytes = c }) (pick t (finished_held last) last)).bytes)
      go true t e i j = (refl, refl)
      go false true e i j = absurd (true≢false (sym j))
      go false false true i j = let z : n ≡ 0 = eqb-true n 0 i in rw z (refl, refl)
      go false false false i j = absurd (true≢false (sym j))

  pub close_some : quiet en k n ≡ false → (en ≡ false) × (close_out (kept_of last) ≡ line_finished_out (kept_of last)) × ((finished_held last).bytes ≡ (close_held last).bytes)
  unfolding quiet close_out line_finished_out close_held
  close_some h = go en (eqb k 0) (eqb n 0) refl refl refl h
    where
      some : (m : ℕ) (x : List ℕ) → eqb m 0 ≡ false → 0 < length x → close_out (later (take k c) (take m x)) ≡ line_finished_out (later (take k c) (take m x))
      some zero x i j = absurd (true≢false i)
      some (suc m) [] i j = absurd (omega arith)
      some (suc m) (b ∷ x) i j = append-nil (frame_line (take k c) (b ∷ take m x))

      go : (o t e : Bool) → en ≡ o → eqb k 0 ≡ t → eqb n 0 ≡ e → pick o true (pick t false e) ≡ false
          → (o ≡ false)
          × (close_out (pick o ended (pick t (first (take n l)) (later (take k c) (take n l)))) ≡ line_finished_out (pick o ended (pick t (first (take n l)) (later (take k c) (take n l)))))
          × ((pick t (code_held last (take n l)) (record { len = 0; code = k; over = false; line = l; bytes = c })).bytes ≡ (pick o last (pick t (pick t (code_held last (take n l)) (record { len = 0; code = k; over = false; line = l; bytes = c })) last)).bytes)
      go true t e a i d j = absurd (true≢false j)
      go false true e a i d j = (refl, refl, refl)
      go false false true a i d j = absurd (true≢false j)
      go false false false a i d j = (refl, some n l d (omega arith), refl)

-- turn, from an empty output
pub turn_few : (k : Session) → 0 + length (line_finished_out k) ≤ 517
turn_few k = omega (arith, (turn_short k).few)
