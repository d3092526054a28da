-- A whole input through `feed` and `close`: from the first state, whatever the buffers hold, the outputs end to end are the specification's.
use mathlib.Core.Path.{◌≡◌, refl, sym, ap, ap₂, ◌∙◌}
use mathlib.Core.List.{List, [], ◌∷◌, ◌++◌}
use Prim.Native.Nat.{ℕ}
use lib.ListN.{length, take, drop}
use lib.Seq.{take_at}
use Rattle.machine.specs.Program.{output_of}
use Rattle.machine.specs.inner.Blocks.{fed_out, close_out, fed_all, fed_all_out, all_blocks}
use Rattle.machine.proofs.Program.{blocks_output}
use Rattle.text.specs.inner.Held.{Held, held_in, kept_of, put_at, fed_held}
use Rattle.text.specs.Calls.{Call, Closes, Calls, held_after, blocks_of, printed_by, begin}
use Rattle.text.proofs.Laws.{fed-stands, fed-line}

-- what block after block leaves held, and what the calls print
unfoldable pub held_all : Held → List (List ℕ) → Held
held_all h [] = h
held_all h (s ∷ bs) = held_all (fed_held h s) bs

unfoldable pub held_out : Held → List (List ℕ) → List ℕ
held_out h [] = []
held_out h (s ∷ bs) = fed_out (kept_of h) s ++ held_out (fed_held h s) bs

all_stand : (h : Held) (bs : List (List ℕ)) → length h.line ≡ 32769 → (kept_of (held_all h bs) ≡ fed_all (kept_of h) bs) × (held_out h bs ≡ fed_all_out (kept_of h) bs)
unfolding held_all held_out fed_all fed_all_out
all_stand h [] e = (refl, refl)
all_stand h (s ∷ bs) e =
    let r = all_stand (fed_held h s) bs (fed-line h s ∙ e) in
    let k = fed-stands h s e in
    (r.0 ∙ ap (λ x. fed_all x bs) k, ap (λ x. fed_out (kept_of h) s ++ x) (r.1 ∙ ap (λ x. fed_all_out x bs) k))

pub session : (input : List ℕ) (bs : List (List ℕ)) (line code : List ℕ) → length line ≡ 32769 → all_blocks bs ≡ take 4294967295 input
    → held_out (begin line code) bs ++ close_out (kept_of (held_all (begin line code) bs)) ≡ output_of input
session input bs line code h e =
    let a = all_stand (begin line code) bs h in
    ap₂ (λ x y. x ++ close_out y) a.1 a.0 ∙ blocks_output input bs e

front : (o out x : List ℕ) (n : ℕ) → n ≡ length x → out ≡ put_at o 0 x → take n out ≡ x
front o out x n e h = rw h (take_at x (drop (length x) o) n (sym e))

calls-held : (h : Held) (cs : List Call) → Calls h cs → (held_after h cs ≡ held_all h (blocks_of cs)) × (printed_by cs ≡ held_out h (blocks_of cs))
unfolding Calls held_after blocks_of printed_by held_all held_out
calls-held h [] k = (refl, refl)
calls-held h (c ∷ cs) k =
    let f = k.0 in
    let r = calls-held (held_in c.state c.line c.code) cs k.1 in
    let a = front c.before c.out (fed_out (kept_of h) c.block) c.state.full f.count f.prints in
    (r.0 ∙ ap (λ x. held_all x (blocks_of cs)) f.keeps, ap₂ (λ x y. x ++ y) a (r.1 ∙ ap (λ x. held_out x (blocks_of cs)) f.keeps))

-- the theorem of the calls: whatever the buffers held, and however the input was cut
pub calls_output : (input : List ℕ) (cs : List Call) (line code : List ℕ) → length line ≡ 32769 → Calls (begin line code) cs → all_blocks (blocks_of cs) ≡ take 4294967295 input
    → (before : List ℕ) (n : ℕ) (code' out : List ℕ) → Closes (held_after (begin line code) cs) before n code' out
    → printed_by cs ++ take n out ≡ output_of input
calls_output input cs line code h k e before n code' out q =
    let a = calls-held (begin line code) cs k in
    let b = front before out (close_out (kept_of (held_after (begin line code) cs))) n q.count q.prints in
    ap₂ (λ x y. x ++ y) a.1 (b ∙ ap (λ x. close_out (kept_of x)) a.0) ∙ session input (blocks_of cs) line code h e
