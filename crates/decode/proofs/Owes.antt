-- What is still to be printed, block by block.
use Rattle.std.proofs.Common.{◌≡◌, ◌≤◌, ◌-◌, ◌+◌, ◌++◌, List, [], ◌∷◌, ℕ, length, take, drop, Some, None, Ok, Err, arith}
use Rattle.std.specs.Prelude.{Option, Result, IfSome, OnOk}
use Rattle.std.specs.Io.KnownBytes.{Appends, Consumes, Keeps}
use mathlib.Core.Path.{refl, sym, ap, ap₂, ◌∙◌}
use mathlib.Core.List.{append_assoc, append-nil}
use lib.Seq.{take_at}
use Rattle.std.proofs.Math.Seq.{take-append-add}
use Rattle.machine.specs.inner.Blocks.{Session, fresh, ended, fed, fed_out, close_out, fed_all, fed_all_out}
use Rattle.machine.proofs.Program.{fed-more, ended_silent, blocks_output}
use Rattle.machine.specs.Program.{output_of}
use Rattle.text.specs.inner.Held.{Held, kept_of, put_at}
use Rattle.decode.specs.Owed.{rest_out, owed}

front : (o out x : List ℕ) (n : ℕ) → n ≡ length x → out ≡ put_at o 0 x → take n out ≡ x
front o out x n e h = rw h (take_at x (drop (length x) o) n (sym e))

-- the first bytes of two lists end to end, past the first list
take_past : (xs ys : List ℕ) (m : ℕ) → length xs ≤ m → take m (xs ++ ys) ≡ xs ++ take (m - length xs) ys
take_past xs ys m h =
    let e : m ≡ length xs + (m - length xs) = omega arith in
    ap (λ j. take j (xs ++ ys)) e ∙ take-append-add xs ys (m - length xs)

-- a block, and what follows it
rest_step : (k : Session) (bs xs : List ℕ) (left : ℕ) → length bs ≤ left
    → rest_out k left (bs ++ xs) ≡ fed_out k bs ++ rest_out (fed k bs) (left - length bs) xs
rest_step k bs xs left h =
    let t = take (left - length bs) xs in
    let m = fed-more k bs t in
    rw (take_past bs xs left h) (ap₂ (λ x y. x ++ close_out y) m.1 m.0 ∙ append_assoc (fed_out k bs) (fed_out (fed k bs) t) (close_out (fed (fed k bs) t)))

-- once it has ended, nothing is to come
pub over : (k : Session) → k ≡ ended → (a b : ℕ) (xs : List ℕ) → rest_out k a xs ≡ rest_out k b xs
over k e a b xs =
    let p = ended_silent (take a xs) in
    let q = ended_silent (take b xs) in
    rw e (rw (p.0, p.1, q.0, q.1) refl)

-- one block that is read, fed and written
pub step : (r r' w w' : Option (List ℕ)) (h : Held) (bs o out : List ℕ) (left full : ℕ) (k' : Session)
    → Consumes r r' bs → Appends w w' (take full out) → full ≡ length (fed_out (kept_of h) bs) → out ≡ put_at o 0 (fed_out (kept_of h) bs)
    → k' ≡ fed (kept_of h) bs → length bs ≤ left
    → Keeps (owed r w (kept_of h) left) (owed r' w' k' (left - length bs))
step (Some xs) (Some xs') (Some ws) (Some ws') h bs o out left full k' c a f p e m =
    let F = fed_out (kept_of h) bs in
    let q : ws' ≡ ws ++ F = a ∙ ap (λ z. ws ++ z) (front o out F full f p) in
    rw (q, e, c)
    (append_assoc ws F (rest_out (fed (kept_of h) bs) (left - length bs) xs') ∙ ap (λ z. ws ++ z) (sym (rest_step (kept_of h) bs xs' left m)))
step (Some xs) (Some xs') (Some ws) None h bs o out left full k' c a f p e m = a
step (Some xs) (Some xs') None w' h bs o out left full k' c a f p e m = tt
step (Some xs) None w w' h bs o out left full k' c a f p e m = absurd c
step None r' w w' h bs o out left full k' c a f p e m = tt

-- where the program has ended, no more is read
pub stop : (old r w : Option (List ℕ)) (k : Session) (a : ℕ) → k ≡ ended → Keeps old (owed r w k a) → Keeps old (owed r w k 0)
stop None r w k a e h = tt
stop (Some ys) (Some xs) (Some ws) k a e h = ap (λ z. ws ++ z) (over k e 0 a xs) ∙ h
stop (Some ys) (Some xs) None k a e h = h
stop (Some ys) None w k a e h = h

-- at the start all of the input is still to come: it is one block
whole_input : (xs : List ℕ) → rest_out fresh 4294967295 xs ≡ output_of xs
unfolding fed_all fed_all_out
whole_input xs =
    let b = take 4294967295 xs in
    ap (λ z. z ++ close_out (fed fresh b)) (sym (append-nil (fed_out fresh b))) ∙ blocks_output xs (b ∷ []) (append-nil b)

-- the end of the input, or of what may be read
at_end : (k : Session) (xs : List ℕ) → rest_out k 0 xs ≡ close_out k
unfolding fed fed_out
at_end k xs = refl

whole : (r r' w w' w'' : Option (List ℕ)) (k : Session) → Keeps (owed r w fresh 4294967295) (owed r' w' k 0) → Appends w' w'' (close_out k)
    → IfSome r (λ xs. Appends w w'' (output_of xs))
whole None r' w w' w'' k h a = tt
whole (Some xs) r' None w' w'' k h a = tt
whole (Some xs) (Some xs') (Some ws) (Some ws') (Some ws'') k h a =
    a ∙ ap (λ z. ws' ++ z) (sym (at_end k xs')) ∙ h ∙ ap (λ z. ws ++ z) (whole_input xs)
whole (Some xs) (Some xs') (Some ws) (Some ws') None k h a = a
whole (Some xs) (Some xs') (Some ws) None w'' k h a = absurd h
whole (Some xs) None (Some ws) w' w'' k h a = absurd h

-- the same, where nothing failed
pub whole_done : {E : Type 0} (d : Result (Unit {0}) E) (r r' w w' w'' : Option (List ℕ)) (k : Session) (left : ℕ) → left ≡ 0
    → OnOk d (Keeps (owed r w fresh 4294967295) (owed r' w' k left)) → Appends w' w'' (close_out k)
    → OnOk d (IfSome r (λ xs. Appends w w'' (output_of xs)))
whole_done (Ok x) r r' w w' w'' k left z h a = whole r r' w w' w'' k (rw (sym z) h) a
whole_done (Err e) r r' w w' w'' k left z h a = tt
