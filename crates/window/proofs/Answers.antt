-- Every list of writes from idle: the numbers of refusals, then what each write keeps.
use mathlib.Core.Path.{◌≡◌, refl, sym, ◌∙◌}
use mathlib.Core.Bool.{Bool, true, false, not, ◌&&◌, ◌||◌}
use mathlib.Core.Logic.{◌≢◌, ◌⊎◌, inl, inr}
use mathlib.Core.List.{List, [], ◌∷◌}
use Prim.Native.Nat.{ℕ, zero, suc, ◌+◌, ◌*◌, ◌≤◌, ◌<◌}
use native.Mathlib.Decide.{ℕ_discrete}
use native.Mathlib.Omega.{arith}
use lib.Bits.{or_lt}
use lib.Dec.{eqb, ltb, leb}
use lib.ListN.{length, get_or}
use borrow.Author.Tests.{eqb-true, ne_eqb, leb-false}
use Rattle.trellis.specs.Lists.{pick, all_to}
use Rattle.trellis.specs.Refusals.{Test, when, unless, refused_by}
use Rattle.trellis.specs.Rules.{size_of}
use Rattle.machine.specs.CodeLine.{Read, good, bad, then, Edge, Code, edge, word_at, edge_tests, read_edge, edges, check_tests, check_at, checks, head_tests, parse, size, zero_in, frame_fault}
use Rattle.machine.specs.Machine.{settled, used}
use Rattle.machine.specs.Decoding.{Buffers, admitted_under, admitted}
use Rattle.machine.specs.inner.Faults.{room_fault}
use Rattle.machine.proofs.Faults.{admitted-by}
use Rattle.machine.specs.Moments.{loading_under, loading, costs_ok, store_ok, resumable_under, resumable, further, state_after, iterating_under, iterating}
use Rattle.window.specs.Window.{Registers, idle, read, Window, bit_for, setting, entering, taking, load, iterate, masked, cleared, second, command, write}
use Rattle.window.specs.Writes.{Bytes, Lending, step, since, RegistersShow, Changes, EveryList}
use Rattle.machine.proofs.Early.{limit-read}

-- the number of a refusal is one of the list's
abbrev Known : {A : Type 0} → Read A → Type 0
Known (good a) = Unit {0}
Known (bad k) = (2 ≤ k) × (k ≤ 19)

known_then : {A B : Type 0} (r : Read A) (k : A → Read B) → Known r → ((a : A) → Known (k a)) → Known (then r k)
known_then (good a) k h f = f a
known_then (bad n) k h f = h

known_pick : {A : Type 0} (b : Bool) (x y : Read A) → Known x → Known y → Known (pick b x y)
known_pick true x y h k = h
known_pick false x y h k = k

-- a table of tests with their numbers
abbrev AllKnown : List Test → Type 0
AllKnown [] = Unit {0}
AllKnown (when b k ∷ l) = ((2 ≤ k) × (k ≤ 19)) × AllKnown l
AllKnown (unless b k ∷ l) = ((2 ≤ k) × (k ≤ 19)) × AllKnown l

known_by : {A : Type 0} (l : List Test) (y : Read A) → AllKnown l → Known y → Known (refused_by l bad y)
known_by [] y h k = k
known_by (when b n ∷ l) y h k = known_pick b (bad n) (refused_by l bad y) h.0 (known_by l y h.1 k)
known_by (unless b n ∷ l) y h k = known_pick b (refused_by l bad y) (bad n) (known_by l y h.1 k) h.0

known_edge : (s : List ℕ) (at n q low : ℕ) → Known (read_edge s at n q low)
unfolding read_edge
known_edge s at n q low =
    known_by (edge_tests s at n q low) (good (edge (word_at s at) (get_or s (at + 2) 0)))
    ((omega arith, omega arith), ((omega arith, omega arith), ((omega arith, omega arith), ((omega arith, omega arith), tt)))) tt

known_edges : (c : ℕ) (s : List ℕ) (at n q low : ℕ) → Known (edges c s at n q low)
unfolding edges
known_edges zero s at n q low = tt
known_edges (suc c) s at n q low =
    known_then (read_edge s at n q low) _ (known_edge s at n q low) (λ e. known_then (edges c s (at + 3) n q (e.column + 1)) _ (known_edges c s (at + 3) n q (e.column + 1)) (λ es. tt))

known_check : (s : List ℕ) (at n q total : ℕ) → Known (check_at s at n q total)
unfolding check_at
known_check s at n q total =
    known_by (check_tests s at total) (edges (get_or s at 0) s (at + 1) n q 0)
    ((omega arith, omega arith), ((omega arith, omega arith), ((omega arith, omega arith), ((omega arith, omega arith), ((omega arith, omega arith), tt)))))
    (known_edges (get_or s at 0) s (at + 1) n q 0)

known_checks : (c : ℕ) (s : List ℕ) (at n q total : ℕ) → Known (checks c s at n q total)
unfolding checks
known_checks zero s at n q total = known_pick (eqb at (length s)) (good []) (bad 5) tt (omega arith, omega arith)
known_checks (suc c) s at n q total =
    known_then (check_at s at n q total) _ (known_check s at n q total)
    (λ es. known_then (checks c s (at + 1 + 3 * get_or s at 0) n q (total + get_or s at 0)) _ (known_checks c s (at + 1 + 3 * get_or s at 0) n q (total + get_or s at 0)) (λ cs. tt))

known_parse : (s : List ℕ) → Known (parse s)
unfolding parse
known_parse s =
    let q : ℕ = size_of (get_or s 0 0) in
    let n : ℕ = word_at s 1 in
    let m : ℕ = get_or s 3 0 in
    let g : ℕ = get_or s 4 0 in
    let i : ℕ = get_or s 5 0 in
    known_by (head_tests s)
    (then (checks m s 6 n q 0) (λ (cs : List (List Edge)). good (record { first = get_or s 0 0; columns = n; scale = g; limit = i; checks = cs })))
    ((omega arith, omega arith), ((omega arith, omega arith), ((omega arith, omega arith), ((omega arith, omega arith), ((omega arith, omega arith), ((omega arith, omega arith), ((omega arith, omega arith), ((omega arith, omega arith), ((omega arith, omega arith), tt)))))))))
    (known_then (checks m s 6 n q 0) _ (known_checks m s 6 n q 0) (λ cs. tt))

known_fault : (C : Code) (f : List ℕ) → (frame_fault C f ≡ 0) ⊎ ((2 ≤ frame_fault C f) × (frame_fault C f ≤ 19))
unfolding frame_fault
known_fault C f = go (eqb (length f) (C.columns * size C)) (all_to (zero_in (size C) f) C.columns)
  where
    go : (a b : Bool) → (◌≡◌ {A = ℕ} (pick a (pick b 0 13) 12) 0) ⊎ ((2 ≤ pick a (pick b 0 13) 12) × (pick a (pick b 0 13) 12 ≤ 19))
    go true true = inl refl
    go true false = inr (omega arith, omega arith)
    go false b = inr (omega arith, omega arith)

known_room : (C : Code) (b : Buffers) → (room_fault C b ≡ 0) ⊎ ((2 ≤ room_fault C b) × (room_fault C b ≤ 19))
unfolding room_fault
known_room C b = go (ltb (length b.symbols) C.columns) (ltb (length b.costs) (C.columns * size C)) (ltb (length b.store) (used C)) (ltb (length b.margins) C.columns)
  where
    go : (i j k l : Bool) → (◌≡◌ {A = ℕ} (pick i 2 (pick j 3 (pick k 4 (pick l 19 0)))) 0) ⊎ ((2 ≤ pick i 2 (pick j 3 (pick k 4 (pick l 19 0)))) × (pick i 2 (pick j 3 (pick k 4 (pick l 19 0))) ≤ 19))
    go true j k l = inr (omega arith, omega arith)
    go false true k l = inr (omega arith, omega arith)
    go false false true l = inr (omega arith, omega arith)
    go false false false true = inr (omega arith, omega arith)
    go false false false false = inl refl

known_number : {A : Type 0} (k : ℕ) (y : Read A) → (k ≡ 0) ⊎ ((2 ≤ k) × (k ≤ 19)) → Known y → Known (pick (eqb k 0) y (bad k))
known_number k y (inl e) h = rw e h
known_number k y (inr l) h = known_pick (eqb k 0) y (bad k) h l

known_admitted : (code f : List ℕ) (b : Buffers) → Known (admitted code f b)
unfolding admitted
known_admitted code f b = go (parse code) (known_parse code)
  where
    go : (r : Read Code) → Known r → Known (admitted_under r f b)
    go (bad k) h = h
    go (good C) h = rw (admitted-by C f b) (known_number (frame_fault C f) _ (known_fault C f) (known_number (room_fault C b) (good C) (known_room C b) tt))

known_resumable : (code f : List ℕ) (t : ℕ) (b : Buffers) → Known (resumable code f t b)
unfolding resumable
known_resumable code f t b = go (admitted code f b) (known_admitted code f b)
  where
    go : (r : Read Code) → Known r → Known (resumable_under r t b)
    go (bad k) h = h
    go (good C) h =
        known_pick (costs_ok C b.costs) (pick (eqb t 0 || store_ok C b.store) (good C) (bad 16)) (bad 13)
        (known_pick (eqb t 0 || store_ok C b.store) (good C) (bad 16) tt (omega arith, omega arith)) (omega arith, omega arith)

-- bytes 1 to 3 together
record Fit (s k t : ℕ) : Type 0 where
  pub states : s ≤ 4
  pub number : s ≡ 4 → (2 ≤ k) × (k ≤ 19)
  pub no_number : s ≢ 4 → k ≡ 0
  pub idle-none : s ≡ 0 → t ≡ 0
  pub refused_none : s ≡ 4 → t ≡ 0
  pub missed_some : s ≡ 3 → 0 < t
  pub running-low : s ≡ 1 → t < 255
  pub low : t ≤ 255

fit_idle : Fit 0 0 0
fit_idle =
    record {
      states = omega arith;
      number = λ e. absurd (omega arith);
      no_number = λ n. refl;
      idle-none = λ e. refl;
      refused_none = λ e. refl;
      missed_some = λ e. absurd (omega arith);
      running-low = λ e. omega arith;
      low = omega arith;
    }

fit_refused : (k : ℕ) → 2 ≤ k → k ≤ 19 → Fit 4 k 0
fit_refused k l h =
    record {
      states = omega arith;
      number = λ e. (l, h);
      no_number = λ n. absurd (n refl);
      idle-none = λ e. refl;
      refused_none = λ e. refl;
      missed_some = λ e. absurd (omega arith);
      running-low = λ e. absurd (omega arith);
      low = omega arith;
    }

-- an accepted load or iteration: 2 if the test holds, else 3 or 1
fit_going : (a b : Bool) (t : ℕ) → t ≤ 255 → (b ≡ true → 0 < t) → (b ≡ false → t < 255) → Fit (pick a 2 (pick b 3 1)) 0 t
fit_going true b t h i j =
    record {
      states = omega arith;
      number = λ e. absurd (omega arith);
      no_number = λ n. refl;
      idle-none = λ e. absurd (omega arith);
      refused_none = λ e. absurd (omega arith);
      missed_some = λ e. absurd (omega arith);
      running-low = λ e. absurd (omega arith);
      low = h;
    }
fit_going false true t h i j =
    record {
      states = omega arith;
      number = λ e. absurd (omega arith);
      no_number = λ n. refl;
      idle-none = λ e. absurd (omega arith);
      refused_none = λ e. absurd (omega arith);
      missed_some = λ e. i refl;
      running-low = λ e. absurd (omega arith);
      low = h;
    }
fit_going false false t h i j =
    record {
      states = omega arith;
      number = λ e. absurd (omega arith);
      no_number = λ n. refl;
      idle-none = λ e. absurd (omega arith);
      refused_none = λ e. absurd (omega arith);
      missed_some = λ e. absurd (omega arith);
      running-low = λ e. j refl;
      low = h;
    }

record Fits (r : Registers) : Type 0 where
  pub fit : Fit r.state r.refusal r.iterations
  pub two-bits : r.pending < 4
  pub mask_low : r.mask ≤ 255

bit_low : (s : ℕ) → bit_for s < 4
bit_low zero = omega arith
bit_low (suc zero) = omega arith
bit_low (suc (suc zero)) = omega arith
bit_low (suc (suc (suc zero))) = omega arith
bit_low (suc (suc (suc (suc zero)))) = omega arith
bit_low (suc (suc (suc (suc (suc s))))) = omega arith

setting-low : (p s : ℕ) → p < 4 → setting p (bit_for s) < 4
unfolding setting
setting-low p s h = or_lt 2 p (bit_for s) h (bit_low s)

entering-fits : (s k t : ℕ) (r : Registers) → Fits r → Fit s k t → Fits (entering s k t r)
entering-fits s k t r F f = record { fit = f; two-bits = setting-low r.pending s F.two-bits; mask_low = F.mask_low }

-- the code of an accepted load or iteration is the one that is read
admitted-line : (code f : List ℕ) (b : Buffers) (C : Code) → admitted code f b ≡ good C → parse code ≡ good C
unfolding admitted
admitted-line code f b C h = go (parse code) h
  where
    clash : (k : ℕ) → bad k ≡ good C → ⊥
    clash k e = let z : ◌≡◌ {A = ℕ} 0 1 = cc in omega arith

    go : (r : Read Code) → admitted_under r f b ≡ good C → r ≡ good C
    go (bad k) h = absurd (clash k h)
    go (good D) h = at (eqb (frame_fault D f) 0) (eqb (room_fault D b) 0) (sym (admitted-by D f b) ∙ h)
      where
        at : (i j : Bool) → pick i (pick j (good D) (bad (room_fault D b))) (bad (frame_fault D f)) ≡ good C → good D ≡ good C
        at true true h = h
        at true false h = absurd (clash _ h)
        at false j h = absurd (clash _ h)

resumable-line : (code f : List ℕ) (t : ℕ) (b : Buffers) (C : Code) → resumable code f t b ≡ good C → parse code ≡ good C
unfolding resumable
resumable-line code f t b C h = go (admitted code f b) refl h
  where
    clash : (k : ℕ) → bad k ≡ good C → ⊥
    clash k e = let z : ◌≡◌ {A = ℕ} 0 1 = cc in omega arith

    at : (i j : Bool) (D : Code) → parse code ≡ good D → pick i (pick j (good D) (bad 16)) (bad 13) ≡ good C → parse code ≡ good C
    at true true D e h = e ∙ h
    at true false D e h = absurd (clash _ h)
    at false j D e h = absurd (clash _ h)

    go : (r : Read Code) → admitted code f b ≡ r → resumable_under r t b ≡ good C → parse code ≡ good C
    go (bad k) e h = absurd (clash k h)
    go (good D) e h = at (costs_ok D b.costs) (eqb t 0 || store_ok D b.store) D (admitted-line code f b D e) h

module _ (code f : List ℕ) (bytes : Bytes code) where
  load_fits : (w : Window) → Fits w.registers → Fits (load code f w).registers
  unfolding loading
  load_fits w F = go (admitted code f w.buffers) (known_admitted code f w.buffers)
    where
      go : (r : Read Code) → Known r → Fits (taking (loading_under r f w.buffers) w.registers).registers
      go (bad k) h = entering-fits 4 k 0 w.registers F (fit_refused k h.0 h.1)
      go (good C) h = entering-fits (pick (settled C f) 2 1) 0 0 w.registers F (fit_going (settled C f) false 0 (omega arith) (λ e. absurd (clash e)) (λ e. omega arith))
        where
          clash : false ≡ true → ⊥
          clash e = let z : ◌≡◌ {A = ℕ} 0 1 = cc in omega arith

  iterate-fits : (w : Window) → Fits w.registers → w.registers.state ≡ 1 → Fits (iterate code f w).registers
  unfolding iterating
  iterate-fits w F s = go (resumable code f w.registers.iterations w.buffers) refl (known_resumable code f w.registers.iterations w.buffers)
    where
      go : (r : Read Code) → resumable code f w.registers.iterations w.buffers ≡ r → Known r → Fits (taking (iterating_under r w.registers.iterations w.buffers) w.registers).registers
      go (bad k) e h = entering-fits 4 k 0 w.registers F (fit_refused k h.0 h.1)
      go (good C) e h =
          let l : C.limit ≤ 255 = omega (arith, limit-read code C (resumable-line code f w.registers.iterations w.buffers C e), bytes 5) in
          let d : w.registers.iterations < 255 = F.fit.running-low s in
          let t : ℕ = w.registers.iterations + 1 in
          entering-fits (state_after C t (further C w.registers.iterations w.buffers).costs) 0 t w.registers F
          (fit_going (settled C (further C w.registers.iterations w.buffers).costs) (leb C.limit t) t (omega arith) (λ e. omega arith) (λ e. omega (arith, leb-false C.limit t e)))

  write-fits : (a v : ℕ) → v ≤ 255 → (w : Window) → Fits w.registers → Fits (write code f a v w).registers
  unfolding write command second
  write-fits a v small w F = go (eqb a 0) (eqb v 1) (eqb v 2) (eqb v 3) (eqb a 4) (eqb w.registers.state 1) refl (eqb w.registers.iterations 255)
    where
      go : (i j k l m x : Bool) → eqb w.registers.state 1 ≡ x → (y : Bool)
          → Fits (pick i (pick j (load code f w) (pick k (pick x (pick y w (iterate code f w)) w) (pick l (cleared w) w))) (pick m (masked v w) w)).registers
      go true true k l m x e y = load_fits w F
      go true false true l m true e true = F
      go true false true l m true e false = iterate-fits w F (eqb-true _ _ e)
      go true false true l m false e y = F
      go true false false true m x e y = record { fit = F.fit; two-bits = omega arith; mask_low = F.mask_low }
      go true false false false m x e y = F
      go false j k l true x e y = record { fit = F.fit; two-bits = F.two-bits; mask_low = small }
      go false j k l false x e y = F

shows : (r : Registers) → Fits r → RegistersShow r
unfolding read
shows r F =
    record {
      byte_0 = refl;
      past_5 = past;
      states = F.fit.states;
      number = F.fit.number;
      no_number = F.fit.no_number;
      idle-none = F.fit.idle-none;
      refused_none = F.fit.refused_none;
      missed_some = F.fit.missed_some;
      running-low = F.fit.running-low;
      two-bits = F.two-bits;
      bytes = each;
    }
  where
    past : (a : ℕ) → 5 < a → get_or (0 ∷ r.state ∷ r.refusal ∷ r.iterations ∷ r.mask ∷ r.pending ∷ []) a 0 ≡ 0
    past zero h = absurd (omega arith)
    past (suc zero) h = absurd (omega arith)
    past (suc (suc zero)) h = absurd (omega arith)
    past (suc (suc (suc zero))) h = absurd (omega arith)
    past (suc (suc (suc (suc zero)))) h = absurd (omega arith)
    past (suc (suc (suc (suc (suc zero))))) h = absurd (omega arith)
    past (suc (suc (suc (suc (suc (suc a)))))) h = refl

    number-low : r.refusal ≤ 255
    number-low = elim (ℕ_discrete r.state 4) [ yes e ↦ omega (arith, F.fit.number e) | no e ↦ omega (arith, F.fit.no_number e) ]

    each : (a : ℕ) → get_or (0 ∷ r.state ∷ r.refusal ∷ r.iterations ∷ r.mask ∷ r.pending ∷ []) a 0 ≤ 255
    each zero = omega arith
    each (suc zero) = omega (arith, F.fit.states)
    each (suc (suc zero)) = number-low
    each (suc (suc (suc zero))) = F.fit.low
    each (suc (suc (suc (suc zero)))) = F.mask_low
    each (suc (suc (suc (suc (suc zero))))) = omega (arith, F.two-bits)
    each (suc (suc (suc (suc (suc (suc a)))))) = omega arith

idle-fits : Fits idle
idle-fits = record { fit = fit_idle; two-bits = omega arith; mask_low = omega arith }

since-fits : (l : List Lending) (r : Registers) → Fits r → Fits (since r l)
since-fits [] r F = F
since-fits (x ∷ l) r F = since-fits l (step r x) (write-fits x.code x.frame x.code_is_bytes x.byte x.value x.value-byte (record { registers = r; buffers = x.buffers }) F)

-- what a load and an iteration change
record Acted (w w' : Window) : Type 0 where
  pub mask : w'.registers.mask ≡ w.registers.mask
  pub pending : w'.registers.pending ≡ setting w.registers.pending (bit_for w'.registers.state)
  pub refusing : w'.registers.state ≡ 4 → w'.buffers ≡ w.buffers
  pub iterations : (w'.registers.iterations ≡ 0) ⊎ (w'.registers.iterations ≡ w.registers.iterations + 1)

not_four : (a b : Bool) → ◌≡◌ {A = ℕ} (pick a 2 (pick b 3 1)) 4 → ⊥
not_four true b e = omega arith
not_four false true e = omega arith
not_four false false e = omega arith

load-acts : (code f : List ℕ) (w : Window) → Acted w (load code f w)
unfolding loading
load-acts code f w = go (admitted code f w.buffers)
  where
    go : (r : Read Code) → Acted w (taking (loading_under r f w.buffers) w.registers)
    go (bad k) = record { mask = refl; pending = refl; refusing = λ e. refl; iterations = inl refl }
    go (good C) = record { mask = refl; pending = refl; refusing = λ e. absurd (not_four (settled C f) false e); iterations = inl refl }

iterate-acts : (code f : List ℕ) (w : Window) → Acted w (iterate code f w)
unfolding iterating
iterate-acts code f w = go (resumable code f w.registers.iterations w.buffers)
  where
    go : (r : Read Code) → Acted w (taking (iterating_under r w.registers.iterations w.buffers) w.registers)
    go (bad k) = record { mask = refl; pending = refl; refusing = λ e. refl; iterations = inl refl }
    go (good C) =
        record {
          mask = refl;
          pending = refl;
          refusing = λ e. absurd (not_four (settled C (further C w.registers.iterations w.buffers).costs) (leb C.limit (w.registers.iterations + 1)) e);
          iterations = inr refl;
        }

-- what a write changes, by the outcomes of its tests: whether it acts, writes byte 4, clears pending
record Changed (act four clear : Bool) (v : ℕ) (w w' : Window) : Type 0 where
  pub quiet : act ≡ false
      → (w'.registers.state ≡ w.registers.state) × (w'.registers.refusal ≡ w.registers.refusal) × (w'.registers.iterations ≡ w.registers.iterations) × (w'.buffers ≡ w.buffers)
  pub mask : w'.registers.mask ≡ pick four v w.registers.mask
  pub pending : w'.registers.pending ≡ pick clear 0 (pick act (setting w.registers.pending (bit_for w'.registers.state)) w.registers.pending)
  pub refusing : w'.registers.state ≡ 4 → w'.buffers ≡ w.buffers
  pub iterations : (w'.registers.iterations ≡ w.registers.iterations) ⊎ ((w'.registers.iterations ≡ 0) ⊎ (w'.registers.iterations ≡ w.registers.iterations + 1))

true_false : true ≡ false → ⊥
true_false e = let z : ◌≡◌ {A = ℕ} 0 1 = cc in omega arith

acted : (v : ℕ) (w w' : Window) → Acted w w' → Changed true false false v w w'
acted v w w' A = record { quiet = λ e. absurd (true_false e); mask = A.mask; pending = A.pending; refusing = A.refusing; iterations = inr A.iterations }

unchanged : (v : ℕ) (w : Window) → Changed false false false v w w
unchanged v w = record { quiet = λ e. (refl, refl, refl, refl); mask = refl; pending = refl; refusing = λ e. refl; iterations = inl refl }

module _ (code f : List ℕ) (v : ℕ) (w : Window) where
  changed : (i j k l m x y : Bool) → (i ≡ true → m ≡ false) → (j ≡ true → l ≡ false) → (k ≡ true → l ≡ false)
      → Changed (i && (j || (k && (x && not y)))) m (i && l) v w
      (pick i (pick j (load code f w) (pick k (pick x (pick y w (iterate code f w)) w) (pick l (cleared w) w))) (pick m (masked v w) w))
  changed true j k l true x y a b c = absurd (true_false (a refl))
  changed true true k true false x y a b c = absurd (true_false (b refl))
  changed true true k false false x y a b c = acted v w (load code f w) (load-acts code f w)
  changed true false true true false x y a b c = absurd (true_false (c refl))
  changed true false true false false true true a b c = unchanged v w
  changed true false true false false true false a b c = acted v w (iterate code f w) (iterate-acts code f w)
  changed true false true false false false y a b c = unchanged v w
  changed true false false true false x y a b c = record { quiet = λ e. (refl, refl, refl, refl); mask = refl; pending = refl; refusing = λ e. refl; iterations = inl refl }
  changed true false false false false x y a b c = unchanged v w
  changed false j k l true x y a b c = record { quiet = λ e. (refl, refl, refl, refl); mask = refl; pending = refl; refusing = λ e. refl; iterations = inl refl }
  changed false j k l false x y a b c = unchanged v w

-- two different numbers are not both written
not-both : (a b c : ℕ) → b ≢ c → eqb a b ≡ true → eqb a c ≡ false
not-both a b c n e = ne_eqb a c (λ (z : a ≡ c). n (sym (eqb-true a b e) ∙ z))

pub changes : (r : Registers) (x : Lending) → Changes r x
unfolding write command second
changes r x =
    let c = changed x.code x.frame x.value (record { registers = r; buffers = x.buffers })
    (eqb x.byte 0) (eqb x.value 1) (eqb x.value 2) (eqb x.value 3) (eqb x.byte 4) (eqb r.state 1) (eqb r.iterations 255)
    (not-both x.byte 0 4 (λ (z : 0 ≡ 4). omega arith)) (not-both x.value 1 3 (λ (z : 1 ≡ 3). omega arith)) (not-both x.value 2 3 (λ (z : 2 ≡ 3). omega arith)) in
    record { quiet = c.quiet; mask = c.mask; pending = c.pending; refusing = c.refusing; iterations = c.iterations }

pub every_list : EveryList
every_list l = let F = since-fits l idle idle-fits in (shows (since idle l) F, λ x. changes (since idle l) x)
