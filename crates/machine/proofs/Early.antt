-- Stopping inside an iteration: the moment is the first one, M updates are an iteration, and there are never more than in the ordinary call.
use mathlib.Core.Path.{◌≡◌, refl, sym, ap, ap₂, ◌∙◌}
use mathlib.Core.Bool.{Bool, true, false}
use mathlib.Core.List.{List}
use Prim.Native.Nat.{ℕ, zero, suc, ◌+◌, ◌*◌, ◌%◌, ◌≤◌, ◌<◌}
use native.Mathlib.Nat.{suc-mul, mul_comm, mul-le-mul}
use native.Mathlib.Decide.{ℕ_discrete, dec_lt}
use native.Mathlib.Omega.{arith}
use lib.Arith.{digits_mod}
use lib.Dec.{eqb}
use lib.ListN.{length, get_or}
use Rattle.trellis.specs.Lists.{pick, upto}
use Rattle.trellis.specs.Rules.{size_of}
use Rattle.trellis.specs.Reply.{Reply}
use Rattle.machine.specs.CodeLine.{Read, good, bad, Code, word_at, checks, head_tests, parse, frame_fault}
use Rattle.machine.specs.Machine.{State, settled, update, iteration, start, Status, found, not_found, Result, result, go, run}
use Rattle.machine.specs.Decoding.{Buffers, After, outcome, admitted_under, admitted, decoding_under, decoding, Decodes}
use Rattle.machine.specs.inner.Faults.{room_fault}
use Rattle.machine.proofs.Faults.{admitted-by}
use Rattle.machine.specs.Early.{moment_after, test_after, first_from, most_updates, updates, status_early, early_under, decoding_early, WholeIterations, FirstMoment, NeverMore, FewUpdates}
use Rattle.machine.specs.inner.Accepted.{GoodCode}
use Rattle.machine.proofs.Lines.{passed, then-good, good-one, parse-good}

-- a status is one of two, and so is a test
found_not : found ≡ not_found → ⊥
found_not e = let z : ◌≡◌ {A = ℕ} 0 1 = cc in absurd (omega arith)

pub true_false : ◌≡◌ {A = Bool} true false → ⊥
true_false z = let y : ◌≡◌ {A = ℕ} 0 1 = cc in absurd (omega arith)

-- the first number at which a test holds
module _ (p : ℕ → Bool) where
  pub record First (n u v : ℕ) : Type 0 where
    pub from : u ≤ v
    pub to : v ≤ u + n
    pub before : (k : ℕ) → u ≤ k → k < v → p k ≡ false
    pub holds : v < u + n → p v ≡ true

  pub first_from_lem : (n u : ℕ) → First n u (first_from p n u)
  first_from_lem zero u = record { from = omega arith; to = omega arith; before = λ k i j. absurd (omega arith); holds = λ h. absurd (omega arith) }
  first_from_lem (suc n) u = by (p u) refl (first_from_lem n (suc u))
    where
      by : (b : Bool) → p u ≡ b → First n (suc u) (first_from p n (suc u)) → First (suc n) u (pick b u (first_from p n (suc u)))
      by true e F = record { from = omega arith; to = omega arith; before = λ k i j. absurd (omega arith); holds = λ _. e }
      by false e F =
          record {
            from = omega (arith, F.from);
            to = omega (arith, F.to);
            before = λ k i j. elim (ℕ_discrete k u) [ yes h ↦ rw h e | no h ↦ F.before k (omega arith) j ];
            holds = λ h. F.holds (omega arith);
          }

module _ (C : Code) (f : List ℕ) where
  pub moment-suc : (u : ℕ) → moment_after C f (suc u) ≡ update C (u % length C.checks) (moment_after C f u)
  unfolding moment_after
  moment-suc u = refl

  pub moment-start : moment_after C f 0 ≡ start C f
  unfolding moment_after
  moment-start = refl

  pub first-moment : FirstMoment C f
  unfolding updates
  first-moment = by (test_after C f u) refl
    where
      u : ℕ
      u = first_from (test_after C f) (most_updates C) 0

      F : First (test_after C f) (most_updates C) 0 u
      F = first_from_lem (test_after C f) (most_updates C) 0

      by : (b : Bool) → test_after C f u ≡ b → FirstMoment C f
      by true e =
          record {
            at_most = omega (arith, F.to);
            not-before = λ k h. F.before k (omega arith) h;
            if_found = λ _. e;
            if_not = λ s. absurd (found_not (sym (ap (λ b. pick b found not_found) e) ∙ s));
          }
      by false e =
          let all : u ≡ most_updates C = elim (dec_lt u (most_updates C)) [ yes h ↦ absurd (true_false (sym (F.holds (omega arith)) ∙ e)) | no h ↦ omega (arith, F.to) ] in
          record {
            at_most = omega (arith, F.to);
            not-before = λ k h. F.before k (omega arith) h;
            if_found = λ s. absurd (found_not (sym s ∙ ap (λ b. pick b found not_found) e));
            if_not = λ _. (all, λ k h. elim (ℕ_discrete k u) [ yes i ↦ rw i e | no i ↦ F.before k (omega arith) (omega arith) ]);
          }

-- t iterations are t times M updates
module _ (C : Code) where
  abbrev M : ℕ
  M = length C.checks

  -- a state with another t, which no update reads
  abbrev pub timed : ℕ → State → State
  timed t s = record { costs = s.costs; last = s.last; t = t }

  updates-timed : (t k : ℕ) (s : State) → upto (update C) k (timed t s) ≡ timed t (upto (update C) k s)
  unfolding update
  updates-timed t zero s = refl
  updates-timed t (suc k) s = ap (update C k) (updates-timed t k s)

  updates-t : (k : ℕ) (s : State) → (upto (update C) k s).t ≡ s.t
  unfolding update
  updates-t zero s = refl
  updates-t (suc k) s = updates-t k s

  -- j iterations
  pub iterations : ℕ → State → State
  iterations j s = upto (λ i. iteration C) j s

  iterations-front : (j : ℕ) (s : State) → iterations j (iteration C s) ≡ iterations (suc j) s
  unfolding iterations
  iterations-front zero s = refl
  iterations-front (suc j) s = ap (iteration C) (iterations-front j s)

  iteration-t : (s : State) → (iteration C s).t ≡ s.t + 1
  unfolding iteration
  iteration-t s = updates-t M (timed (s.t + 1) s)

  iterations-t : (j : ℕ) (s : State) → (iterations j s).t ≡ s.t + j
  unfolding iterations
  iterations-t zero s = omega arith
  iterations-t (suc j) s = iteration-t (iterations j s) ∙ omega (arith, iterations-t j s)

  -- where the run ends
  record Ends (n : ℕ) (s : State) (r : Result) : Type 0 where
    pub j : ℕ
    pub at_most : j ≤ n
    pub end_is : r.end ≡ iterations j s
    pub if_found : r.status ≡ found → settled C r.end.costs ≡ true
    pub if_not : r.status ≡ not_found → j ≡ n

  ends : (n : ℕ) (s : State) → Ends n s (go C n s)
  unfolding go iterations
  ends zero s = by (settled C s.costs) refl
    where
      by : (b : Bool) → settled C s.costs ≡ b → Ends 0 s (pick b (result found s) (result not_found s))
      by true e = record { j = 0; at_most = omega arith; end_is = refl; if_found = λ _. e; if_not = λ _. refl }
      by false e = record { j = 0; at_most = omega arith; end_is = refl; if_found = λ i. absurd (found_not (sym i)); if_not = λ _. refl }
  ends (suc n) s = by (settled C s.costs) refl (ends n (iteration C s))
    where
      by : (b : Bool) → settled C s.costs ≡ b → Ends n (iteration C s) (go C n (iteration C s)) → Ends (suc n) s (pick b (result found s) (go C n (iteration C s)))
      by true e E = record { j = 0; at_most = omega arith; end_is = refl; if_found = λ _. e; if_not = λ i. absurd (found_not i) }
      by false e E = record { j = suc E.j; at_most = omega (arith, E.at_most); end_is = E.end_is ∙ iterations-front E.j s; if_found = E.if_found; if_not = λ i. ap suc (E.if_not i) }

  -- t is at most I
  iterations-few : (f : List ℕ) → (run C f).end.t ≤ C.limit
  unfolding run
  iterations-few f =
      let E : Ends C.limit (start C f) (run C f) = ends C.limit (start C f) in
      rw (ap (λ s. s.t) E.end_is ∙ iterations-t E.j (start C f)) (omega (arith, E.at_most))

  module _ (f : List ℕ) (some : 0 < M) where
    -- after t iterations, k updates more
    pub moment_more : (t k : ℕ) → k ≤ M → moment_after C f (t * M + k) ≡ upto (update C) k (moment_after C f (t * M))
    moment_more t zero h = ap (moment_after C f) (omega arith)
    moment_more t (suc k) h =
        let e : t * M + suc k ≡ suc (t * M + k) = omega arith in
        let i : (t * M + k) % M ≡ k = digits_mod t {m = M} {r = k} (omega arith) in
        ap (moment_after C f) e ∙ moment-suc C f (t * M + k) ∙ ap₂ (update C) i (moment_more t k (omega arith))

    pub moment-iterations : (t : ℕ) → moment_after C f (t * M) ≡ timed 0 (iterations t (start C f))
    unfolding iterations iteration moment_after
    moment-iterations zero = let e : 0 * M ≡ 0 = omega arith in ap (moment_after C f) e
    moment-iterations (suc t) =
        let s : State = iterations t (start C f) in
        let e : suc t * M ≡ t * M + M = suc-mul t M in
        ap (moment_after C f) e
        ∙ moment_more t M (omega arith)
        ∙ ap (upto (update C) M) (moment-iterations t)
        ∙ updates-timed 0 M s
        ∙ sym (ap (timed 0) (updates-timed (s.t + 1) M s))

    pub updates-few : updates C f ≤ M * (run C f).end.t
    unfolding run
    updates-few = by (run C f).status refl
      where
        E : Ends C.limit (start C f) (run C f)
        E = ends C.limit (start C f)

        F : FirstMoment C f
        F = first-moment C f

        t-is : (run C f).end.t ≡ E.j
        t-is = ap (λ s. s.t) E.end_is ∙ iterations-t E.j (start C f) ∙ omega arith

        same-costs : (run C f).end.costs ≡ (moment_after C f (E.j * M)).costs
        same-costs = ap (λ s. s.costs) E.end_is ∙ sym (ap (λ s. s.costs) (moment-iterations E.j))

        by : (o : Status) → (run C f).status ≡ o → updates C f ≤ M * (run C f).end.t
        by not_found e = rw (t-is, E.if_not e) F.at_most
        by found e =
            elim (dec_lt (E.j * M) (updates C f)) [
              | yes h ↦ absurd (true_false (sym (ap (settled C) (sym same-costs) ∙ E.if_found e) ∙ F.not-before (E.j * M) h))
              | no h ↦ rw t-is (omega (arith, mul_comm M E.j))
            ]

pub whole_iterations : WholeIterations
unfolding iterations
whole_iterations C f some t = (ap (λ s. s.costs) (moment-iterations C f some t), ap (λ s. s.last) (moment-iterations C f some t))

outcome-value : (o : Status) (n : ℕ) → (outcome o n).value ≡ n
outcome-value found n = refl
outcome-value not_found n = refl

-- under an accepted line both calls are refused, or both run
pub never_more : NeverMore
unfolding decoding_early decoding admitted
never_more code f b C e r r' o o' D D' =
    let i : r.value ≡ (early_under (admitted_under (good C) f b) f b).reply.value = ap (λ a. a.value) D.replies ∙ ap (λ l. (early_under (admitted_under l f b) f b).reply.value) e in
    let j : r'.value ≡ (decoding_under (admitted_under (good C) f b) f b).reply.value = ap (λ a. a.value) D'.replies ∙ ap (λ l. (decoding_under (admitted_under l f b) f b).reply.value) e in
    rw (i, j, admitted-by C f b) (by (eqb (frame_fault C f) 0) (eqb (room_fault C b) 0))
  where
    by : (x y : Bool)
        → (early_under (pick x (pick y (good C) (bad (room_fault C b))) (bad (frame_fault C f))) f b).reply.value
        ≤ length C.checks * (decoding_under (pick x (pick y (good C) (bad (room_fault C b))) (bad (frame_fault C f))) f b).reply.value
    by true true = rw (outcome-value (status_early C f) (updates C f), outcome-value (run C f).status (run C f).end.t) (updates-few C f (parse-good code C e).checks-low)
    by true false = omega arith
    by false y = omega arith

-- I is the line's byte 5
pub limit-read : (s : List ℕ) (C : Code) → parse s ≡ good C → C.limit ≡ get_or s 5 0
unfolding parse
limit-read s C h =
    let a = passed (head_tests s) _ C h in
    let b = then-good (checks (get_or s 3 0) s 6 (word_at s 1) (size_of (get_or s 0 0)) 0) _ C a.1 in
    sym (ap (λ D. D.limit) (good-one _ C b.2))

pub most-small : (C : Code) → GoodCode C → C.limit ≤ 255 → most_updates C ≤ 32640
most-small C G h = let m : length C.checks * C.limit ≤ 128 * 255 = mul-le-mul G.checks-high h in omega arith

-- the value of a call that refuses as decoding does is at most n where it is that of no refusal
module _ (code f : List ℕ) (b : Buffers) (n : ℕ) (call : Read Code → After) (R : (k : ℕ) → (call (bad k)).reply.value ≤ n)
    (A : (C : Code) → parse code ≡ good C → (call (good C)).reply.value ≤ n) where
  value-most : (call (admitted code f b)).reply.value ≤ n
  unfolding admitted
  value-most = under (parse code) refl
    where
      by : (C : Code) → parse code ≡ good C → (x y : Bool) → (call (pick x (pick y (good C) (bad (room_fault C b))) (bad (frame_fault C f)))).reply.value ≤ n
      by C e true true = A C e
      by C e true false = R (room_fault C b)
      by C e false y = R (frame_fault C f)

      under : (l : Read Code) → parse code ≡ l → (call (admitted_under l f b)).reply.value ≤ n
      under (bad k) e = R k
      under (good C) e = rw (admitted-by C f b) (by C e (eqb (frame_fault C f) 0) (eqb (room_fault C b) 0))

pub few-updates : FewUpdates
unfolding decoding_early
few-updates code f b h r o D =
    rw (ap (λ a. a.value) D.replies) (value-most code f b 32640 (λ r. early_under r f b) (λ k. omega arith) full)
  where
    full : (C : Code) → parse code ≡ good C → (early_under (good C) f b).reply.value ≤ 32640
    full C e =
        rw (outcome-value (status_early C f) (updates C f))
        (omega (arith, (first-moment C f).at_most, most-small C (parse-good code C e) (omega (arith, limit-read code C e, h 5))))

-- a byte holds t of any call with a line of bytes
pub few-iterations : (code f : List ℕ) (b : Buffers) → ((i : ℕ) → get_or code i 0 ≤ 255) → (r : Reply) (o : Buffers) → Decodes code f b r o → r.value ≤ 255
unfolding decoding
few-iterations code f b h r o D =
    rw (ap (λ a. a.value) D.replies) (value-most code f b 255 (λ r. decoding_under r f b) (λ k. omega arith) full)
  where
    full : (C : Code) → parse code ≡ good C → (decoding_under (good C) f b).reply.value ≤ 255
    full C e = rw (outcome-value (run C f).status (run C f).end.t) (omega (arith, iterations-few C f, limit-read code C e, h 5))
