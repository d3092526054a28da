-- SPEC 10.3, stated of petsivola_decode's own contract: any two calls with one code line, whatever their buffers held before. The results are
-- numbers, as include/petsivola.h reads them: PETSIVOLA_NUMBER(r) is r / 65536, PETSIVOLA_VALUE(r) is r % 65536.
use mathlib.Core.Path.{◌≡◌, refl, ◌∙◌, subst}
use mathlib.Core.List.{List}
use Prim.Native.Nat.{ℕ, ◌≤◌, ◌<◌}
use native.Mathlib.Omega.{arith}
use contract.Lifetimes.{Lfts}
use denote.Triple.Clauses.{AtExit}
use borrow.Fn.Kinds.{ended_of}
use borrow.Fn.World.{ArgsD, ResD}
use Rattle.trellis.specs.Reply.{Reply}
use Rattle.machine.specs.CodeLine.{Code}
use Rattle.machine.specs.Machine.{Status, found, not_found, run}
use Rattle.machine.specs.Decoding.{Buffers, lending, After, outcome, decoding, Accepts, Room, Kept}
use Rattle.petsivola.specs.Packed.{Packs}
use Rattle.petsivola.specs.Demand.{Returned, ComparedCalls}
use Rattle.machine.proofs.Demand.{demand_3}
use Rattle.petsivola.specs.contracts.petsivola_decode as decode
use Rattle.petsivola.proofs.petsivola_decode.Kinds as kinds
use Rattle.petsivola.proofs.petsivola_decode.Reads as reads

returned : (C : Code) (f : List ℕ) (r : ℕ) (reply : Reply) (store : List ℕ) → Packs r reply → Kept C f reply store → Returned C f r store
returned C f r reply store P K =
    let o : Reply = outcome (run C f).status (run C f).end.t in
    let k : Packs r o = subst (Packs r) K.replies P in
    record {
      kept = subst (λ (o : Reply). Kept C f o store) K.replies K;
      packs = k;
      not-refused = omega (arith, k.number, low (run C f).status (run C f).end.t);
      iterations = k.value ∙ same (run C f).status (run C f).end.t;
    }
  where
    low : (o : Status) (t : ℕ) → (outcome o t).number ≤ 1
    low found t = omega arith
    low not_found t = omega arith

    same : (o : Status) (t : ℕ) → (outcome o t).value ≡ t
    same found t = refl
    same not_found t = refl

-- the arguments a and b are code, frame, symbols, costs, store, margins; s and s' hold them as the calls return; reads.Post is petsivola_decode's ensures
module _ (κs κs' : Lfts 6) (a : ArgsD decode.signature κs) (b : ArgsD decode.signature κs') (r : ResD decode.signature κs) (r' : ResD decode.signature κs') (s : AtExit (ended_of 6 kinds.ps kinds.r) κs) (s' : AtExit (ended_of 6 kinds.ps kinds.r) κs') where
  pub two_decodings : a.0.now ≡ b.0.now → (C : Code) → Accepts a.0.now a.1.0.now C → Accepts b.0.now b.1.0.now C
      → 0 < (run C a.1.0.now).end.t → 0 < (run C b.1.0.now).end.t
      → Room C (lending a.1.1.0.now a.1.1.1.0.now a.1.1.1.1.0.now a.1.1.1.1.1.0.now)
      → Room C (lending b.1.1.0.now b.1.1.1.0.now b.1.1.1.1.0.now b.1.1.1.1.1.0.now)
      → reads.Post κs a r s → reads.Post κs' b r' s'
      → ComparedCalls C a.1.0.now b.1.0.now r r' s.1.1.1.1.0.now s'.1.1.1.1.0.now
  two_decodings e C A B i j M N p q =
      let x : Buffers = lending a.1.1.0.now a.1.1.1.0.now a.1.1.1.1.0.now a.1.1.1.1.1.0.now in
      let y : Buffers = lending b.1.1.0.now b.1.1.1.0.now b.1.1.1.1.0.now b.1.1.1.1.1.0.now in
      let o : After = decoding b.0.now a.1.0.now x in
      let o' : After = decoding b.0.now b.1.0.now y in
      let L : Accepts b.0.now a.1.0.now C = rw e at A in
      let d = rw e at p in
      let Z =
      demand_3 b.0.now C a.1.0.now b.1.0.now L B i j x y M N o.reply o'.reply
      (lending s.1.1.0.now s.1.1.1.0.now s.1.1.1.1.0.now s.1.1.1.1.1.0.now)
      (lending s'.1.1.0.now s'.1.1.1.0.now s'.1.1.1.1.0.now s'.1.1.1.1.1.0.now)
      (record { replies = refl; symbols-then = d.1.0; costs-then = d.1.1.0; store_then = d.1.1.1.0; margins-then = d.1.1.1.1 })
      (record { replies = refl; symbols-then = q.1.0; costs-then = q.1.1.0; store_then = q.1.1.1.0; margins-then = q.1.1.1.1 }) in
      record {
        one = returned C a.1.0.now r o.reply s.1.1.1.1.0.now d.0 Z.one;
        other = returned C b.1.0.now r' o'.reply s'.1.1.1.1.0.now q.0 Z.other;
        equal = Z.equal;
      }
