-- SPEC 10.3 in the numbers that petsivola_decode returns, as include/petsivola.h reads them: PETSIVOLA_NUMBER(r) is r / 65536,
-- PETSIVOLA_VALUE(r) is r % 65536. SPEC 10.3.
use Rattle.std.specs.Prelude.{◌≡◌, ◌↔◌, List, ℕ, ◌/◌, ◌%◌, ◌≤◌, take}
use Rattle.machine.specs.CodeLine.{Code}
use Rattle.machine.specs.Machine.{run, used}
use Rattle.machine.specs.Decoding.{outcome, Kept, Agree}
use Rattle.petsivola.specs.Packed.{Packs}

-- One call's result and store, for the run of the machine on its frame. The store's used part and what stands in it are as SPEC 10.3 has
-- them (Kept); the result is not a refusal, but 0 (found) or 1 (not found), with the iterations of the run
pub record Returned (C : Code) (f : List ℕ) (result : ℕ) (store : List ℕ) : Type 0 where
  pub kept : Kept C f (outcome (run C f).status (run C f).end.t) store
  pub packs : Packs result (outcome (run C f).status (run C f).end.t)
  pub not-refused : result / 65536 ≤ 1
  pub iterations : result % 65536 ≡ (run C f).end.t

pub record ComparedCalls (C : Code) (f f' : List ℕ) (result result' : ℕ) (store store' : List ℕ) : Type 0 where
  pub one : Returned C f result store
  pub other : Returned C f' result' store'
  pub equal : (take (used C) store ≡ take (used C) store') ↔ Agree C f f'
