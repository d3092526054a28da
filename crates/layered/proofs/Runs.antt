-- Costs in range and records of accepted form give all that an update, a test and the next iteration ask for.
use mathlib.Core.Path.{◌≡◌}
use mathlib.Core.Bool.{Bool, false}
use mathlib.Core.List.{List}
use Prim.Native.Nat.{ℕ, ◌+◌, ◌<◌}
use native.Mathlib.Omega.{arith}
use lib.Dec.{eqb}
use lib.ListN.{length}
use borrow.Author.Tests.{ne_eqb}
use Rattle.trellis.specs.Lists.{upto}
use Rattle.machine.specs.CodeLine.{Code}
use Rattle.machine.specs.Lent.{Lent, lent, update_lent, iteration_lent}
use Rattle.machine.proofs.Passing.{updates-before, update_needs, iteration-passable}
use Rattle.machine.proofs.InTables.{count}
use Rattle.codeline.specs.declared.code.Code.{Code as LentCode}
use Rattle.codeline.specs.Answers.{numbers_in}
use Rattle.codeline.specs.Codes.{lent_code}
use Rattle.layered.specs.inner.Parity.{SettledRoom}
use Rattle.layered.specs.inner.Iterations.{Running}
use Rattle.layered.specs.inner.Places.{Updatable}

-- how many checks the tables say
pub checks-count : (K : LentCode) → length (lent_code K).checks ≡ K.numbers.checks
checks-count K = count (numbers_in K.numbers) K.degrees.now K.columns.now K.weights.now K.coded.for_columns K.coded.for_weights

module _ (K : LentCode) (P s : List ℕ) (start : Bool) (R : Running K start P s) where
  abbrev C : Code
  C = lent_code K

  -- before check m of an iteration
  pub update-updatable : (m : ℕ) → m < K.numbers.checks → (l : Lent) → l ≡ upto (update_lent C start) m (lent P s) → Updatable K start m l.costs l.store
  update-updatable m h l e =
      let n : m < length C.checks = omega (arith, h, checks-count K) in
      let B = updates-before C K.coded.good start (lent P s) R.passable.ranged R.passable.room m (omega arith) in
      rw e record {
        in_code = h;
        ranged = B.ranged;
        room = omega (arith, B.room, R.passable.room);
        formed = update_needs C K.coded.good start (lent P s) R.passable m n;
      }

  -- after an iteration
  pub iteration-running : (P' s' : List ℕ) → lent P' s' ≡ iteration_lent C start (lent P s) → Running K false P' s'
  iteration-running P' s' e =
      record { passable = rw e (iteration-passable C K.coded.good start (lent P s) R.passable.ranged R.passable.room) }

  pub next-running : (P' s' : List ℕ) (t : ℕ) → lent P' s' ≡ iteration_lent C start (lent P s) → Running K (eqb (t + 1) 0) P' s'
  next-running P' s' t e =
      let f : eqb (t + 1) 0 ≡ false = ne_eqb (t + 1) 0 (λ (y : t + 1 ≡ 0). omega arith) in
      rw f (iteration-running P' s' e)

  -- what the test asks
  pub test_room : (z : List ℕ) → length z ≡ K.numbers.columns → SettledRoom K P z
  test_room z e = record { ranged = R.passable.ranged; symbols = e }
