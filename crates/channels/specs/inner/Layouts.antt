-- What the functions ask and leave: the numbers and lengths that a channel needs, and room for each loop.
use Rattle.std.specs.Prelude.{◌≡◌, List, ℕ, ◌+◌, ◌-◌, ◌*◌, ◌≤◌, ◌<◌, eqb, length}
use Rattle.trellis.specs.Refusals.{fault_by}
use Rattle.trellis.specs.Sizes.{most_expansion}
use Rattle.machine.specs.CodeLine.{Code, size}
use Rattle.machine.specs.Decoding.{Buffers}
use Rattle.machine.specs.Moments.{Moment}
use Rattle.machine.specs.inner.InRange.{Passable}
use Rattle.codeline.specs.Codes.{lent_code}
use Rattle.channels.specs.declared.layout.Layout.{Layout}
use Rattle.channels.specs.Channels.{own_of, count_tests, whole_tests}
use Rattle.channels.specs.inner.Rounds.{Standing, Rooms, Serves, lent_in, status_of, patch_at, loaded_to, rounds_at}

-- "21, channel count not 1 to 8, before all; 22, A is 0, after 21."; 0 for neither
unfoldable pub count_fault : ℕ → ℕ → ℕ
count_fault n A = fault_by (count_tests n A)

-- 12, 2, 3, 4, 19 by the lengths; 0 for none
unfoldable pub fault_for : ℕ → Layout → ℕ → ℕ → ℕ → ℕ → ℕ → ℕ
fault_for n z f y c s v = fault_by (whole_tests n z.columns z.costs z.store f y c s v)

-- the code of a layout
abbrev pub code_for : Layout → Code
code_for z = lent_code z.code

-- what one channel's load or iteration leaves: its status, and its parts of the buffers
pub record Puts (C : Code) (c : ℕ) (b : Buffers) (m : Moment) (status : ℕ) (b' : Buffers) : Type 0 where
  pub status_is : status ≡ status_of m.stage
  pub buffers_are : b' ≡ patch_at C c b m.buffers

-- the loads of n channels, and that of channel c
pub record LoadsRoom (n : ℕ) (z : Layout) (fs : List ℕ) (l : Standing) : Type 0 where
  pub frames : length fs ≡ n * ((code_for z).columns * size (code_for z))
  pub rooms : Rooms (code_for z) n l

pub record LoadRoom (c : ℕ) (z : Layout) (fs y p v : List ℕ) : Type 0 where
  pub frames : c * z.costs + z.costs ≤ length fs
  pub symbols : c * z.columns + z.columns ≤ length y
  pub costs : c * z.costs + z.costs ≤ length p
  pub margins : c * z.columns + z.columns ≤ length v

-- channel c's parts are inside the buffers
pub record PartRoom (z : Layout) (c : ℕ) (b : Buffers) : Type 0 where
  pub for_symbols : c * z.columns + z.columns ≤ length b.symbols
  pub for_costs : c * z.costs + z.costs ≤ length b.costs
  pub for_store : c * z.store + z.store ≤ length b.store
  pub for_margins : c * z.columns + z.columns ≤ length b.margins

-- its next iteration, after t: its costs are in range and its records of accepted form
pub record NextRoom (c t : ℕ) (z : Layout) (b : Buffers) (A S : List ℕ) : Type 0 where
  pub room : PartRoom z c b
  pub passable : Passable (code_for z) z.code.coded.good (eqb t 0) (lent_in (own_of (code_for z) b c))
  pub arrived : most_expansion ≤ length A
  pub sent : most_expansion ≤ length S

-- a round of n channels, with two lists to work in, and one of its servings
pub record RoundRoom (n : ℕ) (z : Layout) (l : Standing) (A S : List ℕ) : Type 0 where
  pub serves : Serves (code_for z) z.code.coded.good n l
  pub arrived : most_expansion ≤ length A
  pub sent : most_expansion ≤ length S

pub record OneRoom (c : ℕ) (z : Layout) (l : Standing) (A S : List ℕ) : Type 0 where
  pub count : ℕ
  pub inside : c < count
  pub room : RoundRoom count z l A S

-- the loads, and rounds while something is left
abbrev pub run_at : Code → List ℕ → ℕ → Standing → Standing
run_at C fs n l = rounds_at C n l.left (loaded_to C fs n l)

-- the whole service of n channels; what is spent of the allowance is a word
pub record ServiceRoom (n : ℕ) (z : Layout) (fs : List ℕ) (l : Standing) : Type 0 where
  pub loads : LoadsRoom n z fs l
  pub serves : Serves (code_for z) z.code.coded.good n (loaded_to (code_for z) fs n l)
  pub spent : l.left - (run_at (code_for z) fs n l).left ≤ 65535
