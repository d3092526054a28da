-- The struct that a call of decode_channels answers by.
use Rattle.std.specs.Prelude.{◌≡◌, List, map, ◌++◌, ℕ, ◌-◌, length, replicate}
use Rattle.trellis.specs.Reply.{Reply}
use Rattle.machine.specs.Decoding.{Buffers}
use Rattle.channels.specs.Channels.{Results}

-- a list of eight: those of the channels, and 0 for each that there is not
abbrev pub eight : (Reply → ℕ) → List Reply → List ℕ
eight f l = map f l ++ replicate (8 - length l) 0

-- the struct's fields and the buffers afterwards are those of the results
pub record Gives (R : Results) (number spent : ℕ) (status iterations : List ℕ) (b : Buffers) : Type 0 where
  pub number_is : number ≡ R.number
  pub spent_is : spent ≡ R.spent
  pub status_is : status ≡ eight (λ a. a.number) R.answers
  pub iterations_is : iterations ≡ eight (λ a. a.value) R.answers
  pub symbols-then : b.symbols ≡ R.buffers.symbols
  pub costs-then : b.costs ≡ R.buffers.costs
  pub store_then : b.store ≡ R.buffers.store
  pub margins-then : b.margins ≡ R.buffers.margins
