-- What is claimed of the channels of a call that is not refused.
use Rattle.std.specs.Prelude.{◌≡◌, ◌≢◌, true, false, List, [], map, ℕ, ◌≤◌, ◌<◌, get_or, set}
use Rattle.trellis.specs.Reply.{Reply, refusal, found_in}
use Rattle.machine.specs.CodeLine.{good, Code, parse, frame_fault}
use Rattle.machine.specs.Machine.{settled}
use Rattle.machine.specs.Decoding.{Buffers, holding, decoding}
use Rattle.channels.specs.Serving.{Fair, sum}
use Rattle.channels.specs.Channels.{frame_of, own_of, finished, Results, channels}

-- a call that is served: the code is read, and none of 21, 22, the code's, 12, 2, 3, 4 and 19 applies; the frames are bytes
pub record IsServed (n A : ℕ) (code fs : List ℕ) (b : Buffers) (C : Code) : Type 0 where
  pub line : parse code ≡ good C
  pub bytes : (i : ℕ) → get_or fs i 0 ≤ 255
  pub served : (channels n A code fs b).number ≡ 0

-- "refuse the whole call": a refusal reports no iterations and no results, and changes no lent byte
abbrev pub ChannelsWhole : Type 0
ChannelsWhole =
    (n A : ℕ) (code fs : List ℕ) (b : Buffers) → (channels n A code fs b).number ≢ 0
    → ((channels n A code fs b).spent ≡ 0) × ((channels n A code fs b).answers ≡ []) × ((channels n A code fs b).buffers ≡ b)

-- channel c's result; past the last there is nothing
abbrev pub nothing : Reply
nothing = record { refused = false; number = 0; value = 0 }

abbrev pub answer_at : Results → ℕ → Reply
answer_at r c = get_or r.answers c nothing

-- "a frame found at t = 0 costs nothing"
abbrev pub ChannelsFoundFirst : Type 0
ChannelsFoundFirst =
    (n A : ℕ) (code fs : List ℕ) (b : Buffers) (C : Code) → IsServed n A code fs b C → (c : ℕ) → c < n
    → frame_fault C (frame_of C fs c) ≡ 0 → settled C (frame_of C fs c) ≡ true
    → answer_at (channels n A code fs b) c ≡ found_in 0

-- "With u channels unfinished and at least u iterations of A left, each unfinished one gets its next iteration within u."
abbrev pub ChannelsFair : Type 0
ChannelsFair =
    (n A : ℕ) (code fs : List ℕ) (b : Buffers) (C : Code) → IsServed n A code fs b C → Fair (λ c. finished C (frame_of C fs c)) n A

-- "The iterations of all results add up to at most A, and to exactly A if any channel is spent."
abbrev pub ChannelsSum : Type 0
ChannelsSum =
    (n A : ℕ) (code fs : List ℕ) (b : Buffers) (C : Code) → IsServed n A code fs b C
    → ((channels n A code fs b).spent ≡ sum (map (λ a. a.value) (channels n A code fs b).answers))
    × ((channels n A code fs b).spent ≤ A)
    × ((c : ℕ) → c < n → (answer_at (channels n A code fs b) c).number ≡ 20 → (channels n A code fs b).spent ≡ A)

-- "decoding it alone with iteration limit j": the code line with j in byte 5
abbrev pub limited : List ℕ → ℕ → List ℕ
limited code j = set code 5 j

-- "What a channel not refused receives after j iterations is, but for a spent one's status, what decoding it alone with iteration limit j
-- gives": own are its parts before the call, own' after it, a is its result
pub record AsAlone (code : List ℕ) (f : List ℕ) (j : ℕ) (own own' : Buffers) (a : Reply) : Type 0 where
  pub buffers : own' ≡ (decoding (limited code j) f own).buffers
  pub not-refused : (decoding (limited code j) f own).reply.refused ≡ false
  pub iterations : a.value ≡ (decoding (limited code j) f own).reply.value
  pub status : a.number ≢ 20 → a ≡ (decoding (limited code j) f own).reply

-- "for j = 0, the first decisions with their margins, the frame as costs and an untouched store"
abbrev pub AtNone : Code → List ℕ → Buffers → Buffers → Type 0
AtNone C f own own' = own' ≡ holding C f own.store own

pub record Alone (code : List ℕ) (C : Code) (f : List ℕ) (j : ℕ) (own own' : Buffers) (a : Reply) : Type 0 where
  pub some : 0 < j → AsAlone code f j own own' a
  pub none : j ≡ 0 → AtNone C f own own'

-- each channel that is not refused
abbrev pub ChannelsAlone : Type 0
ChannelsAlone =
    (n A : ℕ) (code fs : List ℕ) (b : Buffers) (C : Code) → IsServed n A code fs b C → (c : ℕ) → c < n
    → (answer_at (channels n A code fs b) c).refused ≡ false
    → Alone code C (frame_of C fs c) (answer_at (channels n A code fs b) c).value
    (own_of C b c) (own_of C (channels n A code fs b).buffers c) (answer_at (channels n A code fs b) c)

-- "Only 13 is a channel's own: its parts of the buffers are unchanged and the others are served as before."
abbrev pub ChannelsRefused : Type 0
ChannelsRefused =
    (n A : ℕ) (code fs : List ℕ) (b : Buffers) (C : Code) → IsServed n A code fs b C → (c : ℕ) → c < n
    → (answer_at (channels n A code fs b) c).refused ≡ true
    → (answer_at (channels n A code fs b) c ≡ refusal 13) × (own_of C (channels n A code fs b).buffers c ≡ own_of C b c)
