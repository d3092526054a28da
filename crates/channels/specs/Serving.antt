-- The order of service: up to eight channels and one allowance of iterations for all. A channel is a test here: whether it is finished
-- after j iterations.
use Rattle.std.specs.Prelude.{◌≡◌, Bool, false, not, ◌||◌, List, [], ◌∷◌, ℕ, ◌+◌, ◌-◌, ◌*◌, ◌%◌, ◌≤◌, ◌<◌, eqb, length, get_or, set, replicate}
use Rattle.trellis.specs.Lists.{up_to, keep, pick, upto}

-- the iterations of each channel, and what is left of the allowance
pub record Served : Type 0 where
  pub counts : List ℕ
  pub left : ℕ

abbrev pub count_of : Served → ℕ → ℕ
count_of s c = get_or s.counts c 0

-- channel c is served: "one iteration each, and finished ones (found, refused or at I iterations) are skipped". With nothing left there is
-- none
unfoldable pub serving : (ℕ → ℕ → Bool) → ℕ → Served → Served
serving finished c s =
    pick (finished c (count_of s c) || eqb s.left 0) s
    (record { counts = set s.counts c (count_of s c + 1); left = s.left - 1 })

-- "The channels are served by number in turn": the first k servings, of channels 0, 1, .. n - 1, 0, 1, ..
unfoldable pub servings : (ℕ → ℕ → Bool) → ℕ → ℕ → ℕ → Served
servings finished n A k = upto (λ i. serving finished (i % n)) k (record { counts = replicate n 0; left = A })

-- A times around: by then nothing is left or every channel is finished (Adds)
abbrev pub serve : (ℕ → ℕ → Bool) → ℕ → ℕ → Served
serve finished n A = servings finished n A (n * A)

-- how many channels are unfinished
abbrev pub unfinished : (ℕ → ℕ → Bool) → ℕ → Served → ℕ
unfinished finished n s = length (keep (λ c. not (finished c (count_of s c))) (up_to n))

-- channel c gets its next iteration by some more servings, before the last one of all, and "within u": in these at most u iterations are
-- made, by all channels together
pub record Next (finished : ℕ → ℕ → Bool) (n A k c : ℕ) : Type 0 where
  pub more : ℕ
  pub in_time : k + more ≤ n * A
  pub next : count_of (servings finished n A (k + more)) c ≡ count_of (servings finished n A k) c + 1
  pub within : (servings finished n A k).left ≤ (servings finished n A (k + more)).left + unfinished finished n (servings finished n A k)

-- "With u channels unfinished and at least u iterations of A left, each unfinished one gets its next iteration within u.", after any k
-- servings
abbrev pub Fair : (ℕ → ℕ → Bool) → ℕ → ℕ → Type 0
Fair finished n A =
    (k c : ℕ) → c < n → finished c (count_of (servings finished n A k) c) ≡ false
    → unfinished finished n (servings finished n A k) ≤ (servings finished n A k).left
    → Next finished n A k c

abbrev pub sum : List ℕ → ℕ
sum [] = 0
sum (x ∷ l) = x + sum l

-- "The iterations of all results add up to at most A, and to exactly A if any channel is spent": unfinished at the end
pub record Adds (finished : ℕ → ℕ → Bool) (n A : ℕ) : Type 0 where
  pub spent : sum (serve finished n A).counts ≡ A - (serve finished n A).left
  pub at_most : sum (serve finished n A).counts ≤ A
  pub exactly : (c : ℕ) → c < n → finished c (count_of (serve finished n A) c) ≡ false → sum (serve finished n A).counts ≡ A
