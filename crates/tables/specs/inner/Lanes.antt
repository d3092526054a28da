-- Mirrors what is chosen of sixteen rows. The reader's definitions are those of engine and trellis; proofs/Meaning.antt ties these to them.
use Rattle.std.specs.Prelude.{List, ℕ, ltb, get_or}
use Rattle.trellis.specs.Lists.{pick}
unfoldable pub use Rattle.vjoin.specs.Lanes.{lanes}

-- x where s is below e, else y
abbrev pub low_at : List ℕ → List ℕ → List ℕ → List ℕ → ℕ → ℕ
low_at s e x y a = pick (ltb (get_or s a 0) (get_or e a 0)) (get_or x a 0) (get_or y a 0)
