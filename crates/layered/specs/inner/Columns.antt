-- What the loops over a check's columns leave. proofs/Columns.antt shows that these are the machine's arriving and spread.
use Rattle.std.specs.Prelude.{List, ◌++◌, map, ℕ, ◌+◌, ◌-◌, ◌*◌, ◌≤◌, ◌<◌, min, length, get_or, drop}
use Rattle.trellis.specs.Lists.{upto, part, patch, blocks}
use Rattle.machine.specs.CodeLine.{column_of}
use Rattle.machine.specs.inner.InRange.{Below}
use Rattle.machine.specs.Machine.{scaled, incoming, outgoing}

-- P less the old scaled cost, 255 higher
abbrev pub raised : ℕ → List ℕ → List ℕ → ℕ → ℕ
raised g P old x = get_or P x 0 + 255 - scaled g (get_or old x 0)

-- the least of the first n, from a number that none of them reaches
unfoldable pub least_raised : ℕ → List ℕ → List ℕ → ℕ → ℕ
least_raised g P old n = upto (λ k a. min a (raised g P old k)) n 1000

-- Q of the first n columns, end to end, in front of the rest of d
abbrev pub one_column : List ℕ → List ℕ → List ℕ → ℕ → ℕ → ℕ → List ℕ
one_column P cols old g q n = incoming q (column_of q P (get_or cols n 0)) (map (scaled g) (part old (n * q) q))

unfoldable pub gathered : List ℕ → List ℕ → List ℕ → ℕ → ℕ → ℕ → List ℕ → List ℕ
gathered P cols old g q n d = blocks (one_column P cols old g q) n ++ drop (n * q) d

pub record GatherRoom (P cols old : List ℕ) (g q : ℕ) (out : List ℕ) : Type 0 where
  pub columns : (k : ℕ) → k < length cols → get_or cols k 0 * q + q ≤ length P
  pub for_old : length cols * q ≤ length old
  pub for_out : length cols * q ≤ length out
  pub small : Below 510 P
  pub scale : g ≤ 16
  pub some : 0 < q

-- Q plus the new scaled cost
abbrev pub summed : ℕ → List ℕ → List ℕ → ℕ → ℕ
summed g Q new x = get_or Q x 0 + scaled g (get_or new x 0)

unfoldable pub least_summed : ℕ → List ℕ → List ℕ → ℕ → ℕ
least_summed g Q new n = upto (λ k a. min a (summed g Q new k)) n 1000

-- P after the first n columns of an update
unfoldable pub scattered : List ℕ → List ℕ → List ℕ → ℕ → ℕ → ℕ → List ℕ → List ℕ
scattered Q new cols g q n P =
    upto (λ k (P : List ℕ). patch P (get_or cols k 0 * q) q (outgoing q (part Q (k * q) q) (map (scaled g) (part new (k * q) q)))) n P

pub record ScatterRoom (Q new cols : List ℕ) (g q : ℕ) (P : List ℕ) : Type 0 where
  pub columns : (k : ℕ) → k < length cols → get_or cols k 0 * q + q ≤ length P
  pub for_q : length cols * q ≤ length Q
  pub for_new : length cols * q ≤ length new
  pub scale : g ≤ 16
  pub some : 0 < q
