-- What a join of two tables leaves. Nothing changes where the tables have other lengths: a caller above has tables of the right ones, so there
-- is no number for it.
use Rattle.std.specs.Prelude.{Bool, ◌&&◌, ◌||◌, List, ℕ, eqb, length}
use Rattle.trellis.specs.Lists.{pick, tab}
use Rattle.vjoin.specs.Lanes.{risen_at}

-- q of the rows of tables of sixteen, or all rows of tables of 32 or 64
unfoldable pub joinable : ℕ → ℕ → Bool
joinable q l = pick (eqb l 16) (eqb q 4 || (eqb q 8 || (eqb q 12 || eqb q 16))) (eqb q l && (eqb l 32 || eqb l 64))

-- the best of e and q rows of u join_leaves with w
unfoldable pub join_leaves : Bool → ℕ → List ℕ → List ℕ → List ℕ → List ℕ
join_leaves greatest q u w e =
    pick (eqb (length u) (length e) && (eqb (length w) (length e) && joinable q (length e))) (tab (risen_at greatest q u w e) (length e)) e
