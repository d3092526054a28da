-- These mirror the loops of an expansion: the record's bytes as lists over the rows a, what a row's pairs say for one column, a column by
-- symbols.
use Rattle.std.specs.Prelude.{◌≡◌, cond, List, ℕ, zero, suc, ◌+◌, ◌-◌, ◌*◌, ◌%◌, ◌^◌, ◌≤◌, ◌<◌, eqb, length, get_or}
use Rattle.trellis.specs.Lists.{tab, blocks, part}
use Rattle.trellis.specs.Field.{xor}
use Rattle.trellis.specs.Sizes.{most_degree, most_size}

-- list i in row 0, which has no group: E 0, columns FF, S 0
unfoldable pub zero_row : ℕ → ℕ
zero_row i = cond (eqb (i % 2) 1) 0xFF 0x00

-- one byte of each row: f for row 0, then every g-th of the record from place at on
unfoldable pub every_at : List ℕ → ℕ → ℕ → ℕ → ℕ → ℕ
every_at r at g f zero = f
every_at r at g f (suc b) = get_or r (at + g * b) 0

-- list i of q rows, from a record of degree d with k pairs a group
abbrev pub list_of : ℕ → ℕ → ℕ → List ℕ → ℕ → List ℕ
list_of k d q r i = tab (every_at r (d + i) (1 + 2 * k) (zero_row i)) q

-- the lists end to end: E, column, S, column, S ..
unfoldable pub unpacked : ℕ → ℕ → ℕ → List ℕ → List ℕ
unpacked k d q r = blocks (list_of k d q r) (1 + 2 * k)

-- byte i of row a, from lists of q rows
abbrev pub byte_in : List ℕ → ℕ → ℕ → ℕ → ℕ
byte_in t q a i = get_or t (i * q + a) 0

-- a pair's S where its column is n, else what stood there
abbrev pub beside_in : List ℕ → List ℕ → ℕ → List ℕ → ℕ → ℕ
beside_in c s n v a = cond (eqb (get_or c a 0) n) (get_or s a 0) (get_or v a 0)

-- what m pairs from pair j on say for column n, where f i is byte i of a row: the S beside n if they list n, else E
unfoldable pub beside_from : (ℕ → ℕ) → ℕ → ℕ → ℕ → ℕ
beside_from f n j zero = f 0
beside_from f n j (suc m) = cond (eqb (f (1 + 2 * j)) n) (f (2 + 2 * j)) (beside_from f n (suc j) m)

-- what row a says for column n
abbrev pub value_in : ℕ → List ℕ → ℕ → ℕ → ℕ → ℕ
value_in k t q n a = beside_from (byte_in t q a) n 0 k

-- the value at symbol x: that of its row, its product moved by the shift s
abbrev pub by_symbol : List ℕ → List ℕ → ℕ → ℕ → ℕ
by_symbol v row s x = get_or v (xor (get_or row x 0) s) 0

-- column n of q bytes in place of its products, which stand in out
abbrev pub turned : ℕ → List ℕ → ℕ → List ℕ → List ℕ → ℕ → List ℕ
turned k t q r out n = tab (by_symbol (tab (value_in k t q n) q) (part out (n * q) q) (get_or r n 0)) q

-- a record of degree d with k pairs a group for q rows, and room for its lists
pub record UnpackRoom (k d q : ℕ) (r out : List ℕ) : Type 0 where
  pub pairs : k ≤ 3
  pub some : 1 ≤ q
  pub most : q ≤ most_size
  pub few : d ≤ most_degree
  pub long : length r ≡ d + (1 + 2 * k) * (q - 1)
  pub room : length out ≡ (1 + 2 * k) * q

-- lists of q rows for k pairs, with room to read as many rows of each as the largest field has
pub record ListsRoom (k q : ℕ) (t : List ℕ) : Type 0 where
  pub pairs : k ≤ 3
  pub most : q ≤ most_size
  pub long : 2 * k * q + most_size ≤ length t

-- a column's products and its shift are below their number, a power of two
pub record ShiftRoom (row : List ℕ) (s : ℕ) : Type 0 where
  pub p : ℕ
  pub size : length row ≡ 2 ^ p
  pub below : (x : ℕ) → x < length row → get_or row x 0 < 2 ^ p
  pub s_below : s < 2 ^ p

-- the products of d columns, q each, beside their shifts
pub record TurnRoom (d q : ℕ) (r out : List ℕ) : Type 0 where
  pub few : d ≤ most_degree
  pub most : q ≤ most_size
  pub shifts : d ≤ length r
  pub room : length out ≡ d * q
  pub shifted : (n : ℕ) → n < d → ShiftRoom (part out (n * q) q) (get_or r n 0)
