-- What a margin says of the decision beside it, in the words of a decode call: the symbol, the margin and the costs of column c as they
-- stand in the lent buffers. SPEC 10.11.
use Rattle.std.specs.Prelude.{◌≡◌, ◌≢◌, ◌↔◌, List, ℕ, ◌+◌, ◌*◌, ◌≤◌, ◌<◌, get_or}
use Rattle.trellis.specs.Reply.{Reply}
use Rattle.machine.specs.CodeLine.{Code, size}
use Rattle.machine.specs.Decoding.{Buffers, Accepts, Room, Decodes}

abbrev pub symbol_in : Buffers → ℕ → ℕ
symbol_in o c = get_or o.symbols c 0

abbrev pub margin_in : Buffers → ℕ → ℕ
margin_in o c = get_or o.margins c 0

-- the cost of symbol x in column c of q costs
abbrev pub buffer_cost : ℕ → Buffers → ℕ → ℕ → ℕ
buffer_cost q o c x = get_or o.costs (c * q + x) 0

-- another symbol than the decision, of cost v
pub record Other (q : ℕ) (o : Buffers) (c v : ℕ) : Type 0 where
  pub symbol : ℕ
  pub element : symbol < q
  pub differs : symbol ≢ symbol_in o c
  pub costs : buffer_cost q o c symbol ≡ v

-- "the least cost among the other symbols less the least cost of all", which is 0; "a tie has margin 0"
pub record Margin (q : ℕ) (o : Buffers) (c : ℕ) : Type 0 where
  pub free : buffer_cost q o c (symbol_in o c) ≡ 0
  pub attained : Other q o c (margin_in o c)
  pub least : (x : ℕ) → x < q → x ≢ symbol_in o c → margin_in o c ≤ buffer_cost q o c x
  pub tie : (margin_in o c ≡ 0) ↔ Other q o c 0
  pub only : 0 < margin_in o c → (x : ℕ) → x < q → buffer_cost q o c x ≡ 0 → x ≡ symbol_in o c
  pub small : margin_in o c ≤ 510

-- of every column, after every decoding of an accepted frame of bytes in buffers long enough
abbrev pub Margins : Type 0
Margins =
    (code f : List ℕ) (C : Code) → Accepts code f C → ((i : ℕ) → get_or f i 0 ≤ 255) → (b : Buffers) → Room C b
    → (r : Reply) (o : Buffers) → Decodes code f b r o → (c : ℕ) → c < C.columns → Margin (size C) o c
