-- One check of the specification: choices, their costs, the cost sent to a column, the extra column. SPEC 2. A rule holds what the code line's
-- first byte fixes: q, the product, how the costs of a choice are joined, and how many deviations it may have. "at most two"
-- reads "at most k".
use Rattle.std.specs.Prelude.{◌≡◌, Bool, cond, ◌&&◌, List, [], ◌∷◌, map, ℕ, zero, suc, ◌+◌, ◌-◌, ◌≤◌, ◌<◌, leb, eqb, length, get_or}
use Rattle.trellis.specs.Lists.{up_to, keep, each, others, smallest}
use Rattle.trellis.specs.Field.{xor}

pub record Rule : Type 0 where
  pub size : ℕ
  pub times : ℕ → ℕ → ℕ
  pub join : ℕ → ℕ → ℕ
  pub most : ℕ

-- "a nonzero weight h_n for each column n"; "Column n brings q costs Q_n(x)" (SPEC 2.1, 2.2)
pub record Column : Type 0 where
  pub weight : ℕ
  pub costs : List ℕ

abbrev pub blank : Column
blank = record { weight = 0; costs = [] }

abbrev pub column : List Column → ℕ → Column
column cs n = get_or cs n blank

-- Q(x)
abbrev pub cost_at : Column → ℕ → ℕ
cost_at c x = get_or c.costs x 0

-- the place of the first 0, or the length where there is none
abbrev pub first_zero : List ℕ → ℕ
first_zero [] = 0
first_zero (zero ∷ l) = 0
first_zero (suc x ∷ l) = suc (first_zero l)

-- a hard decision: "the symbol and its margin" (SPEC 2.3)
pub record Decision : Type 0 where
  pub symbol : ℕ
  pub margin : ℕ

-- "the least cost among the other symbols less the least cost of all; a tie has margin 0" (SPEC 2.3)
unfoldable pub margin_of : List ℕ → ℕ
margin_of l = smallest (others (first_zero l) l) - smallest l

-- "Its hard decision z_n is the smallest symbol of cost 0." (SPEC 2.3)
abbrev pub decide : List ℕ → Decision
decide l = record { symbol = first_zero l; margin = margin_of l }

abbrev pub decision : Column → Decision
decision c = decide c.costs

-- "A deviation is a column whose chosen symbol is not z_n": 1 at such a symbol, else 0 (SPEC 2.4)
abbrev pub deviates : Column → ℕ → ℕ
deviates c x = cond (eqb x (decision c).symbol) 0 1

-- h times x
abbrev pub weigh : Rule → Column → ℕ → ℕ
weigh R c x = R.times c.weight x

-- a number for each column and its symbol, all joined
abbrev pub total : (ℕ → ℕ → ℕ) → (Column → ℕ → ℕ) → List Column → List ℕ → ℕ
total op f [] w = 0
total op f (c ∷ cs) [] = 0
total op f (c ∷ cs) (x ∷ w) = op (f c x) (total op f cs w)

-- "A choice costs the sum of its columns' Q": joined by the rule (SPEC 2.4)
abbrev pub cost_of : Rule → List Column → List ℕ → ℕ
cost_of R = total R.join cost_at

-- the sum of h_n times x_n
abbrev pub weighted_sum : Rule → List Column → List ℕ → ℕ
weighted_sum R = total xor (weigh R)

abbrev pub deviations : List Column → List ℕ → ℕ
deviations = total ◌+◌ deviates

-- a choice: one symbol below q for each column
pub data Fits (q : ℕ) : List Column → List ℕ → Type 0 where
  none : Fits q [] []
  more : {c : Column} {cs : List Column} {x : ℕ} {w : List ℕ} → x < q → Fits q cs w → Fits q (c ∷ cs) (x ∷ w)

-- a choice with at most k deviations and weighted sum t
pub record Allowed (R : Rule) (cs : List Column) (t : ℕ) (w : List ℕ) : Type 0 where
  pub fits : Fits R.size cs w
  pub few : deviations cs w ≤ R.most
  pub sum : weighted_sum R cs w ≡ t

-- m is the least cost over those choices
pub record IsLeast (R : Rule) (cs : List Column) (t m : ℕ) : Type 0 where
  pub choice : List ℕ
  pub allowed : Allowed R cs t choice
  pub attained : cost_of R cs choice ≡ m
  pub least : (w : List ℕ) → Allowed R cs t w → m ≤ cost_of R cs w

-- all choices, one by one
unfoldable pub choices : ℕ → List Column → List (List ℕ)
choices q [] = [] ∷ []
choices q (c ∷ cs) = each (λ x. map (λ w. x ∷ w) (choices q cs)) (up_to q)

abbrev pub allowed? : Rule → List Column → ℕ → List ℕ → Bool
allowed? R cs t w = leb (deviations cs w) R.most && eqb (weighted_sum R cs w) t

-- "the least cost over choices .. that have at most two deviations and whose weighted sum is" t, by looking at every choice;
-- proofs/Least.antt shows that it is the IsLeast of these (SPEC 2.6)
unfoldable pub least_cost : Rule → List Column → ℕ → ℕ
least_cost R cs t = smallest (map (cost_of R cs) (keep (allowed? R cs t) (choices R.size cs)))

abbrev pub decisions : List Column → List ℕ
decisions = map (λ c. (decision c).symbol)

-- "the sum of all h_k times z_k"
unfoldable pub decided : Rule → List Column → ℕ
decided R cs = weighted_sum R cs (decisions cs)

-- "The shift s_n is the sum of h_k times z_k over all k other than n." (SPEC 2.5)
unfoldable pub shift : Rule → List Column → ℕ → ℕ
shift R cs n = decided R (others n cs)

-- "The cost sent to column n at symbol x is the least cost over choices for the other columns that have at most two deviations and whose
-- weighted sum is h_n times x." (SPEC 2.6)
unfoldable pub sent : Rule → List Column → ℕ → ℕ → ℕ
sent R cs n x = least_cost R (others n cs) (weigh R (column cs n) x)

-- "Write S_n(a) for the cost sent at the x with h_n times x + s_n = a": there h_n times x is a + s_n (SPEC 2.8)
unfoldable pub sent_at : Rule → List Column → ℕ → ℕ → ℕ
sent_at R cs n a = least_cost R (others n cs) (xor a (shift R cs n))

-- The extra column. "E(a) is therefore the least of S_n(a) over the columns, at each degree." (SPEC 2.9)
unfoldable pub extra : Rule → List Column → ℕ → ℕ
extra R cs a = smallest (map (λ n. sent_at R cs n a) (up_to (length cs)))

-- The extra column by the choices for all columns: "the least cost over choices for all columns with at most two deviations whose weighted
-- sum is a plus the sum of all h_k times z_k." Where the degree exceeds k it is E(a) (proofs/Sent.antt, extra_of_all_lem) (SPEC 2.10)
unfoldable pub extra_of_all : Rule → List Column → ℕ → ℕ
extra_of_all R cs a = least_cost R cs (xor a (decided R cs))

abbrev pub weights : List Column → List ℕ
weights = map (λ c. c.weight)

-- all sent costs, "column by column, each column by x"
unfoldable pub all_sent : Rule → List Column → List ℕ
all_sent R cs = each (λ n. map (sent R cs n) (up_to R.size)) (up_to (length cs))
