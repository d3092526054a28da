-- The specification's layered machine: start, one update of a check, one iteration, the run with its result. SPEC 6.
use Rattle.std.specs.Prelude.{Bool, List, [], ◌++◌, map, ℕ, zero, suc, ◌+◌, ◌-◌, ◌*◌, ◌/◌, min, eqb, length, get_or, set, replicate, drop}
use Rattle.trellis.specs.Lists.{up_to, smallest, pick, upto, all_to, part, patch, blocks}
use Rattle.trellis.specs.Field.{xor, product}
use Rattle.trellis.specs.Check.{Rule, Column, Decision, column, decide, sent}
use Rattle.trellis.specs.Record.{record_of, record_length}
use Rattle.machine.specs.CodeLine.{Edge, Code, power, size, rule, check, edge_at, column_of}

-- a check's last update: none so far, or the columns (weights and Q) that it had. "its hard decisions, shifts and sent costs are those of
-- this Q", and so is its record
pub data Last : Type 0 where
  none : Last
  made : List Column → Last

-- "Its state: the costs P_n(x) (0 to 510), a record or none for each check, and the iteration number t." (SPEC 6.1)
pub record State : Type 0 where
  pub costs : List ℕ
  pub last : List Last
  pub t : ℕ

abbrev pub last_of : State → ℕ → Last
last_of s m = get_or s.last m none

abbrev pub columns_in : Last → List Column
columns_in none = []
columns_in (made cs) = cs

-- "the decisions (smallest symbol of cost 0 in P_n)", each with its margin (SPEC 6.2)
abbrev pub decision_at : Code → List ℕ → ℕ → Decision
decision_at C P c = decide (column_of (size C) P c)

unfoldable pub symbols : Code → List ℕ → List ℕ
symbols C P = map (λ c. (decision_at C P c).symbol) (up_to C.columns)

unfoldable pub margins : Code → List ℕ → List ℕ
margins C P = map (λ c. (decision_at C P c).margin) (up_to C.columns)

-- the sum of h times x over the first n edges
abbrev pub parity_sum : ℕ → List Edge → List ℕ → ℕ → ℕ
parity_sum p es z n = upto (λ k a. xor a (product p (edge_at es k).weight (get_or z (edge_at es k).column 0))) n 0

-- "It is satisfied when the sum of h_n times x_n is 0." (SPEC 6.2)
abbrev pub satisfied : ℕ → List Edge → List ℕ → Bool
satisfied p es z = eqb (parity_sum p es z (length es)) 0

-- the decisions "satisfy every check"
unfoldable pub settled : Code → List ℕ → Bool
settled C P = all_to (λ m. satisfied (power C) (check C m) (symbols C P)) (length C.checks)

-- "The scaled cost is floor(g times sent cost / 16)." (SPEC 6.6)
abbrev pub scaled : ℕ → ℕ → ℕ
scaled g c = g * c / 16

-- the scaled costs that column n was sent at a check's last update; "0 if none" (SPEC 6.5)
unfoldable pub message : Rule → ℕ → Last → ℕ → List ℕ
message R g none n = map (λ x. 0) (up_to R.size)
message R g (made cs) n = map (λ x. scaled g (sent R cs n x)) (up_to R.size)

abbrev pub less_least : List ℕ → List ℕ
less_least l = map (λ v. v - smallest l) l

abbrev pub capped : List ℕ → List ℕ
capped l = map (λ v. min 255 v) l

-- "subtract the old record's scaled cost (0 if none), subtract the least over x, and cap at 255; this is Q." A difference may be below 0;
-- 255, which no scaled cost exceeds, is added first, and goes away again with the least: no difference of a run is cut off (never_cut,
-- proofs/Offset.antt) (SPEC 6.5, 6.7)
unfoldable pub incoming : ℕ → List ℕ → List ℕ → List ℕ
incoming q P old = capped (less_least (map (λ x. get_or P x 0 + 255 - get_or old x 0) (up_to q)))

-- "The new P is Q plus the scaled cost, less its least over x." (SPEC 6.5)
unfoldable pub outgoing : ℕ → List ℕ → List ℕ → List ℕ
outgoing q Q new = less_least (map (λ x. get_or Q x 0 + get_or new x 0) (up_to q))

-- the columns of an update of a check with the edges es, where column n's old scaled costs are old n
unfoldable pub arriving : ℕ → List Edge → (ℕ → List ℕ) → List ℕ → List Column
arriving q es old P =
    map (λ n. record { weight = (edge_at es n).weight; costs = incoming q (column_of q P (edge_at es n).column) (old n) }) (up_to (length es))

-- P after it, where column n's new scaled costs are new n
unfoldable pub spread : ℕ → List Edge → List Column → (ℕ → List ℕ) → List ℕ → List ℕ
spread q es cs new P =
    upto (λ n (P : List ℕ). patch P ((edge_at es n).column * q) q (outgoing q (column cs n).costs (new n))) (length es) P

-- "This is one update of the check", of check m (SPEC 6.5)
unfoldable pub update : Code → ℕ → State → State
update C m s =
    let cs : List Column = arriving (size C) (check C m) (message (rule C) C.scale (last_of s m)) s.costs in
    record {
      costs = spread (size C) (check C m) cs (message (rule C) C.scale (made cs)) s.costs;
      last = set s.last m (made cs);
      t = s.t;
    }

-- "An iteration adds 1 to t and takes the checks in code order." (SPEC 6.4)
unfoldable pub iteration : Code → State → State
iteration C s = upto (update C) (length C.checks) (record { costs = s.costs; last = s.last; t = s.t + 1 })

-- "Start: P is the frame, no records, t = 0." (SPEC 6.3)
abbrev pub start : Code → List ℕ → State
start C f = record { costs = f; last = replicate (length C.checks) none; t = 0 }

pub data Status : Type 0 where
  found : Status
  not_found : Status

pub record Result : Type 0 where
  pub status : Status
  pub end : State

abbrev pub result : Status → State → Result
result o s = record { status = o; end = s }

-- at most n iterations more. "all checks satisfied means found. Otherwise, if t = I, not found." (SPEC 6.3, 6.4)
unfoldable pub go : Code → ℕ → State → Result
go C zero s = pick (settled C s.costs) (result found s) (result not_found s)
go C (suc n) s = pick (settled C s.costs) (result found s) (go C n (iteration C s))

unfoldable pub run : Code → List ℕ → Result
run C f = go C C.limit (start C f)

-- the place of check m's record in the store; "as many bytes as the M record lengths add up to" (SPEC 7.6.2)
unfoldable pub place : Code → ℕ → ℕ
place C m = upto (λ k a. a + record_length (rule C) (length (check C k))) m 0

abbrev pub used : Code → ℕ
used C = place C (length C.checks)

-- "the record store holds the records end to end in code order": those of the last updates (SPEC 7.6.3)
abbrev pub record_in : Code → Last → List ℕ
record_in C none = []
record_in C (made cs) = record_of (rule C) cs

unfoldable pub records : Code → State → List ℕ
records C s = blocks (λ m. record_in C (last_of s m)) (length C.checks)

-- check m's place in a store that held s₀: its record, or the old bytes where it has none
abbrev pub piece_of : Code → List ℕ → ℕ → Last → List ℕ
piece_of C s₀ m none = part s₀ (place C m) (record_length (rule C) (length (check C m)))
piece_of C s₀ m (made cs) = record_of (rule C) cs

-- the whole store; "Elements past the used part .. keep their old content."
unfoldable pub held : Code → List ℕ → State → List ℕ
held C s₀ s = blocks (λ m. piece_of C s₀ m (last_of s m)) (length C.checks) ++ drop (used C) s₀
