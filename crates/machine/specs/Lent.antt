-- The machine over the lent buffers: what the code's loops do, with equations between the buffers alone. Each definition has the name of
-- its literal one in Machine.antt and ends in Lent. proofs/Lent.antt shows that it is the machine of Machine.antt.
use Rattle.std.specs.Prelude.{Bool, false, List, map, ℕ, zero, suc, ◌+◌, eqb, length}
use Rattle.trellis.specs.Lists.{up_to, pick, upto, part, patch}
use Rattle.trellis.specs.Check.{Rule, Column}
use Rattle.trellis.specs.Record.{record_length, record_of, expand_at}
use Rattle.machine.specs.CodeLine.{Edge, Code, rule, check, edge_at}
use Rattle.machine.specs.Machine.{Status, found, not_found, settled, scaled, arriving, spread, place}

-- the costs and the store
pub record Lent : Type 0 where
  pub costs : List ℕ
  pub store : List ℕ

abbrev pub lent : List ℕ → List ℕ → Lent
lent P s = record { costs = P; store = s }

abbrev pub weights_of : List Edge → List ℕ
weights_of es = map (λ n. (edge_at es n).weight) (up_to (length es))

-- the scaled costs that a record's expansion has for column n; 0 in the first iteration
unfoldable pub message_lent : Rule → ℕ → Bool → List ℕ → List ℕ → ℕ → List ℕ
message_lent R g start ws r n = pick start (map (λ x. 0) (up_to R.size)) (map (λ x. scaled g (expand_at R ws r n x)) (up_to R.size))

-- the columns of an update of a check with the edges es, whose record is r
abbrev pub arriving_lent : Rule → ℕ → Bool → List Edge → List ℕ → List ℕ → List Column
arriving_lent R g start es r P = arriving R.size es (message_lent R g start (weights_of es) r) P

-- its new record, and P after it
unfoldable pub record_lent : Rule → ℕ → Bool → List Edge → List ℕ → List ℕ → List ℕ
record_lent R g start es r P = record_of R (arriving_lent R g start es r P)

unfoldable pub costs_lent : Rule → ℕ → Bool → List Edge → List ℕ → List ℕ → List ℕ
costs_lent R g start es r P =
    let cs : List Column = arriving_lent R g start es r P in
    spread R.size es cs (message_lent R g false (weights_of es) (record_of R cs)) P

-- check m's part of a store
abbrev pub record_at : Code → ℕ → List ℕ → List ℕ
record_at C m s = part s (place C m) (record_length (rule C) (length (check C m)))

-- one update of check m
unfoldable pub update_lent : Code → Bool → ℕ → Lent → Lent
update_lent C start m l =
    lent (costs_lent (rule C) C.scale start (check C m) (record_at C m l.store) l.costs)
    (patch l.store (place C m) (record_length (rule C) (length (check C m)))
    (record_lent (rule C) C.scale start (check C m) (record_at C m l.store) l.costs))

unfoldable pub iteration_lent : Code → Bool → Lent → Lent
iteration_lent C start l = upto (update_lent C start) (length C.checks) l

pub record Ended : Type 0 where
  pub status : Status
  pub t : ℕ
  pub lent : Lent

abbrev pub ended : Status → ℕ → Lent → Ended
ended o t l = record { status = o; t = t; lent = l }

-- at most n iterations more, after t
unfoldable pub go_lent : Code → ℕ → ℕ → Lent → Ended
go_lent C zero t l = pick (settled C l.costs) (ended found t l) (ended not_found t l)
go_lent C (suc n) t l = pick (settled C l.costs) (ended found t l) (go_lent C n (t + 1) (iteration_lent C (eqb t 0) l))
