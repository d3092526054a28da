-- What each public call answers, by the numbers of a line and its degrees: refusals in the documents' order, 0 for none.
-- layered/proofs/{Decoded,Steps}.antt show that under a code these are the machine's.
use Rattle.std.specs.Prelude.{Bool, ◌&&◌, ◌||◌, List, [], ◌∷◌, ℕ, ◌*◌, min, eqb, ltb, leb, length, get_or}
use Rattle.trellis.specs.Lists.{all_to, part}
use Rattle.trellis.specs.Refusals.{when, unless, fault_by}
use Rattle.trellis.specs.Record.{record_length, record_ok}
use Rattle.trellis.specs.Rules.{size_of, rule_for}
use Rattle.machine.specs.CodeLine.{frame_tests, zero_in}
use Rattle.machine.specs.Decoding.{room_tests, decode_tests}
use Rattle.machine.specs.inner.Tables.{bytes_before}
use Rattle.codeline.specs.declared.answers.Numbers.{Numbers}
use Rattle.frame.specs.declared.Lengths.{Lengths}

-- a frame's refusal by the first byte and N
unfoldable pub frame_fault_of : ℕ → ℕ → List ℕ → ℕ
frame_fault_of first n f = fault_by (frame_tests (size_of first) n f)

-- that of the buffers by their lengths
unfoldable pub room_fault_of : ℕ → ℕ → ℕ → ℕ → ℕ → ℕ → ℕ → ℕ
room_fault_of n w u y c s v = fault_by (room_tests n w u y c s v)

-- the same, of each buffer by what it needs itself
abbrev pub short_fault : Lengths → Lengths → ℕ
short_fault needed lent =
    fault_by
    (when (ltb lent.symbols needed.symbols) 2
    ∷ when (ltb lent.costs needed.costs) 3
    ∷ when (ltb lent.store needed.store) 4
    ∷ when (ltb lent.margins needed.margins) 19
    ∷ [])

-- both, "12, 13, 2, 3, 4", 19
unfoldable pub fault_of : Numbers → List ℕ → List ℕ → ℕ → ℕ → ℕ → ℕ → ℕ
fault_of k ds f y c s v =
    fault_by (decode_tests (size_of k.first) k.columns (bytes_before k.first ds (min k.checks (length ds))) f y c s v)

-- n columns of q costs, neither "a cost above 510" nor "a column without a 0"
abbrev pub low_cost : List ℕ → ℕ → Bool
low_cost l i = leb (get_or l i 0) 510

unfoldable pub costs_in : ℕ → ℕ → List ℕ → Bool
costs_in q n c = leb (n * q) (length c) && (all_to (low_cost c) (n * q) && all_to (zero_in q c) n)

-- check m's record in the store is of accepted form
abbrev pub formed_at : ℕ → List ℕ → List ℕ → ℕ → Bool
formed_at first ds s m =
    record_ok (rule_for first) (get_or ds m 0) (part s (bytes_before first ds m) (record_length (rule_for first) (get_or ds m 0)))

-- "if t is not 0, .. each stored record", of m checks
unfoldable pub records_in : ℕ → List ℕ → ℕ → ℕ → List ℕ → Bool
records_in first ds m t s = eqb t 0 || all_to (formed_at first ds s) m

-- "then 13 .. then, if t is not 0, 16"
unfoldable pub resume_fault : Numbers → List ℕ → ℕ → List ℕ → List ℕ → ℕ
resume_fault k ds t c s =
    fault_by
    (unless (costs_in (size_of k.first) k.columns c) 13
    ∷ unless (records_in k.first ds (min k.checks (length ds)) t s) 16
    ∷ [])
