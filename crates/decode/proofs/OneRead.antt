-- What one read says of the bytes that the reader has left, over the whole buffer that it fills the front of.
use Rattle.std.proofs.Common.{◌≡◌, ℕ, ◌<◌, ◌++◌, min, List, length, take, Ok, Err, MatchResult, arith}
use Rattle.std.specs.Prelude.{Result, Option}
use Rattle.std.specs.Io.{ReadsAtMost}
use Rattle.std.specs.Io.KnownBytes.{Consumes, Keeps, IsAtEnd, ReadConsumes}
use Rattle.std.proofs.lemmas.List.{take-append-le}

pub reads : {E : Type 0} (old new : Option (List ℕ)) (r : Result ℕ E) (buf rest : List ℕ) (k left len : ℕ) → k ≡ min left len → length buf ≡ k
    → ReadsAtMost r buf → ReadConsumes old new r buf
    → MatchResult r (λ n. Consumes old new (take n (buf ++ rest)) × (n ≡ 0 → 0 < left → 0 < len → IsAtEnd new)) (λ _. Keeps old new)
reads old new (Ok n) buf rest k left len m l b h =
    (rw (take-append-le n buf rest b.0) h.0, λ z p q. h.1 z (omega arith))
reads old new (Err e) buf rest k left len m l b h = h
