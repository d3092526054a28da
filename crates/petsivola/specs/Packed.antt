-- A reply as one number for C. SPEC 7.8.2.
use Rattle.std.specs.Prelude.{◌≡◌, ℕ, ◌/◌, ◌%◌}
use Rattle.trellis.specs.Reply.{Reply, found_in, not_found_in}
use Rattle.layered.specs.declared.answers.Outcome.{Outcome}
use Rattle.layered.specs.declared.answers.Outcome.TheVariants.{Found, NotFound}

-- What include/petsivola.h reads from a result: PETSIVOLA_NUMBER is the specification's number (0 accepted or found, 1 not found, else the
-- refusal's), PETSIVOLA_VALUE the value (the product, the bytes written, t, or the check updates; 0 on a refusal). The two fix the
-- result: number times 65,536, plus the value
pub record Packs (result : ℕ) (r : Reply) : Type 0 where
  pub number : result / 65536 ≡ r.number
  pub value : result % 65536 ≡ r.value

abbrev pub outcome_reply : Outcome → Reply
outcome_reply (Found t) = found_in t
outcome_reply (NotFound t) = not_found_in t
