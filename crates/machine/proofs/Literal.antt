-- The sent cost in the words of SPEC 10.3.
use mathlib.Core.Path.{◌≡◌, sym, ap, ◌∙◌}
use mathlib.Core.List.{List}
use Prim.Native.Nat.{ℕ, ◌<◌}
use native.Mathlib.Omega.{arith}
use lib.ListN.{length}
use Rattle.trellis.specs.Lists.{others, put}
use Rattle.trellis.specs.Field.{xor}
use Rattle.trellis.specs.Check.{Rule, Column, Fits, Allowed, IsLeast, weigh, weighted_sum, sent, column}
use Rattle.machine.specs.Decoding.{Completes, LeastSent}
use Rattle.trellis.proofs.Xor.{xor_self, xor_right, xor_cancel}
use Rattle.trellis.proofs.Total.{total-others, fits-put, others_put, at-put}
use Rattle.trellis.proofs.Sent.{Proper, xors}
use Rattle.trellis.proofs.Records.{sent_exists}

module _ (R : Rule) (cs : List Column) (P : Proper R cs) (n x : ℕ) (l : n < length cs) (h : x < R.size) where
  abbrev hx : ℕ
  hx = weigh R (column cs n) x

  sum-put : (w : List ℕ) → Fits R.size (others n cs) w → weighted_sum R cs (put n x w) ≡ xor hx (weighted_sum R (others n cs) w)
  sum-put w f = rw (total-others xor xors (weigh R) (fits-put cs n l h f) n l, at-put cs n x l f, others_put cs n x l f)

  to-allowed : (w : List ℕ) → Completes R cs n x w → Allowed R (others n cs) hx w
  to-allowed w c =
      let e : xor hx (weighted_sum R (others n cs) w) ≡ 0 = sym (sum-put w c.fits) ∙ c.satisfies in
      record { fits = c.fits; few = c.few; sum = sym (xor_cancel hx (weighted_sum R (others n cs) w)) ∙ ap (xor hx) e ∙ xor_right hx }

  of-allowed : (w : List ℕ) → Allowed R (others n cs) hx w → Completes R cs n x w
  of-allowed w a = record { fits = a.fits; few = a.few; satisfies = sum-put w a.fits ∙ ap (xor hx) a.sum ∙ xor_self hx }

  -- the sent cost is that least cost
  pub sent-least : LeastSent R cs n x (sent R cs n x)
  sent-least =
      let j : IsLeast R (others n cs) hx (sent R cs n x) = sent_exists R cs P n x l h in
      record { choice = j.choice; completes = of-allowed _ j.allowed; attained = j.attained; least = λ w c. j.least w (to-allowed w c) }

  -- and there is only one
  pub least-one : (v : ℕ) → LeastSent R cs n x v → v ≡ sent R cs n x
  least-one v s = let t = sent-least in omega (arith, s.least t.choice t.completes, t.least s.choice s.completes, s.attained, t.attained)
