-- Equal displays, stated of display's own contract: any two calls with first bytes of one field and the same weights that are not refused.
use mathlib.Core.Path.{◌≡◌, sym, ap, ◌∙◌}
use Prim.Native.Nat.{ℕ}
use lib.ListN.{length}
use contract.Lifetimes.{Lfts}
use denote.Triple.Clauses.{AtExit}
use borrow.Fn.Kinds.{ended_of}
use borrow.Fn.World.{ArgsD, ResD}
use Rattle.trellis.specs.Rules.{power_of}
use Rattle.std.specs.Prelude.{Ok}
use Rattle.refusal.specs.Replies.{reply_of}
use Rattle.display.specs.Answers.{display_reply, display_leaves}
use Rattle.display.specs.Views.{SameShown}
use Rattle.display.proofs.Views.{displays-equal}
use Rattle.display.specs.contracts.display as display
use Rattle.display.proofs.display.Kinds as kinds
use Rattle.display.proofs.display.Reads as reads

-- the arguments a and b are first, weights, bytes, out; s and s' hold them as the calls return; reads.Post is display's ensures
module _ (κs κs' : Lfts 3) (a : ArgsD display.signature κs) (b : ArgsD display.signature κs') (r : ResD display.signature κs) (r' : ResD display.signature κs') (s : AtExit (ended_of 3 kinds.ps kinds.r) κs) (s' : AtExit (ended_of 3 kinds.ps kinds.r) κs') where
  pub two-displays : power_of a.0 ≡ power_of b.0 → b.1.0.now ≡ a.1.0.now → (n n' : ℕ) → r ≡ Ok n → r' ≡ Ok n'
      → reads.Post κs a r s → reads.Post κs' b r' s'
      → SameShown (length a.1.0.now) n n' a.1.1.0.now b.1.1.0.now s.1.1.1.0.now s'.1.1.1.0.now
  two-displays e w n n' i j p q =
      displays-equal a.0 b.0 a.1.0.now a.1.1.0.now b.1.1.0.now a.1.1.1.0.now b.1.1.1.0.now n n' s.1.1.1.0.now s'.1.1.1.0.now e
      (record { replies = sym (ap reply_of i) ∙ p.0; out-then = p.1 })
      (record {
        replies = sym (ap reply_of j) ∙ q.0 ∙ ap (λ w. display_reply b.0 w b.1.1.0.now b.1.1.1.0.now) w;
        out-then = q.1 ∙ ap (λ w. display_leaves b.0 w b.1.1.0.now b.1.1.1.0.now) w;
      })
