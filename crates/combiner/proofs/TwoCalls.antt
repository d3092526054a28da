-- Either order, stated of combine's own contract: two calls with the frames turned, on buffers of the same content.
use mathlib.Core.Path.{◌≡◌, ◌∙◌}
use mathlib.Core.List.{List}
use Prim.Native.Nat.{ℕ}
use contract.Lifetimes.{Lfts}
use denote.Triple.Clauses.{AtExit}
use borrow.Fn.Kinds.{ended_of}
use borrow.Fn.World.{ArgsD, ResD}
use Rattle.machine.specs.CodeLine.{Code}
use Rattle.machine.specs.Decoding.{Accepts}
use Rattle.machine.specs.Combining.{combining}
use Rattle.machine.proofs.Combining.{either_order}
use Rattle.refusal.specs.Replies.{reply_of}
use Rattle.combiner.specs.contracts.combine as combine
use Rattle.combiner.proofs.combine.Kinds as kinds
use Rattle.combiner.proofs.combine.Reads as reads

given : {A : Type 0} (f : List ℕ → List ℕ → List ℕ → List ℕ → A) {a b c d a' b' c' d' : List ℕ} → a ≡ a' → b ≡ b' → c ≡ c' → d ≡ d' → f a b c d ≡ f a' b' c' d'
given f h i j k = rw (h, i, j, k)

-- the arguments a and b are code, first, second, out; s and s' hold them as the calls return; reads.Post is combine's ensures
module _ (κs κs' : Lfts 4) (a : ArgsD combine.signature κs) (b : ArgsD combine.signature κs') (r : ResD combine.signature κs) (r' : ResD combine.signature κs') (s : AtExit (ended_of 4 kinds.ps kinds.r) κs) (s' : AtExit (ended_of 4 kinds.ps kinds.r) κs') where
  pub two_combinations : b.0.now ≡ a.0.now → b.1.0.now ≡ a.1.1.0.now → b.1.1.0.now ≡ a.1.0.now → b.1.1.1.0.now ≡ a.1.1.1.0.now
      → (C : Code) → Accepts a.0.now a.1.0.now C → Accepts a.0.now a.1.1.0.now C
      → reads.Post κs a r s → reads.Post κs' b r' s'
      → (reply_of r ≡ reply_of r') × (s.1.1.1.0.now ≡ s'.1.1.1.0.now)
  two_combinations h i j k C A B p q =
      (either_order a.0.now a.1.0.now a.1.1.0.now C A B).calls a.1.1.1.0.now (reply_of r) (reply_of r') s.1.1.1.0.now s'.1.1.1.0.now
      (record { replies = p.0; out-then = p.1 })
      (record { replies = q.0 ∙ given (λ c f g o. (combining c f g o).reply) h i j k; out-then = q.1 ∙ given (λ c f g o. (combining c f g o).out) h i j k })
