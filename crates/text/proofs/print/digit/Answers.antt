-- Each branch is one case of the digit, by the test passed.
use borrow.Author.Tests.{lt-ltb, le-ltb}
use Rattle.text.proofs.print.digit.Goals as goal

pub returns-then-n-lt10 : goal.returns-then-n-lt10
returns-then-n-lt10 c = simp (lt-ltb c.args.n 10 c.if-n-lt10.true)

pub returns-else-n-lt10 : goal.returns-else-n-lt10
returns-else-n-lt10 c = simp (le-ltb c.args.n 10 c.if-n-lt10.false)
