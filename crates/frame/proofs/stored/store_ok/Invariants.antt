-- Each record passed is of accepted form, and what is left of the store is behind them.
use Rattle.std.proofs.Common.{◌≡◌, true, drop}
use Rattle.trellis.specs.Lists.{all_to}
use Rattle.machine.specs.inner.Tables.{bytes_before}
use Rattle.frame.specs.Answers.{formed_at}
use Rattle.frame.proofs.stored.store_ok.Given as goal

abbrev pub invariant-loop-degree : goal.invariant-loop-degree
invariant-loop-degree l =
    (l.rest ≡ drop (bytes_before l.first l.degrees l.degree-index) l.store)
    × (all_to (formed_at l.first l.degrees l.store) l.degree-index ≡ true)
