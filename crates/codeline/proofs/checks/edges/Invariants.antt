-- What is left to read gives what the whole gives: a turn puts one edge behind the others.
use Rattle.std.proofs.Common.{◌≡◌, ◌+◌, ◌-◌, ◌*◌, take}
use Rattle.machine.specs.inner.Tables.{edges_into}
use Rattle.codeline.specs.inner.Reading.{put_columns, put_weights}
use Rattle.codeline.proofs.checks.edges.Given as goal

abbrev pub invariant-loop-i : goal.invariant-loop-i
invariant-loop-i l =
    (l.line.src ≡ l.fn.line.src)
    × ((l.line.at ≡ l.fn.line.at + 3 * l.i)
    × ((l.tables.edges ≡ l.fn.tables.edges)
    × ((l.tables.degrees ≡ l.fn.tables.degrees)
    × (edges_into (l.count - l.i) l.fn.line.src.now l.line.at l.n l.q l.low (take (l.fn.tables.edges + l.i) l.tables.columns) (take (l.fn.tables.edges + l.i) l.tables.weights)
    ≡ edges_into l.count l.fn.line.src.now l.fn.line.at l.n l.q 0 (put_columns l.fn.tables) (put_weights l.fn.tables)))))
