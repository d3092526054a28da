-- What is left to read gives what the whole gives: a turn reads one check behind the edges so far and stores its degree.
use Rattle.std.proofs.Common.{◌≡◌, [], ◌-◌, length, take}
use Rattle.trellis.specs.Rules.{size_of}
use Rattle.machine.specs.inner.Tables.{checks_into}
use Rattle.codeline.specs.inner.Reading.{put_columns, put_weights}
use Rattle.codeline.proofs.checks.checks.Given as goal

abbrev pub invariant-loop-m : goal.invariant-loop-m
invariant-loop-m l =
    (l.line.src ≡ l.fn.line.src)
    × ((length l.tables.degrees ≡ 128)
    × ((l.edges ≡ l.tables.edges)
    × (checks_into (l.fn.numbers.checks - l.m) l.fn.line.src.now l.line.at l.fn.numbers.columns (size_of l.fn.numbers.first) l.tables.edges (take l.m l.tables.degrees) (put_columns l.tables) (put_weights l.tables)
    ≡ checks_into l.fn.numbers.checks l.fn.line.src.now l.fn.line.at l.fn.numbers.columns (size_of l.fn.numbers.first) 0 [] [] [])))
