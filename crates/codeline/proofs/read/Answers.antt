-- The numbers before the checks and the tables of the checks make the whole line.
use Rattle.codeline.proofs.Parsing.{read_filled}
use Rattle.codeline.proofs.read.Goals as goal

pub returns-clause-tables : goal.returns-clause-tables
returns-clause-tables c =
    let line = c.new-line.ensures.src in
    read_filled c.args.code.now c.in_ok-numbers.numbers (rw line at c.in_ok-numbers.ensures.numbers) c.checks.new.tables c.in_ok-numbers.ensures.checks c.checks.ensures.degrees
    (rw (c.head.ensures.src, line, c.in_ok-numbers.ensures.at) at c.in_ok-checks.ensures.read)
