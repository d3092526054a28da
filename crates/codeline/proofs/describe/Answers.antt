-- The reader's answer is the numbers of the line's code, whose length tells the rest.
use mathlib.Core.Path.{refl}
use Rattle.machine.proofs.Described.{line-room, line_store}
use Rattle.codeline.proofs.Answered.{Accepted, header_read}
use Rattle.codeline.proofs.describe.Goals as goal

pub store_length-requires : goal.store_length-requires
store_length-requires c =
    let R : Accepted c.args.code.now c.in-Ok.numbers = header_read c.args.code.now c.code_line.result c.code_line.ensures c.in-Ok.numbers c.in-Ok.is in
    line-room c.args.code.now R.code R.parsed _ _ R.first_is R.checks_is

pub returns-in-Ok : goal.returns-in-Ok
returns-in-Ok c =
    let R : Accepted c.args.code.now c.in-Ok.numbers = header_read c.args.code.now c.code_line.result c.code_line.ensures c.in-Ok.numbers c.in-Ok.is in
    rw R.parsed
    record {
      number_is = refl;
      first_is = R.first_is;
      columns_is = R.columns_is;
      checks_is = R.checks_is;
      scale_is = R.scale_is;
      limit_is = R.limit_is;
      store_is = line_store c.args.code.now R.code R.parsed _ _ R.first_is R.checks_is c.store_length.result c.store_length.ensures;
    }
