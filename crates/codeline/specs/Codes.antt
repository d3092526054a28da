-- A code whose tables are lent, as the code that they say.
use Rattle.machine.specs.CodeLine.{Code}
use Rattle.codeline.specs.inner.Coding.{code_of}
use Rattle.codeline.specs.declared.code.Code.{Code as LentCode}

abbrev pub lent_code : LentCode → Code
lent_code c = code_of c.numbers c.degrees.now c.columns.now c.weights.now
