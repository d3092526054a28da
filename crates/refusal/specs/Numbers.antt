-- The number of each refusal. SPEC 8.
use Rattle.std.specs.Prelude.{ℕ}
use Rattle.refusal.specs.declared.Refusal.{Refusal}
use Rattle.refusal.specs.declared.Refusal.TheVariants.{
  OutputTooShort,
  CostsTooShort,
  StoreTooShort,
  CodeLength,
  FirstByte,
  Counts,
  ScaleOrLimit,
  Degree,
  Column,
  Weight,
  CostCount,
  NoZeroCost,
  Digit,
  LineTooLong,
  RecordForm,
  NotEncodable,
  Message,
  MarginsTooShort,
  ChannelCount,
  Allowance,
  SecondFrame,
}

abbrev pub number_of : Refusal → ℕ
number_of OutputTooShort = 2
number_of CostsTooShort = 3
number_of StoreTooShort = 4
number_of CodeLength = 5
number_of FirstByte = 6
number_of Counts = 7
number_of ScaleOrLimit = 8
number_of Degree = 9
number_of Column = 10
number_of Weight = 11
number_of CostCount = 12
number_of NoZeroCost = 13
number_of Digit = 14
number_of LineTooLong = 15
number_of RecordForm = 16
number_of NotEncodable = 17
number_of Message = 18
number_of MarginsTooShort = 19
number_of ChannelCount = 21
number_of Allowance = 22
number_of SecondFrame = 23
