-- The number of each refusal.
use Rattle.std.specs.Prelude.{ℕ}
use Rattle.tables.specs.declared.faults.Fault.{Fault}
use Rattle.tables.specs.declared.faults.Fault.TheVariants as fault
use Rattle.tables.specs.declared.faults.Missing.{Missing}
use Rattle.tables.specs.declared.faults.Missing.TheVariants as missing

abbrev pub fault_number : Fault → ℕ
fault_number fault.TooLong = 6
fault_number fault.BadLimit = 7
fault_number fault.PastEnd = 8
fault_number fault.Misaligned = 9
fault_number fault.Malformed = 10
fault_number fault.TooDeep = 11
fault_number fault.TooManyTables = 12
fault_number fault.NoRecord = 13

abbrev pub missing_number : Missing → ℕ
missing_number missing.Table = 22
missing_number missing.Child = 22
