-- The number of each refusal.
use Rattle.std.specs.Prelude.{ℕ}
use Rattle.ids.specs.declared.faults.Fault.{Fault}
use Rattle.ids.specs.declared.faults.Fault.TheVariants.{Length, Full, Closed}

abbrev pub fault_number : Fault → ℕ
fault_number Length = 4
fault_number Full = 5
fault_number Closed = 29
