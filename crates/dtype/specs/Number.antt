-- The number of each refusal.
use Rattle.std.specs.Prelude.{ℕ, Some, None, Option}
use Rattle.dtype.specs.declared.faults.Fault.{Fault}
use Rattle.dtype.specs.declared.faults.Fault.TheVariants as fault

-- Want of memory is no fault of the text, and has no number.
abbrev pub fault_number : Fault → Option ℕ
fault_number fault.Size = Some 1
fault_number (fault.Form n) = Some 2
fault_number (fault.Shape n) = Some 3
fault_number fault.Memory = None

-- The bad line.
abbrev pub fault_line : Fault → Option ℕ
fault_line fault.Size = None
fault_line (fault.Form n) = Some n
fault_line (fault.Shape n) = Some n
fault_line fault.Memory = None
