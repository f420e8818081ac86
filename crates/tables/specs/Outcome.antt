-- Steps that may end in a fault, one after another: the first fault is the outcome.
use Rattle.std.specs.Prelude.{Bool, true, false, Ok, Err, Result}
use Rattle.tables.specs.declared.faults.Fault.{Fault}

infixl 10 ◌>>=◌
infixl 10 ◌>>◌
abbrev pub ◌>>=◌ : {A B : Type 0} → Result A Fault → (A → Result B Fault) → Result B Fault
◌>>=◌ (Ok x) f = f x
◌>>=◌ (Err e) f = Err e

abbrev pub ◌>>◌ : {A B : Type 0} → Result A Fault → Result B Fault → Result B Fault
◌>>◌ (Ok x) y = y
◌>>◌ (Err e) y = Err e

-- A condition, and the fault where it fails.
abbrev pub need : Bool → Fault → Result (Unit {0}) Fault
need true e = Ok tt
need false e = Err e
