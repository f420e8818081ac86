-- What verifying tells to C.
use Rattle.std.specs.Prelude.{ℕ, ◌+◌, ◌^◌, cond, List, Ok, Err, Result, ◌==◌}
use Rattle.tables.specs.declared.faults.Fault.{Fault}
use Rattle.tables.specs.declared.records.Limits.{Limits}
use Rattle.tables.specs.Fault.{fault_number}
use Rattle.tables.specs.Visit.{found, counted}

-- The greatest limits.
abbrev pub greatest : Limits
greatest = record { levels = 64; tables = 4096 }

-- The number of tables, or 2^32 plus the number of the refusal.
abbrev pub told : Result ℕ Fault → ℕ
told (Ok n) = n
told (Err e) = 2 ^ 32 + fault_number e

-- What the last of some rounds gives, where each gives n: 0 where there is no round.
abbrev pub last_of : ℕ → ℕ → ℕ
last_of rounds n = cond (rounds == 0) 0 n

-- What verifying with the greatest limits tells of bytes, with `room` records.
abbrev pub told_of : List ℕ → ℕ → ℕ
told_of b room = told (counted (found greatest b room))
