-- The status that a program ends with.
use Rattle.std.specs.Prelude.{ℕ, Bool, true, false, Ok, Err, Result}
use Rattle.listing.specs.declared.failures.Failure.{Failure}

-- 0 where every file was listed, and 1 where one was not or the program could not go on.
abbrev pub status_of : Result Bool Failure → ℕ
status_of (Ok true) = 0
status_of (Ok false) = 1
status_of (Err e) = 1
