-- What a guard says of the list that it borrows.
use Rattle.std.specs.Prelude.{ℕ, ◌-◌, Bool, List, length, take}
use Rattle.ids.specs.declared.guard.Guard.{Guard}
use Rattle.ids.specs.Value.{ids_of, is_open}

-- The ids of the list as they stand. Once the guard is confirmed, the list has these.
abbrev pub held : Guard → List (List ℕ)
held g = ids_of g.ids.now

-- The ids without those that were added through the guard. Once the guard is dropped, the list has these.
abbrev pub before : Guard → List (List ℕ)
before g = take (length (held g) - g.added) (held g)

-- Does the list take more ids?
abbrev pub open_through : Guard → Bool
open_through g = is_open g.ids.now
