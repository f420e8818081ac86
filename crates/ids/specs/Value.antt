-- What an ids list holds: its ids, and whether it is open.
use Rattle.std.specs.Prelude.{ℕ, Bool, not, List, map, take}
use Rattle.ids.specs.declared.list.Ids.{Ids}

-- The ids of a list, in their order. The place of an id is its index here, from 0.
abbrev pub ids_of : Ids → List (List ℕ)
ids_of s = map (λ id. id.items) (take s.count s.room)

-- Does the list take more ids?
abbrev pub is_open : Ids → Bool
is_open s = not s.closed
