-- Which id stands at a place, and at which place an id stands first.
use Rattle.std.specs.Prelude.{◌≡◌, ℕ, ◌<◌, ◌≤◌, List, [], length, Option, MatchOption, slice_index_or}
use Rattle.std.specs.Borrow.{Bor}

-- The id stands at place p.
abbrev pub StandsAt : List (List ℕ) → List ℕ → ℕ → Type 0
StandsAt ids id p = (p < length ids) × (slice_index_or ids p [] ≡ id)

-- The answer for place p: the id that stands there, or none past the last.
abbrev pub IdAt : List (List ℕ) → ℕ → Option (Bor (List ℕ)) → Type 0
IdAt ids p r = MatchOption r (length ids ≤ p) (λ id. StandsAt ids id.now p)

-- The answer for an id: a place where it stands, and it stands at no earlier one; or none, and it stands nowhere.
abbrev pub FirstPlace : List (List ℕ) → List ℕ → Option ℕ → Type 0
FirstPlace ids id r =
    MatchOption r ((p : ℕ) → StandsAt ids id p → ⊥) (λ p. StandsAt ids id p × ((q : ℕ) → q < p → StandsAt ids id q → ⊥))
