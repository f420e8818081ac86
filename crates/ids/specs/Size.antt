-- How long an id is.
use Rattle.std.specs.Prelude.{ℕ, ◌≤◌, List, length}

-- 1 to 64 bytes.
abbrev pub Sized : List ℕ → Type 0
Sized id = (1 ≤ length id) × (length id ≤ 64)
