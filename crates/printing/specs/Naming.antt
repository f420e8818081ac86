-- The names in a line.
use Rattle.std.specs.Prelude.{◌≡◌, ℕ, List, ◌∷◌, ◌++◌}
use Rattle.std.specs.Str.Iter.{LacksByte}
use Rattle.printing.specs.declared.naming.Sources.{Sources}
use Rattle.printing.specs.declared.naming.Sources.TheVariants.{Alone, Three}

-- A line of three names, none of which has a tab, with a tab between two.
pub record Parted (line tables dtype ids : List ℕ) : Type 0 where
  pub whole : line ≡ tables ++ (9 ∷ (dtype ++ (9 ∷ ids)))
  pub first : LacksByte 9 tables
  pub second : LacksByte 9 dtype
  pub third : LacksByte 9 ids

-- The sources that a line names.
abbrev pub Named : List ℕ → Sources → Type 0
Named line (Alone name) = (name.now ≡ line) × LacksByte 9 line
Named line (Three names) = Parted line names.tables.now names.dtype.now names.ids.now

-- A line that names nothing.
pub record Unnamed (line : List ℕ) : Type 0 where
  pub not_one : LacksByte 9 line → ⊥
  pub not_three : (tables dtype ids : List ℕ) → Parted line tables dtype ids → ⊥
