-- What it is for records to be a layout in visiting order, a parent before its children and each child's tables together; and what
-- verifying promises.
use Rattle.std.specs.Prelude.{◌≡◌, ℕ, zero, suc, ◌+◌, ◌*◌, ◌≤◌, List, [], ◌∷◌, ◌++◌, length, Ok, Err, Option, Result}
use Rattle.tables.specs.declared.faults.Fault.{Fault}
use Rattle.tables.specs.declared.faults.Missing.{Missing}
use Rattle.tables.specs.declared.faults.Missing.TheVariants as missing
use Rattle.tables.specs.declared.records.Limits.{Limits}
use Rattle.tables.specs.declared.records.Table.{Table}
use Rattle.tables.specs.declared.records.Record.{Record}
use Rattle.tables.specs.declared.visit.Spot.{Spot}
use Rattle.tables.specs.Answer.{part_of, table_at}
use Rattle.tables.specs.Format.{Layout, Layouts, Stands, Root, numbers, size, sizes, height}
use Rattle.tables.specs.Visit.{below, top}

-- How many layouts there are.
abbrev pub many : Layouts → ℕ
many Layouts.none = 0
many (Layouts.◌with◌ k ks) = suc (many ks)

-- A record tells of a layout: where it stands, its own fields, how many children it has and how many tables are below it.
abbrev pub Tells : Layout → List ℕ → Table → Type 0
Tells (Layout.layout e r m ks s) b row =
    Stands (Layout.layout e r m ks s) b row.place × (row.encoding ≡ e) × (row.rows ≡ r)
    × (row.metadata.from + row.metadata.count * 1 ≤ length b) × (part_of 1 b row.metadata ≡ m)
    × (row.segments.from + row.segments.count * 4 ≤ length b) × (numbers b row.segments.from row.segments.count ≡ s)
    × (row.children ≡ many ks) × (row.below ≡ sizes ks)

-- A record tells where its table is met: its parent's number, its depth, its place among the children.
abbrev pub MetAt : Spot → Table → Type 0
MetAt w row = (row.parent ≡ w.parent) × (row.depth ≡ w.depth) × (row.index ≡ w.index)

-- The rows are a layout that is met at w, whose own number is n; the rows are the children of n from the i-th on, whose first has number c.
abbrev mutual
  pub Lists : Layout → List ℕ → Spot → ℕ → List Table → Type 0
  Lists (Layout.layout e r m ks s) b w n rows =
      (row : Table) × (rest : List Table) × (rows ≡ row ∷ rest) × Tells (Layout.layout e r m ks s) b row × MetAt w row × ListAll ks b w n 0 (n + 1) rest

  pub ListAll : Layouts → List ℕ → Spot → ℕ → ℕ → ℕ → List Table → Type 0
  ListAll Layouts.none b w n i c rows = rows ≡ []
  ListAll (Layouts.◌with◌ k ks) b w n i c rows =
      (first : List Table) × (others : List Table) × (rows ≡ first ++ others) × Lists k b (below w n i) c first × ListAll ks b w n (i + 1) (c + size k) others

-- The table of number k among the rows.
abbrev pub row_at : List Table → ℕ → Result Table Missing
row_at [] k = Err missing.Table
row_at (row ∷ rows) zero = Ok row
row_at (row ∷ rows) (suc k) = row_at rows k

-- Records hold a layout that stands in the bytes and has at most 4,096 tables: under each number is the table that is visited
-- in that turn, and under no other number is any. What a layer above keeps in the marks does not matter.
abbrev pub Holds : {M : Type 0} → List ℕ → Layout → List (Option (Record M)) → Type 0
Holds b T records = Root b T × (size T ≤ 4096) × ((rows : List Table) × Lists T b top 0 rows × ((k : ℕ) → table_at records k ≡ row_at rows k))

-- Bytes and limits are in range.
abbrev pub InRange : Limits → List ℕ → Type 0
InRange limits b = (length b ≤ 1048576) × (1 ≤ limits.levels) × (limits.levels ≤ 64) × (1 ≤ limits.tables) × (limits.tables ≤ 4096)

-- A layout is within the limits and the number of records.
abbrev pub Within : Limits → ℕ → Layout → Type 0
Within limits room T = (height T ≤ limits.levels) × (size T ≤ limits.tables) × (size T ≤ room)

-- What verifying tells: bytes are accepted exactly when some layout stands at the root within limits and records. It is the only
-- one, its number of tables is the answer, and the records hold it.
abbrev pub Verified : {M : Type 0} → Limits → List ℕ → ℕ → Result ℕ Fault → List (Option (Record M)) → Type 0
Verified limits b room (Ok n) records =
    InRange limits b × ((T : Layout) × Root b T × Within limits room T × (n ≡ size T) × Holds b T records × ((U : Layout) → Root b U → U ≡ T))
Verified limits b room (Err e) records = InRange limits b → (T : Layout) → Root b T → Within limits room T → ⊥
