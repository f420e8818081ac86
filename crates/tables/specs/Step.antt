-- The steps of the visit, one table at a time, as the functions inside the verifier take them.
use Rattle.std.specs.Prelude.{◌≡◌, ℕ, ◌+◌, ◌≤◌, List, ◌++◌, map, length, take, Ok, Err, Option, Result}
use Rattle.tables.specs.declared.faults.Fault.{Fault}
use Rattle.tables.specs.declared.records.Table.{Table}
use Rattle.tables.specs.declared.records.Record.{Record}
use Rattle.tables.specs.declared.reads.Field.{Field}
use Rattle.tables.specs.declared.reads.Field.TheVariants as field
use Rattle.tables.specs.declared.reads.Vtable.{Vtable}
use Rattle.tables.specs.declared.visit.Fields.{Fields}
use Rattle.tables.specs.declared.visit.Visit.{Visit}
use Rattle.tables.specs.Outcome.{◌>>=◌}
use Rattle.tables.specs.Read.{entry, scalar, vector}
use Rattle.tables.specs.Visit.{visit, fresh}

-- The position of a field's entry in a vtable.
abbrev pub position : Field → ℕ
position field.Encoding = 4
position field.Rows = 6
position field.Metadata = 8
position field.Children = 10
position field.Segments = 12

-- What the fields of the table at place t say that are read before its children.
abbrev pub fields : List ℕ → Vtable → ℕ → Result Fields Fault
fields b v t = do
  e ← scalar 2 b t (entry b v 4)
  r ← scalar 8 b t (entry b v 6)
  m ← vector 1 b t (entry b v 8)
  k ← vector 4 b t (entry b v 10)
  Ok (record { encoding = e; rows = r; metadata = m; children = k })

-- The visit of the i-th child of the table of number `parent`, at a depth.
abbrev pub child : ℕ → List ℕ → ℕ → ℕ → ℕ → ℕ → ℕ → ℕ → ℕ → Result (List Table) Fault
child levels b most room parent depth i = visit levels b most room (record { parent = parent; depth = depth; index = i })

-- What a visit that begins at number n leaves: its answer, how many tables are met, and the records. The tables that were found
-- are recorded behind those of before.
abbrev pub Adds : {M : Type 0} → Result (List Table) Fault → ℕ → List (Option (Record M)) → Result (Unit {0}) Fault → ℕ → List (Option (Record M)) → Type 0
Adds (Ok rows) n before r m after = (r ≡ Ok tt) × (m ≡ n + length rows) × (m ≤ length after) × (take m after ≡ take n before ++ map fresh rows)
Adds (Err e) n before r m after = r ≡ Err e

-- What a visit leaves as it was: the bytes, how many tables there may be, how many records there are, and whose they are.
pub record Keeps {M : Type 0} (before after : Visit M) : Type 0 where
  pub bytes : after.bytes ≡ before.bytes
  pub most : after.most ≡ before.most
  pub room : length after.records.now ≡ length before.records.now
  pub named : after.records.ghost_name ≡ before.records.ghost_name

-- The first records are the tables that were found.
abbrev pub Kept : {M : Type 0} → Result (List Table) Fault → List (Option (Record M)) → Type 0
Kept (Ok rows) records = take (length rows) records ≡ map fresh rows
Kept (Err e) records = Unit {0}
