-- What the questions on records answer.
use Rattle.std.specs.Prelude.{ℕ, ◌+◌, ◌*◌, ◌/◌, cond, List, length, take, drop, Some, None, Ok, Err, Option, Result, nat_le, nat_lt, slice_index_or}
use Rattle.tables.specs.declared.faults.Missing.{Missing}
use Rattle.tables.specs.declared.faults.Missing.TheVariants as missing
use Rattle.tables.specs.declared.records.Part.{Part}
use Rattle.tables.specs.declared.records.Table.{Table}
use Rattle.tables.specs.declared.records.Record.{Record}
use Rattle.tables.specs.Read.{little}

abbrev pub held : {M : Type 0} → Option (Record M) → Result Table Missing
held (Some r) = Ok r.table
held None = Err missing.Table

-- The table in the record of a number, if there is one.
abbrev pub table_at : {M : Type 0} → List (Option (Record M)) → ℕ → Result Table Missing
table_at records n = held (slice_index_or records n None)

-- The bytes of a vector's elements, w each.
abbrev pub part_of : ℕ → List ℕ → Part → List ℕ
part_of w b p = take (p.count * w) (drop p.from b)

abbrev pub part_in : ℕ → List ℕ → Part → Result (List ℕ) Missing
part_in w b p = cond (nat_le (p.from + p.count * w) (length b)) (Ok (part_of w b p)) (Err missing.Table)

abbrev pub metadata_in : List ℕ → Result Table Missing → Result (List ℕ) Missing
metadata_in b (Ok t) = part_in 1 b t.metadata
metadata_in b (Err e) = Err e

abbrev pub metadata_at : {M : Type 0} → List ℕ → List (Option (Record M)) → ℕ → Result (List ℕ) Missing
metadata_at b records n = metadata_in b (table_at records n)

abbrev pub segments_in : List ℕ → Result Table Missing → Result (List ℕ) Missing
segments_in b (Ok t) = part_in 4 b t.segments
segments_in b (Err e) = Err e

abbrev pub segments_at : {M : Type 0} → List ℕ → List (Option (Record M)) → ℕ → Result (List ℕ) Missing
segments_at b records n = segments_in b (table_at records n)

-- The k-th number of four bytes.
abbrev pub number_at : List ℕ → ℕ → Option ℕ
number_at b k = cond (nat_lt k (length b / 4)) (Some (little 4 b (4 * k))) None
