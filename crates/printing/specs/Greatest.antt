-- The greatest number among the tables of records.
use Rattle.std.specs.Prelude.{ℕ, max, List, Some, None, fold, Option}
use Rattle.tables.specs.declared.records.Table.{Table}
use Rattle.tables.specs.declared.records.Record.{Record}

-- A number of the table in a record, and the least of an empty one.
abbrev pub number_or : {T : Type 0} → T → (Table → T) → Option (Record ℕ) → T
number_or least f (Some r) = f r.table
number_or least f None = least

-- A number of the table in a record, and 0 of an empty one.
abbrev pub number_of : (Table → ℕ) → Option (Record ℕ) → ℕ
number_of f r = number_or 0 f r

abbrev pub greatest : (Table → ℕ) → List (Option (Record ℕ)) → ℕ
greatest f records = fold (λ n r. max n (number_of f r)) 0 records
