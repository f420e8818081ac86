-- What a walk over all tables adds up.
use Rattle.std.specs.Prelude.{ℕ, zero, suc, ◌+◌, ◌/◌, ◌%◌, ◌^◌, List, length, Ok, Err, Option, Result, slice_index}
use Rattle.std.specs.Option.{unwrap_or}
use Rattle.tables.specs.declared.faults.Fault.{Fault}
use Rattle.tables.specs.declared.faults.Missing.{Missing}
use Rattle.tables.specs.declared.records.Table.{Table}
use Rattle.tables.specs.declared.records.Record.{Record}
use Rattle.tables.specs.Answer.{table_at, metadata_at, segments_at, number_at}
use Rattle.tables.specs.Visit.{found, counted, recorded}
use Rattle.tables_c.specs.Tell.{greatest, last_of}

-- Sums wrap at 2^64.
abbrev pub plus : ℕ → ℕ → ℕ
plus a b = (a + b) % 2 ^ 64

-- The sum of f k over all k below n.
abbrev pub sum_to : (ℕ → ℕ) → ℕ → ℕ
sum_to f zero = 0
sum_to f (suc n) = plus (sum_to f n) (f n)

-- A table adds its rows and its encoding.
abbrev pub fields_sum : Result Table Missing → ℕ
fields_sum (Ok t) = plus t.rows t.encoding
fields_sum (Err e) = 0

-- Metadata adds its length, and its first byte if there is one.
abbrev pub metadata_sum : Result (List ℕ) Missing → ℕ
metadata_sum (Ok m) = plus (length m) (slice_index m 0)
metadata_sum (Err e) = 0

-- Segments add their numbers.
abbrev pub segments_sum : Result (List ℕ) Missing → ℕ
segments_sum (Ok b) = sum_to (λ k. unwrap_or (number_at b k) 0) (length b / 4)
segments_sum (Err e) = 0

-- What the table of number n adds.
abbrev pub table_sum : List ℕ → List (Option (Record ℕ)) → ℕ → ℕ
table_sum b records n = plus (plus (fields_sum (table_at records n)) (metadata_sum (metadata_at b records n))) (segments_sum (segments_at b records n))

-- What the tables of all numbers below n add.
abbrev pub tables_sum : List ℕ → List (Option (Record ℕ)) → ℕ → ℕ
tables_sum b records n = sum_to (table_sum b records) n

-- What the last of some rounds over all tables adds up: 0 where the bytes are refused.
abbrev pub walked : List ℕ → ℕ → Result ℕ Fault → List (Option (Record ℕ)) → ℕ
walked b rounds (Ok n) records = last_of rounds (tables_sum b records n)
walked b rounds (Err e) records = 0

-- The walk over the records that verifying with the greatest limits makes, of which there are `room`.
abbrev pub walk_of : List ℕ → ℕ → ℕ → ℕ
walk_of b rounds room = walked b rounds (counted (found greatest b room)) (recorded (found greatest b room) room)
