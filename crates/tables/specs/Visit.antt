-- The visit of all tables from the root on: which fault comes first, and what is found.
use Rattle.std.specs.Prelude.{ℕ, zero, suc, ◌+◌, ◌-◌, ◌&&◌, List, [], ◌∷◌, ◌++◌, map, length, replicate, Some, None, Ok, Err, Option, Result, nat_le, nat_lt}
use Rattle.tables.specs.declared.faults.Fault.{Fault}
use Rattle.tables.specs.declared.faults.Fault.TheVariants.{TooLong, BadLimit, TooDeep, TooManyTables, NoRecord}
use Rattle.tables.specs.declared.records.Limits.{Limits}
use Rattle.tables.specs.declared.records.Table.{Table}
use Rattle.tables.specs.declared.records.Record.{Record}
use Rattle.tables.specs.declared.visit.Spot.{Spot}
use Rattle.tables.specs.Outcome.{◌>>=◌, ◌>>◌, need}
use Rattle.tables.specs.Read.{vtable, entry, scalar, vector, forward}

-- The tables that `count` forward offsets lead to, from place p on, each whole before the next offset is read.
-- `visit i t n` is the visit of the table at t, the i-th child of its parent, whose number is n.
abbrev pub children : (ℕ → ℕ → ℕ → Result (List Table) Fault) → List ℕ → ℕ → ℕ → ℕ → ℕ → Result (List Table) Fault
children visit b p zero i n = Ok []
children visit b p (suc count) i n = do
  t ← forward b p
  first ← visit i t n
  others ← children visit b (p + 4) count (i + 1) (n + length first)
  Ok (first ++ others)

-- Where the i-th child of the table of number n is met, which is itself met at w.
abbrev pub below : Spot → ℕ → ℕ → Spot
below w n i = record { parent = n; depth = w.depth + 1; index = i }

-- The table at place t, met at w with number n, and all below it, in visiting order. From its own level on there is room
-- for `levels` levels; `most` tables and `room` records are allowed.
abbrev pub visit : ℕ → List ℕ → ℕ → ℕ → Spot → ℕ → ℕ → Result (List Table) Fault
visit zero b most room w t n = do
  v ← vtable b t
  Err TooDeep
visit (suc levels) b most room w t n = do
  v ← vtable b t
  need (nat_lt n most) TooManyTables
  need (nat_lt n room) NoRecord
  e ← scalar 2 b t (entry b v 4)
  r ← scalar 8 b t (entry b v 6)
  m ← vector 1 b t (entry b v 8)
  k ← vector 4 b t (entry b v 10)
  kids ← children (λ i. visit levels b most room (below w n i)) b k.from k.count 0 (n + 1)
  s ← vector 4 b t (entry b v 12)
  Ok (record { rows = r; metadata = m; segments = s; place = t; parent = w.parent; depth = w.depth; index = w.index; children = k.count; below = length kids; encoding = e } ∷ kids)

-- Where the root is met.
abbrev pub top : Spot
top = record { parent = 0; depth = 1; index = 0 }

-- From the offset at place 0 on.
abbrev pub visited : ℕ → List ℕ → ℕ → ℕ → Result (List Table) Fault
visited levels b most room = do
  t ← forward b 0
  visit levels b most room top t 0

-- A record with no mark.
abbrev pub fresh : {M : Type 0} → Table → Option (Record M)
fresh t = Some (record { table = t; mark = None })

-- The visit within the bounds on bytes and limits.
abbrev pub found : Limits → List ℕ → ℕ → Result (List Table) Fault
found limits b room = do
  need (nat_le (length b) 1048576) TooLong
  need (nat_le 1 limits.levels && nat_le limits.levels 64 && nat_le 1 limits.tables && nat_le limits.tables 4096) BadLimit
  visited limits.levels b limits.tables room

-- What the records hold in the end.
abbrev pub recorded : {M : Type 0} → Result (List Table) Fault → ℕ → List (Option (Record M))
recorded (Ok rows) room = map fresh rows ++ replicate (room - length rows) None
recorded (Err e) room = replicate room None

-- How many tables there are.
abbrev pub counted : Result (List Table) Fault → Result ℕ Fault
counted (Ok rows) = Ok (length rows)
counted (Err e) = Err e
