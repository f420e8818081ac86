-- How numbers, offsets, vtables and vectors are read, with the fault that comes first.
use Rattle.std.specs.Prelude.{ℕ, zero, suc, ◌+◌, ◌-◌, ◌*◌, ◌%◌, ◌^◌, cond, List, length, Ok, Err, Result, ◌==◌, nat_le, nat_lt, slice_index}
use Rattle.tables.specs.declared.faults.Fault.{Fault}
use Rattle.tables.specs.declared.faults.Fault.TheVariants.{PastEnd, Misaligned, Malformed}
use Rattle.tables.specs.declared.reads.Vtable.{Vtable}
use Rattle.tables.specs.declared.records.Part.{Part}
use Rattle.tables.specs.Outcome.{◌>>=◌, ◌>>◌, need}

-- The number that w bytes from place p on stand for, the lowest byte first.
abbrev pub little : ℕ → List ℕ → ℕ → ℕ
little zero b p = 0
little (suc w) b p = slice_index b p + 256 * little w b (p + 1)

-- Reading it: the place is a multiple of the width, and then the bytes lie inside.
abbrev pub number : ℕ → List ℕ → ℕ → Result ℕ Fault
number w b p = do
  need (p % w == 0) Misaligned
  need (nat_le (p + w) (length b)) PastEnd
  Ok (little w b p)

-- A forward offset leads to its own place plus itself.
abbrev pub forward : List ℕ → ℕ → Result ℕ Fault
forward b p = do
  o ← number 4 b p
  cond (o == 0) (Err Malformed) (Ok (p + o))

-- What a signed offset o of four bytes is taken from, so that t less the offset is what is left: from 2^31 on, o stands for o - 2^32.
abbrev pub base : ℕ → ℕ → ℕ
base t o = cond (nat_lt o (2 ^ 31)) t (t + 2 ^ 32)

-- The place of a table less the signed offset that it begins with.
abbrev pub back : ℕ → ℕ → Result ℕ Fault
back t o = cond (nat_le o (base t o)) (Ok (base t o - o)) (Err PastEnd)

abbrev pub vtable : List ℕ → ℕ → Result Vtable Fault
vtable b t = do
  o ← number 4 b t
  v ← back t o
  z ← number 2 b v
  need (z % 2 == 0) Malformed
  need (nat_le 4 z) Malformed
  need (nat_le (v + z) (length b)) PastEnd
  Ok (record { place = v; size = z })

-- How far into its table a field stands: the u16 in the vtable at position i, or 0 (absent) past the vtable's size.
abbrev pub entry : List ℕ → Vtable → ℕ → ℕ
entry b v i = cond (nat_lt i v.size) (little 2 b (v.place + i)) 0

-- A number in a table: 0 where it is absent.
abbrev pub scalar : ℕ → List ℕ → ℕ → ℕ → Result ℕ Fault
scalar w b t e = cond (e == 0) (Ok 0) (number w b (t + e))

-- A vector of a table: a forward offset to a count, and the elements right behind it, w bytes each.
abbrev pub vector : ℕ → List ℕ → ℕ → ℕ → Result Part Fault
vector w b t e = cond (e == 0) (Ok (record { from = 0; count = 0 })) (do
  p ← forward b (t + e)
  n ← number 4 b p
  need (nat_le (p + 4 + n * w) (length b)) PastEnd
  Ok (record { from = p + 4; count = n }))
