-- What it is for numbers, offsets, vtables, fields and layouts to stand in bytes, by the FlatBuffers format and the schema
--   table Layout { encoding: u16; row_count: u64; metadata: [u8]; children: [Layout]; segments: [u32]; }
-- Nothing here says in which order anything is read.
use Rattle.std.specs.Prelude.{◌≡◌, ℕ, zero, suc, ◌+◌, ◌*◌, ◌%◌, ◌<◌, ◌≤◌, max, ◌⊎◌, List, [], ◌∷◌, length}
use Rattle.tables.specs.declared.reads.Vtable.{Vtable}
use Rattle.tables.specs.declared.records.Part.{Part}
use Rattle.tables.specs.Answer.{part_of}
use Rattle.tables.specs.Read.{little, base}

-- A number of w bytes stands at place p: the place is a multiple of w, the bytes lie inside, the lowest comes first.
abbrev pub Number : ℕ → List ℕ → ℕ → ℕ → Type 0
Number w b p v = (p % w ≡ 0) × (p + w ≤ length b) × (v ≡ little w b p)

-- The offset at place p, which is never 0, leads forward to place q: offsets are relative to where they are stored.
abbrev pub Offset : List ℕ → ℕ → ℕ → Type 0
Offset b p q = (o : ℕ) × Number 4 b p o × (0 < o) × (q ≡ p + o)

-- A table at place t begins with a signed offset, which is taken away from t to reach its vtable; a vtable begins with its
-- size in bytes, which covers whole entries of two bytes, itself and the table's size at least, and lies inside.
abbrev pub VtableOf : List ℕ → ℕ → Vtable → Type 0
VtableOf b t v = (o : ℕ) × Number 4 b t o × (v.place + o ≡ base t o) × Number 2 b v.place v.size × (v.size % 2 ≡ 0) × (4 ≤ v.size) × (v.place + v.size ≤ length b)

-- The entry at position i of a vtable is e, which says how far into the table its field stands.
abbrev pub Present : List ℕ → Vtable → ℕ → ℕ → Type 0
Present b v i e = (i < v.size) × Number 2 b (v.place + i) e × (0 < e)

-- The entry is 0, or lies past the vtable: the field is not there.
abbrev pub Absent : List ℕ → Vtable → ℕ → Type 0
Absent b v i = (v.size ≤ i) ⊎ Number 2 b (v.place + i) 0

-- The number in a field of w bytes: by default 0.
abbrev pub Scalar : ℕ → List ℕ → ℕ → Vtable → ℕ → ℕ → Type 0
Scalar w b t v i x = (Absent b v i × (x ≡ 0)) ⊎ ((e : ℕ) × Present b v i e × Number w b (t + e) x)

-- The elements of a vector in a field, w bytes each: the field has an offset to the number of elements, which stand right
-- behind it and lie inside. By default there are none.
abbrev pub Vector : ℕ → List ℕ → ℕ → Vtable → ℕ → Part → Type 0
Vector w b t v i p = (Absent b v i × (p ≡ record { from = 0; count = 0 }))
    ⊎ ((e : ℕ) × (q : ℕ) × Present b v i e × Offset b (t + e) q × Number 4 b q p.count × (p.from ≡ q + 4) × (q + 4 + p.count * w ≤ length b))

-- n numbers of four bytes, from place p on.
abbrev pub numbers : List ℕ → ℕ → ℕ → List ℕ
numbers b p zero = []
numbers b p (suc n) = little 4 b p ∷ numbers b (p + 4) n

-- A layout, as the schema has it: encoding, rows, metadata, children, segments.
mutual
  pub data Layout : Type 0 where
    layout : ℕ → ℕ → List ℕ → Layouts → List ℕ → Layout

  pub data Layouts : Type 0 where
    none : Layouts
    ◌with◌ : Layout → Layouts → Layouts

-- How many tables a layout has, and how many levels.
abbrev mutual
  pub size : Layout → ℕ
  size (layout e r m ks s) = suc (sizes ks)

  pub sizes : Layouts → ℕ
  sizes none = 0
  sizes (◌with◌ k ks) = size k + sizes ks

abbrev mutual
  pub height : Layout → ℕ
  height (layout e r m ks s) = suc (heights ks)

  pub heights : Layouts → ℕ
  heights none = 0
  heights (◌with◌ k ks) = max (height k) (heights ks)

-- A layout stands at place t: its table is there, and each field holds what the layout has.
-- Layouts stand where `count` offsets lead, the first of which is at place p.
abbrev mutual
  pub Stands : Layout → List ℕ → ℕ → Type 0
  Stands (layout e r m ks s) b t =
      (v : Vtable) × VtableOf b t v × Scalar 2 b t v 4 e × Scalar 8 b t v 6 r
      × ((p : Part) × Vector 1 b t v 8 p × (m ≡ part_of 1 b p))
      × ((p : Part) × Vector 4 b t v 10 p × StandAll ks b p.from p.count)
      × ((p : Part) × Vector 4 b t v 12 p × (s ≡ numbers b p.from p.count))

  pub StandAll : Layouts → List ℕ → ℕ → ℕ → Type 0
  StandAll none b p count = count ≡ 0
  StandAll (◌with◌ k ks) b p count = (n : ℕ) × (t : ℕ) × (count ≡ suc n) × Offset b p t × Stands k b t × StandAll ks b (p + 4) n

-- The offset at place 0 leads to the root.
abbrev pub Root : List ℕ → Layout → Type 0
Root b T = (t : ℕ) × Offset b 0 t × Stands T b t
