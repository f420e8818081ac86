-- What the questions on verified records promise: which layout a number names, and what is answered of it.
use Rattle.std.specs.Prelude.{◌≡◌, ℕ, zero, suc, ◌+◌, ◌-◌, ◌/◌, ◌<◌, ◌≤◌, cond, List, length, IfOk, Some, None, Ok, Err, Option, Result, nat_lt}
use Rattle.tables.specs.declared.faults.Missing.{Missing}
use Rattle.tables.specs.declared.faults.Missing.TheVariants as missing
use Rattle.tables.specs.declared.records.Table.{Table}
use Rattle.tables.specs.declared.visit.Spot.{Spot}
use Rattle.tables.specs.Format.{Layout, Layouts, numbers, size, sizes}
use Rattle.tables.specs.Listing.{many, Tells, MetAt}
use Rattle.tables.specs.Visit.{below}

-- The layout of number n below a layout, in visiting order.
abbrev mutual
  pub layout_at : Layout → ℕ → Option Layout
  layout_at (Layout.layout e r m ks s) zero = Some (Layout.layout e r m ks s)
  layout_at (Layout.layout e r m ks s) (suc n) = layouts_at ks n

  pub layouts_at : Layouts → ℕ → Option Layout
  layouts_at Layouts.none n = None
  layouts_at (Layouts.◌with◌ k ks) n = cond (nat_lt n (size k)) (layout_at k n) (layouts_at ks (n - size k))

-- Where the layout of number x below it is met, of a layout that is met at w and has number n: the number of its parent, its
-- depth, and its place among the children.
abbrev mutual
  pub spot_at : Layout → Spot → ℕ → ℕ → Spot
  spot_at (Layout.layout e r m ks s) w n zero = w
  spot_at (Layout.layout e r m ks s) w n (suc x) = spots_at ks w n 0 (n + 1) x

  pub spots_at : Layouts → Spot → ℕ → ℕ → ℕ → ℕ → Spot
  spots_at Layouts.none w n i c x = w
  spots_at (Layouts.◌with◌ k ks) w n i c x = cond (nat_lt x (size k)) (spot_at k (below w n i) c x) (spots_at ks w n (i + 1) (c + size k) (x - size k))

-- What the record of a number answers of the layout of that number, which is met at w.
abbrev pub TellsOf : Option Layout → Spot → List ℕ → Result Table Missing → Type 0
TellsOf None w b r = r ≡ Err missing.Table
TellsOf (Some S) w b r = (row : Table) × (r ≡ Ok row) × Tells S b row × MetAt w row

-- The metadata, and the segments, of a layout that may not be there.
abbrev pub metadata_of : Option Layout → Result (List ℕ) Missing
metadata_of None = Err missing.Table
metadata_of (Some (Layout.layout e r m ks s)) = Ok m

abbrev pub segments_of : Option Layout → Result (List ℕ) Missing
segments_of None = Err missing.Table
segments_of (Some (Layout.layout e r m ks s)) = Ok s

-- The numbers of four bytes that a part of the bytes holds.
abbrev pub numbers_in : List ℕ → List ℕ
numbers_in bytes = numbers bytes 0 (length bytes / 4)

-- How many tables the first j of some layouts have.
abbrev pub before : Layouts → ℕ → ℕ
before Layouts.none j = 0
before (Layouts.◌with◌ k ks) zero = 0
before (Layouts.◌with◌ k ks) (suc j) = size k + before ks j

-- The number of the k-th child of the layout of number n: its own number comes first, then all tables of the children before.
abbrev pub child_of : Option Layout → ℕ → ℕ → Result ℕ Missing
child_of None n k = Err missing.Table
child_of (Some (Layout.layout e r m ks s)) n k = cond (nat_lt k (many ks)) (Ok (n + 1 + before ks k)) (Err missing.Child)

-- The j-th of some layouts, and the j-th child of a layout.
abbrev pub nth : Layouts → ℕ → Option Layout
nth Layouts.none j = None
nth (Layouts.◌with◌ k ks) zero = Some k
nth (Layouts.◌with◌ k ks) (suc j) = nth ks j

abbrev pub nth_child : Option Layout → ℕ → Option Layout
nth_child None j = None
nth_child (Some (Layout.layout e r m ks s)) j = nth ks j

-- The answer for the k-th child of number n: its number, under which the k-th child of the layout of number n is found.
abbrev pub ChildIs : Layout → ℕ → ℕ → Result ℕ Missing → Type 0
ChildIs T n k r = (r ≡ child_of (layout_at T n) n k) × IfOk r (λ c. layout_at T c ≡ nth_child (layout_at T n) k)

-- The child of the layout of number n to which the table of number x belongs, where x is below n.
abbrev pub Over : Option Layout → ℕ → ℕ → Result ℕ Missing → Type 0
Over None n x a = Unit {0}
Over (Some (Layout.layout e r m ks s)) n x a =
    n < x → x ≤ n + sizes ks → (j : ℕ) × (j < many ks) × (a ≡ Ok (n + 1 + before ks j)) × (n + 1 + before ks j ≤ x) × (x < n + 1 + before ks (suc j))
