-- Dtypes in use: the tree that stands at a line, and its parts.
use Rattle.std.specs.Prelude.{◌≡◌, ℕ, zero, suc, ◌+◌, cond, List, [], ◌∷◌, length, drop, Some, None, vec_items, Option, MatchOption, nat_le, nat_lt}
use Rattle.kinds.specs.declared.Kind.TheVariants as kind
use Rattle.dtype.specs.declared.lines.DTypeText.{DTypeText}
use Rattle.dtype.specs.declared.dtypes.Child.{Child}
use Rattle.dtype.specs.declared.dtypes.DType.{DType}
use Rattle.dtype.specs.declared.dtypes.DType.TheVariants as dtype
use Rattle.dtype.specs.Row.{Row, rows_of}
use Rattle.dtype.specs.Tree.{Tree, Children, children_of, size}

-- A tree with the depth and the name of its first line.
pub record Root : Type 0 where
  pub depth : ℕ
  pub name : List ℕ
  pub tree : Tree

-- The trees at the front that are deeper than d, as children; and those that follow them.
abbrev pub deeper : ℕ → List Root → Children
deeper d [] = Children.none
deeper d (x ∷ xs) = cond (nat_lt d x.depth) (Children.child x.name x.tree (deeper d xs)) Children.none

abbrev pub beyond : ℕ → List Root → List Root
beyond d [] = []
beyond d (x ∷ xs) = cond (nat_lt d x.depth) (beyond d xs) (x ∷ xs)

-- A line before the trees of the lines that follow it: the deeper ones at the front are its children.
abbrev pub with_children : Row → List Root → List Root
with_children r xs = record { depth = r.depth; name = r.name; tree = Tree.node r.kind r.nullability (deeper r.depth xs) } ∷ beyond r.depth xs

-- The trees of lines, one after another.
abbrev pub roots : List Row → List Root
roots [] = []
roots (r ∷ rs) = with_children r (roots rs)

abbrev pub first_tree : List Root → Option Tree
first_tree [] = None
first_tree (x ∷ xs) = Some x.tree

-- The tree at a line. Lines count from 1.
abbrev pub tree_at : List Row → ℕ → Option Tree
tree_at rs zero = None
tree_at rs (suc i) = first_tree (roots (drop i rs))

-- The tree of a dtype in use, over the lines of a text.
abbrev pub tree_of : List Row → DType → Option Tree
tree_of rs (dtype.Line n) = tree_at rs n
tree_of rs (dtype.Bool m) = Some (Tree.node kind.Bool m Children.none)
tree_of rs (dtype.Primitive p m) = Some (Tree.node (kind.Primitive p) m Children.none)

abbrev pub lines_in : DTypeText → List Row
lines_in d = rows_of (vec_items d.lines)

-- The dtype that a dtype in use means, none where there is no such line.
abbrev pub meaning : DTypeText → DType → Option Tree
meaning d x = tree_of (lines_in d) x

-- What a function tells of a tree, if there is one.
abbrev pub of : {A : Type 0} → (Tree → A) → Option Tree → Option A
of f None = None
of f (Some t) = Some (f t)

-- How many children there are.
abbrev pub count : Children → ℕ
count Children.none = 0
count (Children.child name t cs) = suc (count cs)

-- A child's name and its tree.
pub record Named : Type 0 where
  pub name : List ℕ
  pub tree : Tree

-- The k-th child.
abbrev pub child_at : Children → ℕ → Option Named
child_at Children.none k = None
child_at (Children.child name t cs) zero = Some (record { name = name; tree = t })
child_at (Children.child name t cs) (suc k) = child_at cs k

abbrev pub child_of : Option Tree → ℕ → Option Named
child_of None k = None
child_of (Some t) k = child_at (children_of t) k

-- How many lines the first k children take.
abbrev pub sizes_before : Children → ℕ → ℕ
sizes_before Children.none k = 0
sizes_before (Children.child name t cs) zero = 0
sizes_before (Children.child name t cs) (suc k) = size t + sizes_before cs k

abbrev pub lines_before : Option Tree → ℕ → ℕ
lines_before None k = 0
lines_before (Some t) k = sizes_before (children_of t) k

-- r is the k-th child of a dtype in use: its name and its tree; and of a line, it stands below that line and the children before it.
abbrev pub IsChild : DTypeText → DType → ℕ → Option Child → Type 0
IsChild d x k r = MatchOption r
    (child_of (meaning d x) k ≡ None)
    (λ c. (t : Tree)
    × (child_of (meaning d x) k ≡ Some (record { name = c.name.now; tree = t }))
    × (meaning d c.dtype ≡ Some t)
    × ((n : ℕ) → x ≡ dtype.Line n → c.dtype ≡ dtype.Line (suc (n + lines_before (meaning d x) k))))

-- The line after a line and all below it, if it is there.
abbrev pub line_after : ℕ → ℕ → Option Tree → Option ℕ
line_after lines n None = None
line_after lines n (Some t) = cond (nat_le (n + size t) lines) (Some (n + size t)) None

abbrev pub next_line : DTypeText → DType → Option ℕ
next_line d (dtype.Line n) = line_after (length (lines_in d)) n (meaning d (dtype.Line n))
next_line d (dtype.Bool m) = None
next_line d (dtype.Primitive p m) = None

-- Two dtypes in use mean the same dtype.
abbrev pub Same : DTypeText → DType → DTypeText → DType → Type 0
Same d x e y = (t : Tree) × (meaning d x ≡ Some t) × (meaning e y ≡ Some t)
