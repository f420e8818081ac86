-- Trees of nodes, which are lines with the lines that follow them, for the functions inside.
use Rattle.std.specs.Prelude.{◌≡◌, ℕ, ◌-◌, ◌<◌, List, [], ◌∷◌, drop, Some, None, vec_items, Option, MatchOption}
use Rattle.dtype.specs.declared.nodes.Node.{Node}
use Rattle.dtype.specs.declared.nodes.ChildNodes.{ChildNodes}
use Rattle.dtype.specs.declared.lines.Line.{Line}
use Rattle.dtype.specs.declared.lines.DTypeText.{DTypeText}
use Rattle.dtype.specs.declared.dtypes.DType.{DType}
use Rattle.dtype.specs.declared.dtypes.DType.TheVariants as dtype
use Rattle.dtype.specs.Row.{rows_of}
use Rattle.dtype.specs.Tree.{Tree, Children, children_of, sizes}
use Rattle.dtype.specs.Use.{roots, deeper, meaning, child_at, sizes_before}

-- The tree of a node: the deeper lines that follow its line are below it.
abbrev pub tree_in : Node → Tree
tree_in n = Tree.node n.line.head.kind n.line.head.nullability (deeper n.line.depth (roots (rows_of n.later.now)))

-- The lines from that of a node on.
abbrev pub lines_from : Node → List Line
lines_from n = n.line ∷ n.later.now

-- The children that are still to come.
abbrev pub children_left : ChildNodes → Children
children_left s = deeper s.depth (roots (rows_of s.lines.now))

-- The next child, of which s has the lines, and t those after it.
pub record IsNext (s : ChildNodes) (n : Node) (t : ChildNodes) : Type 0 where
  pub lines : s.lines.now ≡ lines_from n
  pub deeper : s.depth < n.line.depth
  pub bound : n.line.depth < 256
  pub depth : t.depth ≡ s.depth
  pub after : t.lines.now ≡ drop (sizes (children_of (tree_in n))) n.later.now

-- The first of the children that are still to come, of which s has the lines.
pub record IsFirst (s : ChildNodes) (n : Node) : Type 0 where
  pub lines : s.lines.now ≡ lines_from n
  pub deeper : s.depth < n.line.depth
  pub bound : n.line.depth < 256

abbrev pub FirstChild : ChildNodes → Option Node → Type 0
FirstChild s r = MatchOption r (children_left s ≡ Children.none) (IsFirst s)

-- What the next call gives: none where no child is left.
abbrev pub NextChild : ChildNodes → Option Node → ChildNodes → Type 0
NextChild s r t = MatchOption r (children_left s ≡ Children.none) (λ n. IsNext s n t)

-- r is the k-th of some children, of which these are the lines and all that follow; its own lines stand behind those of the
-- children before it.
abbrev pub IsKth : Children → List Line → ℕ → Option Node → Type 0
IsKth cs lines k r = MatchOption r
    (child_at cs k ≡ None)
    (λ c. (child_at cs k ≡ Some (record { name = c.line.name.now; tree = tree_in c })) × (lines_from c ≡ drop (sizes_before cs k) lines))

abbrev pub ChildAt : Node → ℕ → Option Node → Type 0
ChildAt n k r = IsKth (children_of (tree_in n)) n.later.now k r

-- A node is that of line i of a text.
pub record LineNode (d : DTypeText) (i : ℕ) (n : Node) : Type 0 where
  pub number : 0 < i
  pub lines : lines_from n ≡ drop (i - 1) (vec_items d.lines)

-- Where a node stands: at its line, or in no text, with no lines after it.
abbrev pub Stands : DTypeText → DType → Node → Type 0
Stands d (dtype.Line i) n = LineNode d i n
Stands d (dtype.Bool m) n = n.later.now ≡ []
Stands d (dtype.Primitive p m) n = n.later.now ≡ []

-- A node is that of a dtype in use: it means the node's tree.
pub record NodeOf (d : DTypeText) (x : DType) (n : Node) : Type 0 where
  pub tree : meaning d x ≡ Some (tree_in n)
  pub stands : Stands d x n
