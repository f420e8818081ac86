-- Dtypes as trees, the text that a tree is printed as, and which trees are dtypes.
use Rattle.std.specs.Prelude.{◌≡◌, ℕ, suc, ◌+◌, ◌≤◌, max, List, [], ◌∷◌, ◌++◌, length, decimal, ◌≢◌}
use Rattle.std.specs.List.{AllByRecursion}
use Rattle.kinds.specs.declared.Kind.{Kind}
use Rattle.kinds.specs.declared.Kind.TheVariants as kind
use Rattle.kinds.specs.declared.Nullability.{Nullability}
use Rattle.dtype.specs.Row.{Row}
use Rattle.kinds.specs.Word.{kind_word, mark_word}

-- A dtype: its kind, its null mark, and its children, each with a name.
mutual
  pub data Tree : Type 0 where
    node : Kind → Nullability → Children → Tree

  pub data Children : Type 0 where
    none : Children
    child : List ℕ → Tree → Children → Children

abbrev pub kind_of : Tree → Kind
kind_of (Tree.node k n cs) = k

abbrev pub nullability_of : Tree → Nullability
nullability_of (Tree.node k n cs) = n

abbrev pub children_of : Tree → Children
children_of (Tree.node k n cs) = cs

-- How many lines a tree takes, and how many levels.
abbrev mutual
  pub size : Tree → ℕ
  size (Tree.node k n cs) = suc (sizes cs)

  pub sizes : Children → ℕ
  sizes Children.none = 0
  sizes (Children.child name t cs) = size t + sizes cs

abbrev mutual
  pub height : Tree → ℕ
  height (Tree.node k n cs) = suc (heights cs)

  pub heights : Children → ℕ
  heights Children.none = 0
  heights (Children.child name t cs) = max (height t) (heights cs)

-- What the lines of a tree say: its own line at depth d and with a name, then those of each child, one deeper.
abbrev mutual
  pub rows : ℕ → List ℕ → Tree → List Row
  rows d name (Tree.node k n cs) = record { depth = d; kind = k; nullability = n; name = name } ∷ rows_below (suc d) cs

  pub rows_below : ℕ → Children → List Row
  rows_below d Children.none = []
  rows_below d (Children.child name t cs) = rows d name t ++ rows_below d cs

-- A tree and all trees below it, in the order of their lines.
abbrev mutual
  pub subtrees : Tree → List Tree
  subtrees (Tree.node k n cs) = Tree.node k n cs ∷ subtrees_below cs

  pub subtrees_below : Children → List Tree
  subtrees_below Children.none = []
  subtrees_below (Children.child name t cs) = subtrees t ++ subtrees_below cs

-- A line: depth, kind, null mark and name, parted by tabs, and the byte 0A (10) at the end.
abbrev pub printed_row : Row → List ℕ
printed_row r = decimal r.depth ++ (9 ∷ (kind_word r.kind ++ (9 ∷ (mark_word r.nullability ++ (9 ∷ (r.name ++ (10 ∷ [])))))))

abbrev pub printed_rows : List Row → List ℕ
printed_rows [] = []
printed_rows (r ∷ rs) = printed_row r ++ printed_rows rs

-- The text of a tree.
abbrev pub printed : Tree → List ℕ
printed t = printed_rows (rows 0 [] t)

-- A field's name: 1 to 64 bytes, none of them a tab or 0A.
abbrev pub FieldName : List ℕ → Type 0
FieldName name = (1 ≤ length name) × (length name ≤ 64) × AllByRecursion (λ b. (b ≢ 9) × (b ≢ 10)) name

abbrev pub Fields : Children → Type 0
Fields Children.none = Unit
Fields (Children.child name t cs) = FieldName name × Fields cs

-- The children that a kind allows: a list has one, without a name, a struct any number of fields, other kinds none.
abbrev pub Allowed : Kind → Children → Type 0
Allowed kind.List cs = (t : Tree) × (cs ≡ Children.child [] t Children.none)
Allowed kind.Struct cs = Fields cs
Allowed kind.Bool cs = cs ≡ Children.none
Allowed kind.Utf8 cs = cs ≡ Children.none
Allowed kind.Binary cs = cs ≡ Children.none
Allowed (kind.Primitive p) cs = cs ≡ Children.none

-- Every node of the tree has the children that its kind allows.
abbrev mutual
  pub Formed : Tree → Type 0
  Formed (Tree.node k n cs) = Allowed k cs × FormedAll cs

  pub FormedAll : Children → Type 0
  FormedAll Children.none = Unit
  FormedAll (Children.child name t cs) = Formed t × FormedAll cs

-- A tree that a dtype text can hold: 16 levels (depths 0 to 15), 256 lines and 65,536 bytes are the most.
pub record Within (t : Tree) : Type 0 where
  pub formed : Formed t
  pub levels : height t ≤ 16
  pub lines : size t ≤ 256
  pub bytes : length (printed t) ≤ 65536
