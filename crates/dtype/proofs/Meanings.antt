-- What a node tells of a dtype in use.
use Rattle.std.proofs.Common.{◌≡◌, ℕ, suc, ◌+◌, ◌-◌, ◌<◌, ◌≤◌, cond, leb, List, length, drop, Some, None, vec_items, Option, MatchOption, sym, refl, ap, ◌∙◌, subst, arith}
use Rattle.std.proofs.lemmas.List.{length-map, length-drop, drop-drop, drop-map}
use Rattle.std.proofs.lemmas.Bool.{cond-true, cond-false, le-leb, lt-leb}
use Rattle.kinds.proofs.Words.{same_some, never_some}
use Rattle.dtype.specs.declared.lines.Line.{Line}
use Rattle.dtype.specs.declared.lines.DTypeText.{DTypeText}
use Rattle.dtype.specs.declared.nodes.Node.{Node}
use Rattle.dtype.specs.declared.dtypes.DType.{DType}
use Rattle.dtype.specs.declared.dtypes.DType.TheVariants as dtype
use Rattle.dtype.specs.Row.{row_of, rows_of}
use Rattle.dtype.specs.Tree.{Tree, Children, children_of, size, sizes}
use Rattle.dtype.specs.Use.{Named, roots, first_tree, tree_at, lines_in, meaning, child_at, child_of, sizes_before, lines_before, line_after, next_line}
use Rattle.dtype.specs.Node.{tree_in, lines_from, ChildAt, LineNode, Stands, NodeOf}

-- The tree at a line is that of the node with the lines from there on.
tree_there : (xs : List Line) (j : ℕ) (n : Node) → lines_from n ≡ drop j xs → tree_at (rows_of xs) (suc j) ≡ Some (tree_in n)
tree_there xs j n e = ap (λ rs. first_tree (roots rs)) (drop-map row_of j xs) ∙ ap (λ ls. first_tree (roots (rows_of ls))) (sym e)

line_tree : (d : DTypeText) (i : ℕ) (n : Node) → LineNode d i n → tree_at (lines_in d) i ≡ Some (tree_in n)
line_tree d i n h = let e : i ≡ suc (i - 1) = omega (arith, h.number) in ap (tree_at (lines_in d)) e ∙ tree_there (vec_items d.lines) (i - 1) n h.lines

-- A line's node is that of the dtype in use.
pub node_of_line : (d : DTypeText) (x : DType) (i : ℕ) (r : Option Node) → x ≡ dtype.Line i → MatchOption r (tree_at (lines_in d) i ≡ None) (LineNode d i) → MatchOption r (meaning d x ≡ None) (NodeOf d x)
node_of_line d x i None is h = ap (meaning d) is ∙ h
node_of_line d x i (Some n) is h = subst (λ y. NodeOf d y n) (sym is) (record { tree = line_tree d i n h; stands = h })

-- Where the child of a line stands.
module _ (d : DTypeText) (i : ℕ) (n : Node) (h : LineNode d i n) where
  later_is : n.later.now ≡ drop i (vec_items d.lines)
  later_is = let e : i - 1 + 1 ≡ i = omega (arith, h.number) in ap (drop 1) h.lines ∙ drop-drop 1 (i - 1) (vec_items d.lines) ∙ ap (λ k. drop k (vec_items d.lines)) e

  later_count : suc (length n.later.now) + (i - 1) ≡ length (vec_items d.lines)
  later_count = omega (arith, ap length h.lines, length-drop (i - 1) (vec_items d.lines))

  module _ (m : ℕ) (c : Node) (e : lines_from c ≡ drop m n.later.now) where
    pub child_number : length (vec_items d.lines) - length c.later.now ≡ suc (i + m)
    child_number = omega (arith, later_count, h.number, ap length e, length-drop m n.later.now)

    pub child_tree : tree_at (lines_in d) (suc (i + m)) ≡ Some (tree_in c)
    child_tree = tree_there (vec_items d.lines) (i + m) c (e ∙ ap (drop m) later_is ∙ drop-drop m i (vec_items d.lines))

-- A dtype without children has no k-th one.
no_children : (t u : Tree) (k : ℕ) (x : Named) → Some t ≡ Some u → children_of t ≡ Children.none → child_at (children_of u) k ≡ Some x → ⊥
no_children t u k x e f g = never_some (sym (ap (λ v. child_at (children_of v) k) (sym (same_some e)) ∙ ap (λ cs. child_at cs k) f) ∙ g)

line_same : (m n : ℕ) → ◌≡◌ {A = DType} (dtype.Line m) (dtype.Line n) → m ≡ n
line_same m n e = cc

module _ (d : DTypeText) (total : ℕ) (all : total ≡ length (vec_items d.lines)) where
  -- The child of a dtype in use.
  pub child_before : (x : DType) (n : Node) → NodeOf d x n → (k : ℕ) (c : Node) → ChildAt n k (Some c) → length c.later.now ≤ total
  child_before (dtype.Line i) n h k c g = omega (arith, child_number d i n h.stands (sizes_before (children_of (tree_in n)) k) c g.1)
  child_before (dtype.Bool m) n h k c g = absurd (no_children _ (tree_in n) k _ h.tree refl g.0)
  child_before (dtype.Primitive p m) n h k c g = absurd (no_children _ (tree_in n) k _ h.tree refl g.0)

  pub the_child : (x : DType) (n : Node) → NodeOf d x n → (k : ℕ) (c : Node) → ChildAt n k (Some c) →
      (t : Tree) × (child_of (meaning d x) k ≡ Some (record { name = c.line.name.now; tree = t })) × (meaning d (dtype.Line (total - length c.later.now)) ≡ Some t)
      × ((j : ℕ) → x ≡ dtype.Line j → dtype.Line (total - length c.later.now) ≡ dtype.Line (suc (j + lines_before (meaning d x) k)))
  the_child (dtype.Bool m) n h k c g = absurd (no_children _ (tree_in n) k _ h.tree refl g.0)
  the_child (dtype.Primitive p m) n h k c g = absurd (no_children _ (tree_in n) k _ h.tree refl g.0)
  the_child (dtype.Line i) n h k c g =
      let before = sizes_before (children_of (tree_in n)) k in
      let number : total - length c.later.now ≡ suc (i + before) = ap (λ m. m - length c.later.now) all ∙ child_number d i n h.stands before c g.1 in (
        tree_in c,
        ap (λ o. child_of o k) h.tree ∙ g.0,
        ap (tree_at (lines_in d)) number ∙ child_tree d i n h.stands before c g.1,
        λ j e. ap (λ m. dtype.Line m) (number ∙ ap (λ m. suc (i + m)) (sym (ap (λ o. lines_before o k) h.tree)) ∙ ap (λ m. suc (m + lines_before (meaning d (dtype.Line i)) k)) (line_same i j e)),
      )

  -- What follows a dtype in use.
  module _ (x : DType) (n : Node) (h : NodeOf d x n) (after : List Line) (e : after ≡ drop (sizes (children_of (tree_in n))) n.later.now) where
    after_count : length after ≡ length n.later.now - sizes (children_of (tree_in n))
    after_count = ap length e ∙ length-drop (sizes (children_of (tree_in n))) n.later.now

    rows_count : length (lines_in d) ≡ total
    rows_count = length-map (vec_items d.lines) row_of ∙ sym all

    pub after_within : length after ≤ total
    after_within = by_dtype x h.stands
      where
        by_dtype : (x : DType) → Stands d x n → length after ≤ total
        by_dtype (dtype.Line i) s = omega (arith, after_count, later_count d i n s)
        by_dtype (dtype.Bool m) s = omega (arith, after_count, ap length s)
        by_dtype (dtype.Primitive p m) s = omega (arith, after_count, ap length s)

    line_next : (i : ℕ) → meaning d (dtype.Line i) ≡ Some (tree_in n) → next_line d (dtype.Line i) ≡ cond (leb (i + size (tree_in n)) (length (lines_in d))) (Some (i + size (tree_in n))) None
    line_next i t = ap (line_after (length (lines_in d)) i) t

    pub next_there : 0 < length after → Some (total - length after + 1) ≡ next_line d x
    next_there some = by_dtype x h.tree h.stands
      where
        by_dtype : (x : DType) → meaning d x ≡ Some (tree_in n) → Stands d x n → Some (total - length after + 1) ≡ next_line d x
        by_dtype (dtype.Line i) t s =
            let number : total - length after + 1 ≡ i + size (tree_in n) = omega (arith, after_count, later_count d i n s, s.number) in
            let within : i + size (tree_in n) ≤ length (lines_in d) = omega (arith, number, rows_count, after_within) in
            ap (λ (m : ℕ). Some m) number ∙ sym (line_next i t ∙ cond-true _ _ _ (le-leb _ _ within))
        by_dtype (dtype.Bool m) t s = absurd (omega (arith, after_count, ap length s))
        by_dtype (dtype.Primitive p m) t s = absurd (omega (arith, after_count, ap length s))

    pub next_none : length after ≡ 0 → None ≡ next_line d x
    next_none none = by_dtype x h.tree h.stands
      where
        by_dtype : (x : DType) → meaning d x ≡ Some (tree_in n) → Stands d x n → None ≡ next_line d x
        by_dtype (dtype.Line i) t s =
            let past : length (lines_in d) < i + size (tree_in n) = omega (arith, after_count, later_count d i n s, s.number, rows_count) in
            sym (line_next i t ∙ cond-false _ _ _ (lt-leb _ _ past))
        by_dtype (dtype.Bool m) t s = refl
        by_dtype (dtype.Primitive p m) t s = refl
