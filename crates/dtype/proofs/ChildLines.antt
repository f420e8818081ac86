-- Nodes: where a tree ends, and the children one after another.
use Rattle.std.proofs.Common.{◌≡◌, ℕ, zero, suc, ◌+◌, ◌≤◌, Bool, true, false, cond, ltb, List, [], ◌∷◌, length, drop, Some, None, Option, MatchOption, sym, refl, ap, ◌∙◌, subst, arith}
use Rattle.std.proofs.lemmas.List.{drop-drop, drop-map}
use Rattle.std.proofs.lemmas.Bool.{cond-true, ltb-true, ltb-false, lt-ltb}
use Rattle.std.specs.List.{prefix_len}
use Rattle.std.specs.Iterator.{Drains, YieldsThen}
use Rattle.dtype.specs.declared.lines.Line.{Line}
use Rattle.dtype.specs.declared.nodes.Node.{Node}
use Rattle.dtype.specs.declared.nodes.ChildNodes.{ChildNodes}
use Rattle.dtype.specs.Row.{Row, row_of, rows_of}
use Rattle.dtype.specs.Tree.{Children, children_of, size, sizes}
use Rattle.dtype.specs.Use.{Root, roots, deeper, beyond, count, child_at, sizes_before}
use Rattle.dtype.specs.Node.{tree_in, lines_from, children_left, IsNext, NextChild, IsKth, ChildAt}
use Rattle.dtype.proofs.Roots.{beyond_beyond}

-- The roots deeper than d are those deeper than e, and then those deeper than d.
sizes_split : (d e : ℕ) → d ≤ e → (xs : List Root) → sizes (deeper d xs) ≡ sizes (deeper e xs) + sizes (deeper d (beyond e xs))
sizes_split d e h [] = refl
sizes_split d e h (x ∷ xs) = on (ltb e x.depth) refl (ltb d x.depth) refl (sizes_split d e h xs)
  where
    on : (b : Bool) → ltb e x.depth ≡ b → (c : Bool) → ltb d x.depth ≡ c → sizes (deeper d xs) ≡ sizes (deeper e xs) + sizes (deeper d (beyond e xs)) →
        sizes (deeper d (x ∷ xs)) ≡ sizes (deeper e (x ∷ xs)) + sizes (deeper d (beyond e (x ∷ xs)))
    on true p true q ih = rw (p, q) (omega (arith, ih))
    on true p false q ih = absurd (omega (arith, ltb-true _ _ p, ltb-false _ _ q))
    on false p c q ih = rw p (omega arith)

-- The lines deeper than d at the front are as many as the trees of their roots take, and the roots after them are those beyond d.
record Below (d : ℕ) (rs : List Row) : Type 0 where
  pub count : prefix_len (λ (r : Row). ltb d r.depth) rs ≡ sizes (deeper d (roots rs))
  pub rest : roots (drop (sizes (deeper d (roots rs))) rs) ≡ beyond d (roots rs)

below_is : (d : ℕ) (rs : List Row) → Below d rs
below_is d [] = record { count = refl; rest = refl }
below_is d (r ∷ rs) = on (ltb d r.depth) refl (below_is d rs)
  where
    on : (b : Bool) → ltb d r.depth ≡ b → Below d rs → Below d (r ∷ rs)
    on false e ih = record { count = rw e refl; rest = rw e refl }
    on true e ih =
        let lt : d ≤ r.depth = omega (arith, ltb-true _ _ e) in
        let all : sizes (deeper d (roots (r ∷ rs))) ≡ suc (sizes (deeper d (roots rs))) = rw e (omega (arith, sizes_split d r.depth lt (roots rs))) in
        record {
          count = cond-true _ _ _ e ∙ ap (λ n. 1 + n) ih.count ∙ omega (arith, all);
          rest = ap (λ n. roots (drop n (r ∷ rs))) all ∙ ih.rest ∙ sym (beyond_beyond d r.depth lt (roots rs)) ∙ sym (cond-true _ _ _ e);
        }

-- How many lines are deeper, by the lines themselves.
pub prefix_rows : (d : ℕ) (xs : List Line) → prefix_len (λ (l : Line). ltb d l.depth) xs ≡ sizes (deeper d (roots (rows_of xs)))
prefix_rows d xs = same xs ∙ (below_is d (rows_of xs)).count
  where
    same : (xs : List Line) → prefix_len (λ (l : Line). ltb d l.depth) xs ≡ prefix_len (λ (r : Row). ltb d r.depth) (rows_of xs)
    same [] = refl
    same (x ∷ xs) = ap (λ n. cond (ltb d x.depth) (1 + n) 0) (same xs)

-- The next child, and the children after it.
pub next_child : (s : ChildNodes) (n : Node) (t : ChildNodes) → IsNext s n t → children_left s ≡ Children.child n.line.name.now (tree_in n) (children_left t)
next_child s n t h =
    ap (λ xs. deeper s.depth (roots (rows_of xs))) h.lines ∙ cond-true _ _ _ (lt-ltb _ _ h.deeper)
    ∙ ap (Children.child n.line.name.now (tree_in n)) (ap (deeper s.depth) (sym (below_is n.line.depth (rows_of n.later.now)).rest) ∙ later)
  where
    later : deeper s.depth (roots (drop (sizes (children_of (tree_in n))) (rows_of n.later.now))) ≡ children_left t
    later =
        ap (λ xs. deeper s.depth (roots xs)) (drop-map row_of (sizes (children_of (tree_in n))) n.later.now)
        ∙ ap (λ xs. deeper s.depth (roots (rows_of xs))) (sym h.after) ∙ ap (λ d. deeper d (roots (rows_of t.lines.now))) (sym h.depth)

-- As many children come as there are.
pub all_children : (s : ChildNodes) (xs : List Node) → Drains NextChild s xs → length xs ≡ count (children_left s)
all_children s [] (u, (t, e, n)) = ap count (sym (ap children_left e ∙ n))
all_children s (x ∷ xs) (u, (t, (j, h, ys), n)) = ap suc (all_children j xs (u, (t, ys, n))) ∙ ap count (sym (next_child s x j h))

-- The k-th child that comes is the k-th child, and its lines stand behind those of the children before it.
abbrev Kth : ChildNodes → ℕ → Option Node → Type 0
Kth s k r = IsKth (children_left s) s.lines.now k r

kth_first : (s : ChildNodes) (r : Option Node) (u : ChildNodes) → NextChild s r u → Kth s 0 r
kth_first s None u h = ap (λ cs. child_at cs 0) h
kth_first s (Some c) u h = (ap (λ cs. child_at cs 0) (next_child s c u h), sym h.lines ∙ ap (λ cs. drop (sizes_before cs 0) s.lines.now) (sym (next_child s c u h)))

kth_later : (s : ChildNodes) (x : Node) (t : ChildNodes) (k : ℕ) (r : Option Node) → IsNext s x t → Kth t k r → Kth s (suc k) r
kth_later s x t k None h q = ap (λ cs. child_at cs (suc k)) (next_child s x t h) ∙ q
kth_later s x t k (Some c) h q = (
  ap (λ cs. child_at cs (suc k)) (next_child s x t h) ∙ q.0,
  q.1 ∙ ap (drop (sizes_before (children_left t) k)) h.after ∙ drop-drop (sizes_before (children_left t) k) (sizes (children_of (tree_in x))) x.later.now
      ∙ ap (λ n. drop n (lines_from x)) (one_before (sizes (children_of (tree_in x))) (sizes_before (children_left t) k))
      ∙ ap (drop (size (tree_in x) + sizes_before (children_left t) k)) (sym h.lines) ∙ ap (λ cs. drop (sizes_before cs (suc k)) s.lines.now) (sym (next_child s x t h)),
)
  where
    one_before : (a b : ℕ) → suc (a + b) ≡ suc a + b
    one_before a b = omega arith

kth_left : (s : ChildNodes) (k : ℕ) (xs : List Node) (r : Option Node) (u : ChildNodes) → YieldsThen NextChild s xs r u → MatchOption r (length xs ≤ k) (λ _. length xs ≡ k) → Kth s k r
kth_left s k [] None u (t, e, n) h = ap (λ cs. child_at cs k) (ap children_left e ∙ n)
kth_left s zero [] (Some c) u (t, e, n) h = subst (λ z. Kth z 0 (Some c)) (sym e) (kth_first t (Some c) u n)
kth_left s (suc k) [] (Some c) u (t, e, n) h = absurd (omega arith)
kth_left s zero (x ∷ xs) None u (t, y, n) h = absurd (omega arith)
kth_left s zero (x ∷ xs) (Some c) u (t, y, n) h = absurd (omega arith)
kth_left s (suc k) (x ∷ xs) None u (t, (j, g, y), n) h = kth_later s x j k None g (kth_left j k xs None u (t, y, n) (omega arith))
kth_left s (suc k) (x ∷ xs) (Some c) u (t, (j, g, y), n) h = kth_later s x j k (Some c) g (kth_left j k xs (Some c) u (t, y, n) (omega arith))

-- The children of a node, as they come.
module _ (n : Node) (s : ChildNodes) (d : s.depth ≡ n.line.depth) (l : s.lines.now ≡ n.later.now) where
  pub all_left : children_left s ≡ children_of (tree_in n)
  all_left = ap (λ k. deeper k (roots (rows_of s.lines.now))) d ∙ ap (λ ls. deeper n.line.depth (roots (rows_of ls))) l

  pub count_left : (m : ℕ) (xs : List Node) → Drains NextChild s xs → m ≡ length xs → m ≡ count (children_of (tree_in n))
  count_left m xs h e = e ∙ all_children s xs h ∙ ap count all_left

  pub kth_child : (k : ℕ) (xs : List Node) (r : Option Node) (u : ChildNodes) → YieldsThen NextChild s xs r u → MatchOption r (length xs ≤ k) (λ _. length xs ≡ k) → ChildAt n k r
  kth_child k xs r u y h = subst (λ cs. IsKth cs n.later.now k r) all_left (subst (λ ls. IsKth (children_left s) ls k r) l (kth_left s k xs r u y h))
