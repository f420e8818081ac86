-- The roots of a tree's lines are that tree, and the tree at a line is that line's subtree.
use Rattle.std.proofs.Common.{◌≡◌, ℕ, zero, suc, ◌≤◌, ltb, List, [], ◌∷◌, ◌++◌, length, sym, refl, ap, ◌∙◌, subst, inl, inr, arith, length-append}
use Rattle.std.specs.List.{slice_get}
use Rattle.std.proofs.lemmas.List.{append-nil, append_assoc}
use Rattle.std.proofs.lemmas.Bool.{cond-true, cond-false, lt-ltb, le-ltb, cases_lt}
use Rattle.dtype.specs.Row.{Row}
use Rattle.dtype.specs.Tree.{Tree, Children, rows, rows_below, size, sizes, subtrees, subtrees_below}
use Rattle.dtype.specs.Use.{Root, deeper, beyond, with_children, roots, tree_at}

-- a tree has as many lines as its size says
mutual
  pub length_rows : (t : Tree) (d : ℕ) (name : List ℕ) → length (rows d name t) ≡ size t
  length_rows (Tree.node k n cs) d name = ap suc (length_below cs (suc d))

  pub length_below : (cs : Children) (d : ℕ) → length (rows_below d cs) ≡ sizes cs
  length_below Children.none d = refl
  length_below (Children.child name t cs) d =
      let a = length_rows t d name in
      let b = length_below cs d in
      length-append (rows d name t) (rows_below d cs) ∙ omega arith

-- the first root is not deeper than d
abbrev pub Low : ℕ → List Root → Type 0
Low d [] = Unit {0}
Low d (x ∷ xs) = x.depth ≤ d

pub low_more : (d : ℕ) (xs : List Root) → Low d xs → Low (suc d) xs
low_more d [] l = tt
low_more d (x ∷ xs) l = omega arith

-- where the first root is not deeper, no root is passed over, and there is no child
pub low_beyond : (d : ℕ) (xs : List Root) → Low d xs → beyond d xs ≡ xs
low_beyond d [] l = refl
low_beyond d (x ∷ xs) l = cond-false (ltb d x.depth) (beyond d xs) (x ∷ xs) (le-ltb d x.depth l)

pub low_deeper : (d : ℕ) (xs : List Root) → Low d xs → deeper d xs ≡ Children.none
low_deeper d [] l = refl
low_deeper d (x ∷ xs) l = cond-false (ltb d x.depth) (Children.child x.name x.tree (deeper d xs)) Children.none (le-ltb d x.depth l)

abbrev pub root : ℕ → List ℕ → Tree → Root
root d name t = record { depth = d; name = name; tree = t }

-- children as roots at depth d
abbrev pub as_roots : ℕ → Children → List Root
as_roots d Children.none = []
as_roots d (Children.child name t cs) = root d name t ∷ as_roots d cs

-- children, one deeper than d, are the trees deeper than d, and what follows them is beyond d
deeper_as_roots : (d : ℕ) (cs : Children) (xs : List Root) → Low d xs → deeper d (as_roots (suc d) cs ++ xs) ≡ cs
deeper_as_roots d Children.none xs l = low_deeper d xs l
deeper_as_roots d (Children.child name t cs) xs l =
    cond-true (ltb d (suc d)) (Children.child name t (deeper d (as_roots (suc d) cs ++ xs))) Children.none (lt-ltb d (suc d) (omega arith))
    ∙ ap (Children.child name t) (deeper_as_roots d cs xs l)

beyond_as_roots : (d : ℕ) (cs : Children) (xs : List Root) → Low d xs → beyond d (as_roots (suc d) cs ++ xs) ≡ xs
beyond_as_roots d Children.none xs l = low_beyond d xs l
beyond_as_roots d (Children.child name t cs) xs l =
    cond-true (ltb d (suc d)) (beyond d (as_roots (suc d) cs ++ xs)) (root (suc d) name t ∷ (as_roots (suc d) cs ++ xs)) (lt-ltb d (suc d) (omega arith))
    ∙ beyond_as_roots d cs xs l

low_as_roots : (d : ℕ) (cs : Children) (xs : List Root) → Low d xs → Low d (as_roots d cs ++ xs)
low_as_roots d Children.none xs l = l
low_as_roots d (Children.child name t cs) xs l = omega arith

-- the lines of a tree, before lines whose first is not deeper, have that tree as their first root; so have those of children, one after another
mutual
  pub roots_rows : (t : Tree) (d : ℕ) (name : List ℕ) (rest : List Row) → Low d (roots rest) → roots (rows d name t ++ rest) ≡ record { depth = d; name = name; tree = t } ∷ roots rest
  roots_rows (Tree.node k n cs) d name rest l =
      let below = roots_below cs (suc d) rest (low_more d (roots rest) l) in
      ap (with_children (record { depth = d; kind = k; nullability = n; name = name })) below
      ∙ ap (λ (c : Children). root d name (Tree.node k n c) ∷ beyond d (as_roots (suc d) cs ++ roots rest)) (deeper_as_roots d cs (roots rest) l)
      ∙ ap (λ (z : List Root). root d name (Tree.node k n cs) ∷ z) (beyond_as_roots d cs (roots rest) l)

  pub roots_below : (cs : Children) (d : ℕ) (rest : List Row) → Low d (roots rest) → roots (rows_below d cs ++ rest) ≡ as_roots d cs ++ roots rest
  roots_below Children.none d rest l = refl
  roots_below (Children.child name t cs) d rest l =
      let others = roots_below cs d rest l in
      ap roots (append_assoc (rows d name t) (rows_below d cs) rest)
      ∙ roots_rows t d name (rows_below d cs ++ rest) (subst (Low d) (sym others) (low_as_roots d cs (roots rest) l))
      ∙ ap (λ (z : List Root). root d name t ∷ z) others

-- the lines of a whole tree have it as their only root
pub only_root : (t : Tree) → roots (rows 0 [] t) ≡ record { depth = 0; name = []; tree = t } ∷ []
only_root t = ap roots (sym (append-nil (rows 0 [] t))) ∙ roots_rows t 0 [] [] tt

-- the trees at all lines
abbrev pub stand : List Row → List Tree
stand [] = []
stand (r ∷ rs) = Tree.node r.kind r.nullability (deeper r.depth (roots rs)) ∷ stand rs

-- the tree at a line is the one of that place among them
nth_stand : (rs : List Row) (i : ℕ) → tree_at rs (suc i) ≡ slice_get (stand rs) i
nth_stand [] zero = refl
nth_stand [] (suc i) = refl
nth_stand (r ∷ rs) zero = refl
nth_stand (r ∷ rs) (suc i) = nth_stand rs i

-- at the lines of a tree stand its subtrees, in their order
mutual
  stand_rows : (t : Tree) (d : ℕ) (name : List ℕ) (rest : List Row) → Low d (roots rest) → stand (rows d name t ++ rest) ≡ subtrees t ++ stand rest
  stand_rows (Tree.node k n cs) d name rest l =
      let below = roots_below cs (suc d) rest (low_more d (roots rest) l) in
      ap (λ (c : Children). Tree.node k n c ∷ stand (rows_below (suc d) cs ++ rest)) (ap (deeper d) below ∙ deeper_as_roots d cs (roots rest) l)
      ∙ ap (λ (ts : List Tree). Tree.node k n cs ∷ ts) (stand_below cs (suc d) rest (low_more d (roots rest) l))

  stand_below : (cs : Children) (d : ℕ) (rest : List Row) → Low d (roots rest) → stand (rows_below d cs ++ rest) ≡ subtrees_below cs ++ stand rest
  stand_below Children.none d rest l = refl
  stand_below (Children.child name t cs) d rest l =
      ap stand (append_assoc (rows d name t) (rows_below d cs) rest)
      ∙ stand_rows t d name (rows_below d cs ++ rest) (subst (Low d) (sym (roots_below cs d rest l)) (low_as_roots d cs (roots rest) l))
      ∙ ap (λ (ts : List Tree). subtrees t ++ ts) (stand_below cs d rest l)
      ∙ sym (append_assoc (subtrees t) (subtrees_below cs) (stand rest))

-- the tree at each line is that line's subtree, and past the last line there is none
pub subtree_at : (t : Tree) (i : ℕ) → tree_at (rows 0 [] t) (suc i) ≡ slice_get (subtrees t) i
subtree_at t i =
    nth_stand (rows 0 [] t) i
    ∙ ap (λ (ts : List Tree). slice_get ts i) (ap stand (sym (append-nil (rows 0 [] t))) ∙ stand_rows t 0 [] [] tt ∙ append-nil (subtrees t))

-- passing over roots deeper than e, and then over those deeper than d, where d is at most e, passes over those deeper than d
pub beyond_beyond : (d e : ℕ) → d ≤ e → (xs : List Root) → beyond d (beyond e xs) ≡ beyond d xs
beyond_beyond d e le [] = refl
beyond_beyond d e le (x ∷ xs) =
    elim (cases_lt e x.depth) [
      | inl lt ↦
          ap (beyond d) (cond-true (ltb e x.depth) (beyond e xs) (x ∷ xs) (lt-ltb e x.depth lt)) ∙ beyond_beyond d e le xs
          ∙ sym (cond-true (ltb d x.depth) (beyond d xs) (x ∷ xs) (lt-ltb d x.depth (omega arith)))
      | inr ge ↦ ap (beyond d) (cond-false (ltb e x.depth) (beyond e xs) (x ∷ xs) (le-ltb e x.depth ge))
    ]
