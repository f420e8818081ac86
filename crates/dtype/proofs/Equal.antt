-- When two trees are equal, child by child.
use Rattle.std.proofs.Common.{◌≡◌, ℕ, Bool, true, false, not, List, drop, refl, subst}
use Rattle.std.proofs.lemmas.Slice.Eq.{bytes_eq-Decides}
use Rattle.std.specs.Str.{bytes_eq}
use Rattle.dtype.specs.declared.nodes.Node.{Node}
use Rattle.dtype.specs.declared.nodes.ChildNodes.{ChildNodes}
use Rattle.dtype.specs.Tree.{Tree, Children, children_of, sizes}
use Rattle.dtype.specs.Node.{tree_in, children_left, IsFirst, IsNext}
use Rattle.dtype.proofs.ChildLines.{next_child}

-- Whether all children agree is whether those that are left do.
abbrev pub Left : Children → Children → Children → Children → Type 0
Left xs ys vs ws = (xs ≡ ys → vs ≡ ws) × (vs ≡ ws → xs ≡ ys)

-- A child agrees, and those after it decide.
child_agrees : (s t : List ℕ) (x y : Tree) (us zs vs ws : Children) → s ≡ t → x ≡ y → Left us zs (Children.child s x vs) (Children.child t y ws) → Left us zs vs ws
child_agrees s t x y us zs vs ws a b h = (λ q. rest (h.0 q), λ q. h.1 (same q))
  where
    rest : Children.child s x vs ≡ Children.child t y ws → vs ≡ ws
    rest q = cc

    same : vs ≡ ws → Children.child s x vs ≡ Children.child t y ws
    same q = cc

-- The bytes of two names are the same where `!=` says no.
pub names_same : (a b : List ℕ) → false ≡ not (bytes_eq a b) → a ≡ b
names_same a b e = (bytes_eq-Decides a b).0 (on (bytes_eq a b) e)
  where
    on : (r : Bool) → false ≡ not r → r ≡ true
    on true q = refl
    on false q = q

-- The children after the first, as the next call would leave them.
pub passed : (s t : ChildNodes) (n : Node) → IsFirst s n → t.depth ≡ s.depth → t.lines.now ≡ drop (sizes (children_of (tree_in n))) n.later.now → IsNext s n t
passed s t n h d l = record { lines = h.lines; deeper = h.deeper; bound = h.bound; depth = d; after = l }

-- The next child on either side agrees, and those after it decide.
pub next_agrees : (s t s' t' : ChildNodes) (n m : Node) → IsNext s n s' → IsNext t m t' → n.line.name.now ≡ m.line.name.now → tree_in n ≡ tree_in m → (us zs : Children) → Left us zs (children_left s) (children_left t) → Left us zs (children_left s') (children_left t')
next_agrees s t s' t' n m h g a b us zs l =
    let one = subst (λ vs. Left us zs vs (children_left t)) (next_child s n s' h) l in
    let two = subst (λ ws. Left us zs (Children.child n.line.name.now (tree_in n) (children_left s')) ws) (next_child t m t' g) one in
    child_agrees _ _ _ _ us zs _ _ a b two
