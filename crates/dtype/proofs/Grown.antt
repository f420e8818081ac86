-- Lines that pass the check are those of a tree that is formed, and the lines of such a tree pass.
use Rattle.std.proofs.Common.{◌≡◌, ℕ, suc, ◌+◌, ◌<◌, ◌≤◌, max, Bool, true, false, cond, not, ◌&&◌, ◌||◌, eqb, ltb, leb, List, [], ◌∷◌, ◌++◌, map, length, Some, None, Option, sym, refl, ap, ◌∙◌, subst, inl, inr, arith}
use Rattle.std.specs.List.{AllByRecursion as All}
use Rattle.std.proofs.lemmas.List.{append-nil, append_assoc}
use Rattle.std.proofs.ByRecursion.{All-append}
use Rattle.std.proofs.lemmas.Bool.{cond-true, cond-false, lt-ltb, le-ltb, ltb-true, ltb-false, le-leb, leb-true, eq-eqb, eqb-true, and_parts, and_from, and_right, or_cases, both_ways, not-true, false≢true}
use Rattle.kinds.specs.declared.Kind.{Kind}
use Rattle.kinds.specs.declared.Kind.TheVariants as kind
use Rattle.dtype.specs.declared.faults.Fault.{Fault}
use Rattle.dtype.specs.declared.faults.Fault.TheVariants as fault
use Rattle.dtype.specs.Row.{Row}
use Rattle.dtype.specs.Tree.{Tree, Children, rows, rows_below, height, heights, Allowed, Fields, Formed, FormedAll}
use Rattle.dtype.specs.Order.{above, takes, below, fits, is_list, deeper_next, filled, first_bad}
use Rattle.dtype.specs.Use.{Root, deeper, beyond, roots}
use Rattle.dtype.proofs.Roots.{Low}
use Rattle.dtype.proofs.Words.{Clean}

-- each line is good after the earlier ones, nearest first
abbrev pub Good : List Row → List Row → Type 0
Good es [] = Unit {0}
Good es (r ∷ rs) = (fits es r ≡ true) × (filled r (map Some rs) ≡ true) × Good (r ∷ es) rs

-- there is no bad line exactly where each is good
pub good_none : (rs es : List Row) (n : ℕ) → Good es rs → first_bad n es (map Some rs) ≡ None
good_none [] es n g = refl
good_none (r ∷ rs) es n g =
    cond-true (fits es r && filled r (map Some rs)) (first_bad (suc n) (r ∷ es) (map Some rs)) (Some (fault.Shape n)) (and_from (fits es r) (filled r (map Some rs)) g.0 g.1)
    ∙ good_none rs (r ∷ es) (suc n) g.2

passed_on : (b : Bool) (x : Option Fault) (f : Fault) → cond b x (Some f) ≡ None → (b ≡ true) × (x ≡ None)
passed_on true x f e = (refl, e)
passed_on false x f e = absurd (cc)

pub none_good : (rs es : List Row) (n : ℕ) → first_bad n es (map Some rs) ≡ None → Good es rs
none_good [] es n e = tt
none_good (r ∷ rs) es n e =
    let p = passed_on (fits es r && filled r (map Some rs)) (first_bad (suc n) (r ∷ es) (map Some rs)) (fault.Shape n) e in
    let q = and_parts (fits es r) (filled r (map Some rs)) p.0 in
    (q.0, q.1, none_good rs (r ∷ es) (suc n) p.1)

-- lines put before the earlier ones, the last of them nearest
abbrev pile : List Row → List Row → List Row
pile [] es = es
pile (r ∷ rs) es = pile rs (r ∷ es)

pile_append : (xs ys es : List Row) → pile (xs ++ ys) es ≡ pile ys (pile xs es)
pile_append [] ys es = refl
pile_append (x ∷ xs) ys es = pile_append xs ys (x ∷ es)

-- a line that is not less deep is passed over in the search for one above
above_past : (d : ℕ) (r : Row) (es : List Row) → d ≤ r.depth → above d (r ∷ es) ≡ above d es
above_past d r es le = cond-false (ltb r.depth d) (Some r) (above d es) (le-ltb r.depth d le)

above_pile : (d : ℕ) (rs es : List Row) → All (λ r. d ≤ r.depth) rs → above d (pile rs es) ≡ above d es
above_pile d [] es a = refl
above_pile d (r ∷ rs) es a = above_pile d rs (r ∷ es) a.1 ∙ above_past d r es a.0

-- no line of a tree is less deep than its first
mutual
  deep_rows : (t : Tree) (e d : ℕ) (name : List ℕ) → e ≤ d → All (λ r. e ≤ r.depth) (rows d name t)
  deep_rows (Tree.node k n cs) e d name le = (le, deep_below cs e (suc d) (omega arith))

  deep_below : (cs : Children) (e d : ℕ) → e ≤ d → All (λ r. e ≤ r.depth) (rows_below d cs)
  deep_below Children.none e d le = tt
  deep_below (Children.child name t cs) e d le = All-append (λ r. e ≤ r.depth) (rows d name t) (rows_below d cs) (deep_rows t e d name le) (deep_below cs e d le)

-- is the nearest earlier line less deep?
abbrev nearer : ℕ → List Row → Bool
nearer d [] = false
nearer d (e ∷ es) = ltb e.depth d

-- children that a kind takes, the first directly if the flag says so
abbrev Taken : Kind → Bool → Children → Type 0
Taken k direct Children.none = Unit {0}
Taken k direct (Children.child name t cs) = (takes k direct (length name) ≡ true) × Taken k false cs

fields_taken : (cs : Children) (direct : Bool) → Fields cs → Taken kind.Struct direct cs
fields_taken Children.none direct f = tt
fields_taken (Children.child name t cs) direct f =
    (and_from (ltb 0 (length name)) (leb (length name) 64) (lt-ltb 0 (length name) (let x = f.0.0 in omega arith)) (le-leb (length name) 64 f.0.1), fields_taken cs false f.1)

none_taken : (k : Kind) (direct : Bool) (cs : Children) → cs ≡ Children.none → Taken k direct cs
none_taken k direct cs e = subst (Taken k direct) (sym e) tt

-- the children that a kind allows are taken
allowed_taken : (k : Kind) (cs : Children) → Allowed k cs → Taken k true cs
allowed_taken kind.List cs a = subst (Taken kind.List true) (sym a.1) (refl, tt)
allowed_taken kind.Struct cs a = fields_taken cs true a
allowed_taken kind.Bool cs a = none_taken kind.Bool true cs a
allowed_taken kind.Utf8 cs a = none_taken kind.Utf8 true cs a
allowed_taken kind.Binary cs a = none_taken kind.Binary true cs a
allowed_taken (kind.Primitive p) cs a = none_taken (kind.Primitive p) true cs a

-- what is taken without being direct is taken anyhow
takes_more : (k : Kind) (a b : Bool) (n : ℕ) → (a ≡ true → b ≡ true) → takes k a n ≡ true → takes k b n ≡ true
takes_more kind.List true b n i t = and_from b (eqb n 0) (i refl) t
takes_more kind.List false b n i t = absurd (false≢true t)
takes_more kind.Struct a b n i t = t
takes_more kind.Bool a b n i t = absurd (false≢true t)
takes_more kind.Utf8 a b n i t = absurd (false≢true t)
takes_more kind.Binary a b n i t = absurd (false≢true t)
takes_more (kind.Primitive p) a b n i t = absurd (false≢true t)

-- a child of p fits where p is the line above
fits_child : (es : List Row) (r p : Row) (direct : Bool) → r.depth ≤ 15 → above r.depth es ≡ Some p → r.depth ≡ suc p.depth
    → (direct ≡ true → nearer r.depth es ≡ true) → takes p.kind direct (length r.name) ≡ true → fits es r ≡ true
fits_child [] r p direct le a s i t = absurd (cc)
fits_child (e ∷ es) r p direct le a s i t =
    and_from (leb r.depth 15) (below r.depth (ltb e.depth r.depth) (length r.name) (above r.depth (e ∷ es))) (le-leb r.depth 15 le) (
    ap (below r.depth (ltb e.depth r.depth) (length r.name)) a
    ∙ and_from (eqb (p.depth + 1) r.depth) (takes p.kind (ltb e.depth r.depth) (length r.name)) (eq-eqb (p.depth + 1) r.depth (omega arith))
    (takes_more p.kind direct (ltb e.depth r.depth) (length r.name) i t)
    )

-- a list that has its child is filled
deeper_child : (d : ℕ) (t : Tree) (rest : List Row) → deeper_next d (map Some (rows_below (suc d) (Children.child [] t Children.none) ++ rest)) ≡ true
deeper_child d (Tree.node k n cs) rest = lt-ltb d (suc d) (omega arith)

filled_node : (k : Kind) (r : Row) (cs : Children) (rest : List Row) → r.kind ≡ k → Allowed k cs → filled r (map Some (rows_below (suc r.depth) cs ++ rest)) ≡ true
filled_node k r cs rest e a = ap (λ (k : Kind). not (is_list k) || deeper_next r.depth (map Some (rows_below (suc r.depth) cs ++ rest))) e ∙ by_kind k a
  where
    by_kind : (k : Kind) → Allowed k cs → (not (is_list k) || deeper_next r.depth (map Some (rows_below (suc r.depth) cs ++ rest))) ≡ true
    by_kind kind.List a = ap (λ (cs : Children). deeper_next r.depth (map Some (rows_below (suc r.depth) cs ++ rest))) a.1 ∙ deeper_child r.depth a.0 rest
    by_kind kind.Struct a = refl
    by_kind kind.Bool a = refl
    by_kind kind.Utf8 a = refl
    by_kind kind.Binary a = refl
    by_kind (kind.Primitive p) a = refl

-- arithmetic on heights
first_height : (d a b : ℕ) → d + max a b ≤ 16 → d + a ≤ 16
first_height d a b le = omega arith

other_heights : (d a b : ℕ) → d + max a b ≤ 16 → d + b ≤ 16
other_heights d a b le = omega arith

-- the first line of a tree
abbrev row_of_tree : ℕ → List ℕ → Tree → Row
row_of_tree d name (Tree.node k n cs) = record { depth = d; kind = k; nullability = n; name = name }

-- a child fits
fits_row : (t : Tree) (es : List Row) (p : Row) (name : List ℕ) (direct : Bool) → suc p.depth + height t ≤ 16 → above (suc p.depth) es ≡ Some p
    → (direct ≡ true → nearer (suc p.depth) es ≡ true) → takes p.kind direct (length name) ≡ true → fits es (row_of_tree (suc p.depth) name t) ≡ true
fits_row (Tree.node k n cs) es p name direct h a i t = fits_child es (record { depth = suc p.depth; kind = k; nullability = n; name = name }) p direct (omega arith) a refl i t

-- the lines of a formed tree whose first line fits are good, and so are those of children of the line above
mutual
  good_rows : (t : Tree) (d : ℕ) (name : List ℕ) (es rest : List Row) → Formed t → d + height t ≤ 16 → fits es (row_of_tree d name t) ≡ true → Good (pile (rows d name t) es) rest → Good es (rows d name t ++ rest)
  good_rows (Tree.node k n cs) d name es rest f h fit g =
      let r : Row = record { depth = d; kind = k; nullability = n; name = name } in
      let up : above (suc d) (r ∷ es) ≡ Some r = cond-true (ltb d (suc d)) (Some r) (above (suc d) es) (lt-ltb d (suc d) (omega arith)) in
      (fit, filled_node k r cs rest refl f.0, good_below cs r (r ∷ es) rest true f.1 (omega arith) up (λ e. lt-ltb d (suc d) (omega arith)) (allowed_taken k cs f.0) g)

  good_below : (cs : Children) (p : Row) (es rest : List Row) (direct : Bool) → FormedAll cs → suc p.depth + heights cs ≤ 16 → above (suc p.depth) es ≡ Some p
      → (direct ≡ true → nearer (suc p.depth) es ≡ true) → Taken p.kind direct cs → Good (pile (rows_below (suc p.depth) cs) es) rest → Good es (rows_below (suc p.depth) cs ++ rest)
  good_below Children.none p es rest direct f h a i t g = g
  good_below (Children.child name u cs) p es rest direct f h a i t g =
      let d = suc p.depth in
      let hu : d + height u ≤ 16 = first_height d (height u) (heights cs) h in
      let others = good_below cs p (pile (rows d name u) es) rest false f.1 (other_heights d (height u) (heights cs) h) (above_pile d (rows d name u) es (deep_rows u d d name (omega arith)) ∙ a) (λ e. absurd (false≢true e)) t.1
      (subst (λ (z : List Row). Good z rest) (pile_append (rows d name u) (rows_below d cs) es) g) in
      subst (Good es) (sym (append_assoc (rows d name u) (rows_below d cs) rest))
      (good_rows u d name es (rows_below d cs ++ rest) f.0 hu (fits_row u es p name direct hu a i t.0) others)

fits_first : (t : Tree) → fits [] (row_of_tree 0 [] t) ≡ true
fits_first (Tree.node k n cs) = refl

-- the lines of a formed tree of at most 16 levels pass the check
pub passes : (t : Tree) → Formed t → height t ≤ 16 → first_bad 1 [] (map Some (rows 0 [] t)) ≡ None
passes t f h =
    good_none (rows 0 [] t) [] 1 (subst (Good []) (append-nil (rows 0 [] t)) (good_rows t 0 [] [] [] f (omega arith) (fits_first t) tt))

-- the lines of roots, one after another
abbrev pub flat : List Root → List Row
flat [] = []
flat (x ∷ xs) = rows x.depth x.name x.tree ++ flat xs

-- a root that is formed and stands in its place after the earlier lines
abbrev Placed : List Row → Bool → Root → Type 0
Placed es direct x = Formed x.tree × (x.depth + height x.tree ≤ 16) × Clean x.name × (below x.depth direct (length x.name) (above x.depth es) ≡ true)

-- roots that are, none deeper than the one before; only the first may stand directly under a line, and only if the flag says so
abbrev Chain : List Row → Bool → List Root → Type 0
Chain es b [] = Unit {0}
Chain es b (x ∷ xs) = Placed es (b && nearer x.depth es) x × Low x.depth xs × Chain es false xs

low_trans : (d e : ℕ) (xs : List Root) → d ≤ e → Low d xs → Low e xs
low_trans d e [] le l = tt
low_trans d e (x ∷ xs) le l = omega arith

-- roots that are not deeper than a line do not stand under it
chain_past : (r : Row) (es : List Row) (b : Bool) (xs : List Root) → Low r.depth xs → Chain (r ∷ es) b xs → Chain es false xs
chain_past r es b [] l c = tt
chain_past r es b (x ∷ xs) l c =
    let d = x.depth in
    let not_direct : (b && ltb r.depth d) ≡ false = and_right b (ltb r.depth d) (le-ltb r.depth d l) in
    let here : below d false (length x.name) (above d es) ≡ true =
    ap (below d false (length x.name)) (sym (above_past d r es l)) ∙ ap (λ (q : Bool). below d q (length x.name) (above d (r ∷ es))) (sym not_direct) ∙ c.0.3 in
    ((c.0.0, c.0.1, c.0.2, here), c.1, chain_past r es false xs (low_trans d r.depth xs l c.1) c.2)

-- under no line stands no root
chain_none : (b : Bool) (xs : List Root) → Chain [] b xs → xs ≡ []
chain_none b [] c = refl
chain_none b (x ∷ xs) c = absurd (false≢true c.0.3)

abbrev CleanAll : Children → Type 0
CleanAll Children.none = Unit {0}
CleanAll (Children.child name t cs) = Clean name × CleanAll cs

-- roots after a line r parted in its children and those that follow
abbrev Parted : Row → List Row → Bool → List Root → Children → List Root → Type 0
Parted r es b xs cs ys =
    (rows_below (suc r.depth) cs ++ flat ys ≡ flat xs) × FormedAll cs × (suc r.depth + heights cs ≤ 16) × Taken r.kind b cs × CleanAll cs × Low r.depth ys × Chain es false ys

both_heights : (d e a b : ℕ) → e ≡ suc d → e + a ≤ 16 → suc d + b ≤ 16 → suc d + max a b ≤ 16
both_heights d e a b p l m = omega arith

-- the roots that are deeper than r are children that r takes, and those that follow stand where r stands
parted : (r : Row) (es : List Row) (b : Bool) (xs : List Root) → r.depth ≤ 15 → Chain (r ∷ es) b xs → Parted r es b xs (deeper r.depth xs) (beyond r.depth xs)
parted r es b [] le c = (refl, tt, omega arith, tt, tt, tt, tt)
parted r es b (x ∷ xs) le c = by_depth (ltb r.depth x.depth) refl (parted r es false xs le c.2)
  where
    by_depth : (q : Bool) → ltb r.depth x.depth ≡ q → Parted r es false xs (deeper r.depth xs) (beyond r.depth xs)
        → Parted r es b (x ∷ xs) (cond q (Children.child x.name x.tree (deeper r.depth xs)) Children.none) (cond q (beyond r.depth xs) (x ∷ xs))
    by_depth true e rec =
        let n = length x.name in
        let direct = b && ltb r.depth x.depth in
        let up : above x.depth (r ∷ es) ≡ Some r = cond-true (ltb r.depth x.depth) (Some r) (above x.depth es) e in
        let under = and_parts (eqb (r.depth + 1) x.depth) (takes r.kind direct n) (ap (below x.depth direct n) (sym up) ∙ c.0.3) in
        let one : r.depth + 1 ≡ x.depth = eqb-true (r.depth + 1) x.depth under.0 in
        let one' : x.depth ≡ suc r.depth = omega arith in (
          append_assoc (rows (suc r.depth) x.name x.tree) (rows_below (suc r.depth) (deeper r.depth xs)) (flat (beyond r.depth xs))
              ∙ ap (λ (z : List Row). rows (suc r.depth) x.name x.tree ++ z) rec.0
              ∙ ap (λ (d : ℕ). rows d x.name x.tree ++ flat xs) (sym one'),
          (c.0.0, rec.1),
          both_heights r.depth x.depth (height x.tree) (heights (deeper r.depth xs)) one' c.0.1 rec.2,
          (takes_more r.kind direct b n (λ z. (and_parts b (ltb r.depth x.depth) z).0) under.1, rec.3),
          (c.0.2, rec.4),
          rec.5,
          rec.6,
        )
    by_depth false e rec =
        let ge : x.depth ≤ r.depth = ltb-false r.depth x.depth e in
        (refl, tt, omega arith, tt, tt, ge, chain_past r es b (x ∷ xs) ge c)

-- children that a struct takes are fields, and other kinds but lists take none
fields_from : (cs : Children) (direct : Bool) → Taken kind.Struct direct cs → CleanAll cs → Fields cs
fields_from Children.none direct t c = tt
fields_from (Children.child name u cs) direct t c =
    let p = and_parts (ltb 0 (length name)) (leb (length name) 64) t.0 in
    ((ltb-true 0 (length name) p.0, leb-true (length name) 64 p.1, c.0), fields_from cs false t.1 c.1)

takes_none : (k : Kind) (cs : Children) → ((direct : Bool) (n : ℕ) → takes k direct n ≡ false) → Taken k true cs → cs ≡ Children.none
takes_none k Children.none never t = refl
takes_none k (Children.child name u cs) never t = absurd (both_ways (takes k true (length name)) (never true (length name)) t.0)

no_bytes : (name : List ℕ) → length name ≡ 0 → name ≡ []
no_bytes [] e = refl
no_bytes (b ∷ name) e = let never : ⊥ = omega arith in absurd never

only_child : (cs : Children) → Taken kind.List true cs → (cs ≡ Children.none → ⊥) → Allowed kind.List cs
only_child Children.none t some = absurd (some refl)
only_child (Children.child name u Children.none) t some = (u, ap (λ (z : List ℕ). Children.child z u Children.none) (no_bytes name (eqb-true (length name) 0 t.0)))
only_child (Children.child name u (Children.child name' u' cs)) t some = absurd (false≢true t.1.0)

-- children that a kind takes are allowed, if a list has some
taken_allowed : (k : Kind) (cs : Children) → Taken k true cs → CleanAll cs → (is_list k ≡ true → cs ≡ Children.none → ⊥) → Allowed k cs
taken_allowed kind.List cs t c some = only_child cs t (some refl)
taken_allowed kind.Struct cs t c some = fields_from cs true t c
taken_allowed kind.Bool cs t c some = takes_none kind.Bool cs (λ direct n. refl) t
taken_allowed kind.Utf8 cs t c some = takes_none kind.Utf8 cs (λ direct n. refl) t
taken_allowed kind.Binary cs t c some = takes_none kind.Binary cs (λ direct n. refl) t
taken_allowed (kind.Primitive p) cs t c some = takes_none (kind.Primitive p) cs (λ direct n. refl) t

some_child : (name : List ℕ) (t : Tree) (cs : Children) → Children.child name t cs ≡ Children.none → ⊥
some_child name t cs e = cc

-- before a deeper line there is a deeper root
deeper_some : (d : ℕ) (rs : List Row) → deeper_next d (map Some rs) ≡ true → deeper d (roots rs) ≡ Children.none → ⊥
deeper_some d [] n e = false≢true n
deeper_some d (r ∷ rs) n e =
    let t = Tree.node r.kind r.nullability (deeper r.depth (roots rs)) in
    let cs = deeper d (beyond r.depth (roots rs)) in
    some_child r.name t cs (sym (cond-true (ltb d r.depth) (Children.child r.name t cs) Children.none n) ∙ e)

list_some : (r : Row) (rs : List Row) → filled r (map Some rs) ≡ true → is_list r.kind ≡ true → deeper r.depth (roots rs) ≡ Children.none → ⊥
list_some r rs f l e =
    elim (or_cases (not (is_list r.kind)) (deeper_next r.depth (map Some rs)) f) [
      | inl other ↦ both_ways (is_list r.kind) (not-true (is_list r.kind) other) l
      | inr n ↦ deeper_some r.depth rs n e
    ]

-- the tree of a line whose following lines have these roots
abbrev tree_of : Row → List Root → Tree
tree_of r xs = Tree.node r.kind r.nullability (deeper r.depth xs)

-- one more line before lines that are those of their roots
more_line : (r : Row) (es rs : List Row) → r.depth ≤ 15 → filled r (map Some rs) ≡ true → flat (roots rs) ≡ rs → Chain (r ∷ es) true (roots rs)
    → (flat (roots (r ∷ rs)) ≡ r ∷ rs) × Formed (tree_of r (roots rs)) × (r.depth + height (tree_of r (roots rs)) ≤ 16) × Low r.depth (beyond r.depth (roots rs)) × Chain es false (beyond r.depth (roots rs))
more_line r es rs le f fl c =
    let p = parted r es true (roots rs) le c in (
      ap (λ (z : List Row). r ∷ z) (p.0 ∙ fl),
      (taken_allowed r.kind (deeper r.depth (roots rs)) p.3 p.4 (list_some r rs f), p.1),
      (let h = p.2 in omega arith),
      p.5,
      p.6,
    )

-- good lines are those of their roots, which stand in their places
grown : (rs : List Row) (e : Row) (es : List Row) → Good (e ∷ es) rs → All (λ r. Clean r.name) rs → (flat (roots rs) ≡ rs) × Chain (e ∷ es) true (roots rs)
grown [] e es g c = (refl, tt)
grown (r ∷ rs) e es g c =
    let q = grown rs r (e ∷ es) g.2 c.1 in
    let fit = and_parts (leb r.depth 15) (below r.depth (ltb e.depth r.depth) (length r.name) (above r.depth (e ∷ es))) g.0 in
    let s = more_line r (e ∷ es) rs (leb-true r.depth 15 fit.0) g.1 q.0 q.1 in
    (s.0, ((s.1, s.2, c.0, fit.1), s.3, s.4))

-- lines that pass the check are those of a formed tree of at most 16 levels
pub tree_of_lem : (rs : List Row) → 0 < length rs → first_bad 1 [] (map Some rs) ≡ None → All (λ r. All (λ b. (b ≡ 9 → ⊥) × (b ≡ 10 → ⊥)) r.name) rs → (t : Tree) × (rs ≡ rows 0 [] t) × Formed t × (height t ≤ 16)
tree_of_lem [] lt e c = let never : ⊥ = omega arith in absurd never
tree_of_lem (r ∷ rs) lt e c =
    let g = none_good (r ∷ rs) [] 1 e in
    let q = grown rs r [] g.2 c.1 in
    let fit = and_parts (eqb r.depth 0) (eqb (length r.name) 0) g.0 in
    let at_top : r.depth ≡ 0 = eqb-true r.depth 0 fit.0 in
    let unnamed : r.name ≡ [] = no_bytes r.name (eqb-true (length r.name) 0 fit.1) in
    let s = more_line r [] rs (omega arith) g.1 q.0 q.1 in
    let t = tree_of r (roots rs) in
    let alone : beyond r.depth (roots rs) ≡ [] = chain_none false (beyond r.depth (roots rs)) s.4 in (
      t,
      sym s.0 ∙ ap (λ (z : List Root). rows r.depth r.name t ++ flat z) alone ∙ append-nil (rows r.depth r.name t)
          ∙ ap (λ (d : ℕ). rows d r.name t) at_top ∙ ap (λ (name : List ℕ). rows 0 name t) unnamed,
      s.1,
      (let h = s.2 in omega arith),
    )
