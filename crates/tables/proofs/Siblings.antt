-- Where the children of a table stand among the records.
use Rattle.std.proofs.Common.{◌≡◌, ℕ, zero, suc, ◌+◌, ◌-◌, ◌<◌, ◌≤◌, ◌⊎◌, List, [], ◌∷◌, ◌++◌, length, Some, None, Ok, Err, Option, Result, sym, refl, ap, ◌∙◌, subst, inl, inr, append_assoc, arith, length-append}
use Rattle.std.proofs.lemmas.Bool.{cases_lt}
use Rattle.tables.specs.declared.faults.Missing.{Missing}
use Rattle.tables.specs.declared.records.Table.{Table}
use Rattle.tables.specs.declared.records.Record.{Record}
use Rattle.tables.specs.declared.visit.Spot.{Spot}
use Rattle.tables.specs.Answer.{table_at}
use Rattle.tables.specs.Format.{Layout, Layouts, size, sizes}
use Rattle.tables.specs.Listing.{many, Tells, MetAt, Lists, ListAll, row_at, Holds}
use Rattle.tables.specs.Question.{layout_at, before, Over}
use Rattle.tables.specs.Visit.{below, top}
use Rattle.tables.proofs.Binds.{no_more}
use Rattle.tables.proofs.Numbers.{row_skip, row_front, lists_length, sub}

pub same_row : {x y : Table} → ◌≡◌ {A = Result Table Missing} (Ok x) (Ok y) → x ≡ y
same_row e = cc

never_row : {x : Missing} {y : Table} → ◌≡◌ {A = Result Table Missing} (Err x) (Ok y) → ⊥
never_row e = let z : ◌≡◌ {A = ℕ} 0 1 = cc in no_more z

row_there : (rows : List Table) (z : ℕ) → z < length rows → (r : Table) × (row_at rows z ≡ Ok r)
row_there [] z lt = let no' : ⊥ = omega arith in elim no' [ ]
row_there (r ∷ rows) zero lt = (r, refl)
row_there (r ∷ rows) (suc z) lt = row_there rows z (omega arith)

-- how many tables stand before a child
pub before_zero : (ks : Layouts) → before ks 0 ≡ 0
before_zero Layouts.none = refl
before_zero (Layouts.◌with◌ k ks) = refl

pub before_more : (ks : Layouts) (m k : ℕ) → m < k → k < many ks → before ks (suc m) ≤ before ks k
before_more Layouts.none m k lt le = let no' : ⊥ = omega arith in elim no' [ ]
before_more (Layouts.◌with◌ h ks) m zero lt le = let no' : ⊥ = omega arith in elim no' [ ]
before_more (Layouts.◌with◌ h ks) zero (suc k) lt le = rw (before_zero ks) (omega arith)
before_more (Layouts.◌with◌ h ks) (suc m) (suc k) lt le = let r = before_more ks m k (omega arith) (omega arith) in omega arith

pub has_size : (T : Layout) → 0 < size T
has_size (Layout.layout e r m ks s) = omega arith

pub before_inside : (ks : Layouts) (k : ℕ) → k < many ks → before ks k < sizes ks
before_inside Layouts.none k lt = let no' : ⊥ = omega arith in elim no' [ ]
before_inside (Layouts.◌with◌ h ks) zero lt = let p = has_size h in omega arith
before_inside (Layouts.◌with◌ h ks) (suc k) lt = let r = before_inside ks k (omega arith) in omega arith

-- each table below belongs to one child
pub belongs : (ks : Layouts) (y : ℕ) → y < sizes ks → (j : ℕ) × (j < many ks) × (before ks j ≤ y) × (y < before ks (suc j))
belongs Layouts.none y lt = let no' : ⊥ = omega arith in elim no' [ ]
belongs (Layouts.◌with◌ k ks) y lt =
    elim (cases_lt y (size k)) [
      | inl in' ↦ (0, omega arith, omega arith, rw (before_zero ks) (omega arith))
      | inr out ↦ (let r = belongs ks (y - size k) (omega arith) in let a = r.1 in let c = r.2 in let d = r.3 in (suc r.0, omega arith, omega arith, omega arith))
    ]

-- the rows of the j-th child stand together
kid : (ks : Layouts) (b : List ℕ) (w : Spot) (n i c : ℕ) (rows : List Table) (j : ℕ) → ListAll ks b w n i c rows → j < many ks
    → (K : Layout) × (pre : List Table) × (mid : List Table) × (suf : List Table) × (rows ≡ pre ++ (mid ++ suf)) × (length pre ≡ before ks j) × Lists K b (below w n (i + j)) (c + before ks j) mid × (before ks (suc j) ≡ before ks j + size K)
kid Layouts.none b w n i c rows j ls lt = let no' : ⊥ = omega arith in elim no' [ ]
kid (Layouts.◌with◌ k ks) b w n i c rows zero ls lt =
    let ci : c ≡ c + 0 = omega arith in
    let ii : i ≡ i + 0 = omega arith in (
      k,
      [],
      ls.0,
      ls.1,
      ls.2,
      refl,
      subst (λ (i : ℕ). Lists k b (below w n i) (c + 0) ls.0) ii (subst (λ (c : ℕ). Lists k b (below w n i) c ls.0) ci ls.3),
      (let z = before_zero ks in omega arith),
    )
kid (Layouts.◌with◌ k ks) b w n i c rows (suc j) ls lt =
    let o = kid ks b w n (i + 1) (c + size k) ls.1 j ls.4 (omega arith) in
    let ci : c + size k + before ks j ≡ c + (size k + before ks j) = omega arith in
    let ii : i + 1 + j ≡ i + suc j = omega arith in
    let len = lists_length k b (below w n i) c ls.0 ls.3 in (
      o.0,
      ls.0 ++ o.1,
      o.2,
      o.3,
      ls.2 ∙ ap (λ (l : List Table). ls.0 ++ l) o.4 ∙ sym (append_assoc ls.0 o.1 (o.2 ++ o.3)),
      length-append ls.0 o.1 ∙ (let p = o.5 in omega arith),
      subst (λ (i : ℕ). Lists o.0 b (below w n i) (c + (size k + before ks j)) o.2) ii (subst (λ (c : ℕ). Lists o.0 b (below w n (i + 1 + j)) c o.2) ci o.6),
      (let e = o.7 in omega arith),
    )

first_met : (T : Layout) (b : List ℕ) (w : Spot) (n : ℕ) (rows : List Table) (r : Table) → Lists T b w n rows → row_at rows 0 ≡ Ok r → MetAt w r × Tells T b r
first_met (Layout.layout e x m ks s) b w n rows r ls p =
    let q : ls.0 ≡ r = same_row (sym (ap (λ (l : List Table). row_at l 0) ls.2) ∙ p) in
    subst (λ (r : Table). MetAt w r × Tells (Layout.layout e x m ks s) b r) q (ls.4, ls.3)

-- a child's tables have their parents at the layout's own number or later, given that those below the child have
in_first : (k : Layout) (b : List ℕ) (w : Spot) (n c : ℕ) (rows : List Table) (z : ℕ) (r : Table) → w.parent ≡ n → n < c → Lists k b w c rows → row_at rows z ≡ Ok r
    → (0 < z → (c ≤ r.parent) × (r.parent < c + z)) → (n ≤ r.parent) × (r.parent < c + z)
in_first k b w n c rows zero r e lt ls p deep = let m = (first_met k b w c rows r ls p).0.0 in (omega arith, omega arith)
in_first k b w n c rows (suc z) r e lt ls p deep = let d = deep (omega arith) in (omega arith, d.1)

-- inside a layout each table but the first has its parent among the tables before it
mutual
  inner : (T : Layout) (b : List ℕ) (w : Spot) (n : ℕ) (rows : List Table) → Lists T b w n rows → (z : ℕ) (r : Table) → row_at rows z ≡ Ok r → 0 < z → (n ≤ r.parent) × (r.parent < n + z)
  inner (Layout.layout e x m ks s) b w n rows ls zero r p lt = let no' : ⊥ = omega arith in elim no' [ ]
  inner (Layout.layout e x m ks s) b w n rows ls (suc z) r p lt =
      let q = inner_all ks b w n 0 (n + 1) ls.1 (omega arith) ls.5 z r (sym (ap (λ (l : List Table). row_at l (suc z)) ls.2) ∙ p) in
      (q.0, (let u = q.1 in omega arith))

  inner_all : (ks : Layouts) (b : List ℕ) (w : Spot) (n i c : ℕ) (rows : List Table) → n < c → ListAll ks b w n i c rows → (z : ℕ) (r : Table) → row_at rows z ≡ Ok r → (n ≤ r.parent) × (r.parent < c + z)
  inner_all Layouts.none b w n i c rows lt ls z r p = absurd (never_row (sym (ap (λ (l : List Table). row_at l z) ls) ∙ p))
  inner_all (Layouts.◌with◌ k ks) b w n i c rows lt ls z r p =
      let p' : row_at (ls.0 ++ ls.1) z ≡ Ok r = sym (ap (λ (l : List Table). row_at l z) ls.2) ∙ p in
      elim (cases_lt z (length ls.0)) [
        | inl in' ↦
            (let here = sym (row_front ls.0 ls.1 z in') ∙ p' in
            in_first k b (below w n i) n c ls.0 z r refl lt ls.3 here (inner k b (below w n i) c ls.0 ls.3 z r here))
        | inr out ↦
            (let e : z ≡ length ls.0 + (z - length ls.0) = back z (length ls.0) out in
            let len = lists_length k b (below w n i) c ls.0 ls.3 in
            let q = inner_all ks b w n (i + 1) (c + size k) ls.1 (more n c (size k) lt) ls.4 (z - length ls.0) r (sym (ap (row_at (ls.0 ++ ls.1)) e ∙ row_skip ls.0 ls.1 (z - length ls.0)) ∙ p') in
            (q.0, reach c (size k) z (length ls.0) r.parent len out q.1))
      ]
    where
      back : (z l : ℕ) → l ≤ z → z ≡ l + (z - l)
      back z l le = omega arith

      more : (n c s : ℕ) → n < c → n < c + s
      more n c s lt = omega arith

      reach : (c s z l p : ℕ) → l ≡ s → l ≤ z → p < c + s + (z - l) → p < c + z
      reach c s z l p e le lt = omega arith

-- what the record of a table that belongs to the j-th child tells
abbrev pub ChildRow : Layouts → ℕ → ℕ → ℕ → Table → Type 0
ChildRow ks n j x row =
    ((x ≡ n + 1 + before ks j) × (row.parent ≡ n) × (row.index ≡ j) × (n + 1 + before ks (suc j) ≡ x + row.below + 1))
    ⊎ ((n + 1 + before ks j < x) × (n + 1 + before ks j ≤ row.parent) × (row.parent < x))

below_size : (K : Layout) (b : List ℕ) (r : Table) → Tells K b r → size K ≡ r.below + 1
below_size (Layout.layout e x m ks s) b r t = let z = t.8 in omega arith

in_child : (ks : Layouts) (b : List ℕ) (w : Spot) (n : ℕ) (rest : List Table) (j x : ℕ) → ListAll ks b w n 0 (n + 1) rest → j < many ks → n + 1 + before ks j ≤ x → x < n + 1 + before ks (suc j)
    → (row : Table) × (row_at rest (x - (n + 1)) ≡ Ok row) × ChildRow ks n j x row
in_child ks b w n rest j x ls lt from to =
    let k = kid ks b w n 0 (n + 1) rest j ls lt in
    let z : ℕ = x - (n + 1 + before ks j) in
    let len = lists_length k.0 b (below w n (0 + j)) (n + 1 + before ks j) k.2 k.6 in
    let lz : z < length k.2 = short (n + 1) (before ks j) (size k.0) (before ks (suc j)) x (length k.2) k.7 len from to in
    let r = row_there k.2 z lz in
    let at : x - (n + 1) ≡ length k.1 + z = place (n + 1) (before ks j) x (length k.1) k.5 from in (
      r.0,
      ap (λ (l : List Table). row_at l (x - (n + 1))) k.4 ∙ ap (row_at (k.1 ++ (k.2 ++ k.3))) at ∙ row_skip k.1 (k.2 ++ k.3) z ∙ row_front k.2 k.3 z lz ∙ r.1,
      met_or_inner k.0 b w n j x (before ks j) (before ks (suc j)) k.2 r.0 k.6 k.7 from r.1,
    )
  where
    short : (a p s q x l : ℕ) → q ≡ p + s → l ≡ s → a + p ≤ x → x < a + q → x - (a + p) < l
    short a p s q x l e f le lt = omega arith

    place : (a p x l : ℕ) → l ≡ p → a + p ≤ x → x - a ≡ l + (x - (a + p))
    place a p x l e le = omega arith

    met_or_inner : (K : Layout) (b : List ℕ) (w : Spot) (n j x p q : ℕ) (mid : List Table) (row : Table) → Lists K b (below w n (0 + j)) (n + 1 + p) mid → q ≡ p + size K → n + 1 + p ≤ x → row_at mid (x - (n + 1 + p)) ≡ Ok row
        → ((x ≡ n + 1 + p) × (row.parent ≡ n) × (row.index ≡ j) × (n + 1 + q ≡ x + row.below + 1)) ⊎ ((n + 1 + p < x) × (n + 1 + p ≤ row.parent) × (row.parent < x))
    met_or_inner K b w n j x p q mid row ls e from here =
        elim (cases_lt (n + 1 + p) x) [
          | inl deeper ↦ (let i = inner K b (below w n (0 + j)) (n + 1 + p) mid ls (x - (n + 1 + p)) row here (omega arith) in inr (deeper, i.0, (let u = i.1 in omega arith)))
          | inr same ↦
              (let first : x - (n + 1 + p) ≡ 0 = omega arith in
              let m = first_met K b (below w n (0 + j)) (n + 1 + p) mid row ls (subst (λ (z : ℕ). row_at mid z ≡ Ok row) first here) in
              let s = below_size K b row m.1 in
              let ix = m.0.2 in
              inl (omega arith, m.0.0, ix ∙ omega arith, omega arith))
        ]

row_inside : (rows : List Table) (z : ℕ) (r : Table) → row_at rows z ≡ Ok r → z < length rows
row_inside [] z r p = absurd (never_row p)
row_inside (q ∷ rows) zero r p = omega arith
row_inside (q ∷ rows) (suc z) r p = let lt = row_inside rows z r p in omega arith

row_below : (pre mid suf rest : List Table) (first r : Table) (n x : ℕ) → length pre ≡ n → mid ≡ first ∷ rest → n < x → row_at rest (x - (n + 1)) ≡ Ok r → row_at (pre ++ (mid ++ suf)) x ≡ Ok r
row_below pre mid suf rest first r n x e m lt p =
    let a : x ≡ length pre + suc (x - (n + 1)) = omega arith in
    ap (row_at (pre ++ (mid ++ suf))) a ∙ row_skip pre (mid ++ suf) (suc (x - (n + 1))) ∙ ap (λ (l : List Table). row_at (l ++ suf) (suc (x - (n + 1)))) m
    ∙ row_front rest suf (x - (n + 1)) (row_inside rest (x - (n + 1)) r p) ∙ p

module _ {M : Type 0} (b : List ℕ) (T : Layout) (records : List (Option (Record M))) (n : ℕ) (holds : Holds b T records) where
  pub child_row : (e r : ℕ) (m : List ℕ) (ks : Layouts) (s : List ℕ) → layout_at T n ≡ Some (Layout.layout e r m ks s) → (j x : ℕ) → j < many ks → n + 1 + before ks j ≤ x → x < n + 1 + before ks (suc j)
      → (row : Table) × (table_at records x ≡ Ok row) × ChildRow ks n j x row
  child_row e r m ks s at j x lt from to =
      let rows = holds.2.0 in
      let p = sub T b top 0 rows n (Layout.layout e r m ks s) holds.2.1 at in
      let zn : 0 + n ≡ n = omega arith in
      let ls = subst (λ (n : ℕ). Lists (Layout.layout e r m ks s) b p.3 n p.1) zn p.6 in
      let c = in_child ks b p.3 n ls.1 j x ls.5 lt from to in
      (c.0, holds.2.2 x ∙ ap (λ (l : List Table). row_at l x) p.4 ∙ row_below p.0 p.1 p.2 ls.1 ls.0 c.0 n x p.5 ls.2 (omega arith) c.1, c.2)

at_inside : (T : Layout) (b : List ℕ) (rows : List Table) (n : ℕ) (S : Layout) → Lists T b top 0 rows → layout_at T n ≡ Some S → n + size S ≤ size T
at_inside T b rows n S ls at =
    let p = sub T b top 0 rows n S ls at in
    let l = lists_length S b p.3 (0 + n) p.1 p.6 in
    let t = lists_length T b top 0 rows ls in
    let a = ap length p.4 ∙ length-append p.0 (p.1 ++ p.2) in
    let c = length-append p.1 p.2 in
    let d = p.5 in
    omega arith

-- the climb from the table of number x to the child of number n that it belongs to
module _ {M : Type 0} (b : List ℕ) (T : Layout) (records : List (Option (Record M))) (n x : ℕ) (holds : Holds b T records) where
  -- the climb has come to the table of number y
  abbrev pub Climb : ℕ → Type 0
  Climb y = (e r : ℕ) (m : List ℕ) (ks : Layouts) (s : List ℕ) → layout_at T n ≡ Some (Layout.layout e r m ks s) → n < x → x ≤ n + sizes ks
      → (j : ℕ) × (j < many ks) × (n + 1 + before ks j ≤ y) × (y ≤ x) × (x < n + 1 + before ks (suc j))

  abbrev pub OverAt : Result ℕ Missing → Type 0
  OverAt a = (e r : ℕ) (m : List ℕ) (ks : Layouts) (s : List ℕ) → layout_at T n ≡ Some (Layout.layout e r m ks s) → n < x → x ≤ n + sizes ks
      → (j : ℕ) × (j < many ks) × (a ≡ Ok (n + 1 + before ks j)) × (n + 1 + before ks j ≤ x) × (x < n + 1 + before ks (suc j))

  over_by : (a : Result ℕ Missing) (o : Option Layout) → layout_at T n ≡ o → OverAt a → Over o n x a
  over_by a None e f = tt
  over_by a (Some (Layout.layout e r m ks s)) q f = f e r m ks s q

  pub over : (a : Result ℕ Missing) → OverAt a → Over (layout_at T n) n x a
  over a f = over_by a (layout_at T n) refl f

  pub climb_start : Climb x
  climb_start e r m ks s at lt le =
      let g = belongs ks (x - (n + 1)) (omega arith) in
      let f = g.2 in
      let t = g.3 in
      (g.0, g.1, omega arith, omega arith, omega arith)

  pub too_far : (a : Result ℕ Missing) → 4294967296 ≤ x → OverAt a
  too_far a far e r m ks s at lt le = let i = at_inside T b holds.2.0 n (Layout.layout e r m ks s) holds.2.1 at in let z = holds.1 in let no' : ⊥ = omega arith in absurd no'

  module _ (y : ℕ) (climb : Climb y) where
    at_row : (row : Table) → table_at records y ≡ Ok row → (e r : ℕ) (m : List ℕ) (ks : Layouts) (s : List ℕ) → layout_at T n ≡ Some (Layout.layout e r m ks s) → n < x → x ≤ n + sizes ks
        → (j : ℕ) × (j < many ks) × (n + 1 + before ks j ≤ y) × (y ≤ x) × (x < n + 1 + before ks (suc j)) × ChildRow ks n j y row
    at_row row p e r m ks s at lt le =
        let g = climb e r m ks s at lt le in
        let c = child_row b T records n holds e r m ks s at g.0 y g.1 g.2 (let u = g.3 in let v = g.4 in omega arith) in
        (g.0, g.1, g.2, g.3, g.4, subst (ChildRow ks n g.0 y) (same_row (sym c.1 ∙ p)) c.2)

    pub no_row : (q : Missing) (a : Result ℕ Missing) → table_at records y ≡ Err q → OverAt a
    no_row q a p e r m ks s at lt le =
        let g = climb e r m ks s at lt le in
        let c = child_row b T records n holds e r m ks s at g.0 y g.1 g.2 (let u = g.3 in let v = g.4 in omega arith) in
        absurd (never_row (sym p ∙ c.1))

    module _ (row : Table) (p : table_at records y ≡ Ok row) where
      pub climb_end : row.parent ≡ n → OverAt (Ok y)
      climb_end q e r m ks s at lt le =
          let g = at_row row p e r m ks s at lt le in
          elim g.5 [
            | inl here ↦ (g.0, g.1, ap (λ (z : ℕ). Ok z) here.0, within' here.0 g.2 g.3, g.4)
            | inr deeper ↦ absurd (not_n row.parent (before ks g.0) deeper.1 q)
          ]
        where
          within' : {y c : ℕ} → y ≡ c → c ≤ y → y ≤ x → c ≤ x
          within' e f h = omega arith

          not_n : (v c : ℕ) → n + 1 + c ≤ v → v ≡ n → ⊥
          not_n v c le e = omega arith

      pub climb_on : (row.parent ≡ n → ⊥) → Climb row.parent
      climb_on q e r m ks s at lt le =
          let g = at_row row p e r m ks s at lt le in
          elim g.5 [
            | inl here ↦ absurd (q here.1)
            | inr deeper ↦ (g.0, g.1, deeper.1, (let u = deeper.2 in let v = g.3 in le_of row.parent y x u v), g.4)
          ]
        where
          le_of : (p y x : ℕ) → p < y → y ≤ x → p ≤ x
          le_of p y x a c = omega arith

      pub no_loop : (a : Result ℕ Missing) → (row.parent ≡ n → ⊥) → y ≤ row.parent → OverAt a
      no_loop a q up e r m ks s at lt le =
          let g = at_row row p e r m ks s at lt le in
          elim g.5 [ inl here ↦ absurd (q here.1) | inr deeper ↦ absurd (never deeper.2 up) ]
        where
          never : {p y : ℕ} → p < y → y ≤ p → ⊥
          never a c = omega arith
