-- The search for the k-th child of the table of number n, by halving the numbers below it.
use Rattle.std.proofs.Common.{◌≡◌, ℕ, zero, suc, ◌+◌, ◌<◌, ◌≤◌, max, ltb, List, Some, None, Ok, Err, Option, Result, sym, refl, ap, ◌∙◌, subst, inl, inr, arith}
use Rattle.std.proofs.lemmas.Bool.{cond-true, cond-false, lt-ltb, le-ltb}
use Rattle.tables.specs.declared.faults.Missing.{Missing}
use Rattle.tables.specs.declared.faults.Missing.TheVariants as missing
use Rattle.tables.specs.declared.records.Table.{Table}
use Rattle.tables.specs.declared.records.Record.{Record}
use Rattle.tables.specs.Answer.{table_at}
use Rattle.tables.specs.Format.{Layout, Layouts, sizes}
use Rattle.tables.specs.Listing.{many, Holds}
use Rattle.tables.specs.Question.{layout_at, spot_at, TellsOf, before, Over, child_of}
use Rattle.tables.specs.Visit.{top}
use Rattle.tables.proofs.Binds.{no_more}
use Rattle.tables.proofs.Numbers.{told}
use Rattle.tables.proofs.Siblings.{same_row, has_size, before_zero, before_more, before_inside, child_row}

never_found : {A : Type 0} {q : Missing} {x : A} → ◌≡◌ {A = Result A Missing} (Err q) (Ok x) → ⊥
never_found e = let z : ◌≡◌ {A = ℕ} 0 1 = cc in no_more z

same_found : {x y : ℕ} → ◌≡◌ {A = Result ℕ Missing} (Ok x) (Ok y) → x ≡ y
same_found e = cc

same_missing : {q p : Missing} → ◌≡◌ {A = Result Table Missing} (Err q) (Err p) → q ≡ p
same_missing e = cc

grows : (ks : Layouts) (k : ℕ) → k < many ks → before ks k < before ks (suc k)
grows Layouts.none k lt = let no' : ⊥ = omega arith in elim no' [ ]
grows (Layouts.◌with◌ x ks) zero lt = rw (before_zero ks) (let s = has_size x in omega arith)
grows (Layouts.◌with◌ x ks) (suc k) lt = let r = grows ks k (omega arith) in omega arith

further : (ks : Layouts) (k j : ℕ) → k < j → j < many ks → before ks k < before ks j
further ks k j lt le = let a = grows ks k (omega arith) in let c = before_more ks k j lt le in omega arith

module _ {M : Type 0} (b : List ℕ) (T : Layout) (records : List (Option (Record M))) (n k : ℕ) (holds : Holds b T records) where
  -- the table of number n, by the layout of that number
  abbrev Own : Table → Type 0
  Own table = (e : ℕ) × (r : ℕ) × (m : List ℕ) × (ks : Layouts) × (s : List ℕ) × (layout_at T n ≡ Some (Layout.layout e r m ks s)) × (table.children ≡ many ks) × (table.below ≡ sizes ks)

  own_by : (table : Table) (o : Option Layout) → layout_at T n ≡ o → TellsOf o (spot_at T top 0 n) b (table_at records n) → table_at records n ≡ Ok table → Own table
  own_by table None e t p = absurd (never_found (sym t ∙ p))
  own_by table (Some (Layout.layout e r m ks s)) at t p =
      let q : t.0 ≡ table = same_row (sym t.1 ∙ p) in
      (e, r, m, ks, s, at, ap (λ (x : Table). x.children) (sym q) ∙ t.2.7, ap (λ (x : Table). x.below) (sym q) ∙ t.2.8)

  own : (table : Table) → table_at records n ≡ Ok table → Own table
  own table p = own_by table (layout_at T n) refl (told b T records n holds) p

  absent_by : (q : Missing) (o : Option Layout) → TellsOf o (spot_at T top 0 n) b (table_at records n) → table_at records n ≡ Err q → Err q ≡ child_of o n k
  absent_by q None t p = ap (λ (m : Missing). Err m) (same_missing (sym p ∙ t))
  absent_by q (Some S) t p = absurd (never_found (sym p ∙ t.1))

  pub no_table_there : (q : Missing) → table_at records n ≡ Err q → Err q ≡ child_of (layout_at T n) n k
  no_table_there q p = absent_by q (layout_at T n) (told b T records n holds) p

  pub no_such_child : (table : Table) → table_at records n ≡ Ok table → table.children ≤ k → Err missing.Child ≡ child_of (layout_at T n) n k
  no_such_child table p le =
      let o = own table p in
      sym (ap (λ (l : Option Layout). child_of l n k) o.5 ∙ cond-false (ltb k (many o.3)) _ _ (le-ltb k (many o.3) (subst (λ (c : ℕ). c ≤ k) o.6 le)))

  -- the child is among the numbers from low to below high
  abbrev pub Between : ℕ → ℕ → Type 0
  Between low high = (e : ℕ) × (r : ℕ) × (m : List ℕ) × (ks : Layouts) × (s : List ℕ) × (layout_at T n ≡ Some (Layout.layout e r m ks s)) × (k < many ks)
      × (n < low) × (low ≤ n + 1 + before ks k) × (n + 1 + before ks k < high) × (high ≤ n + 1 + sizes ks)

  pub at_first : (table : Table) → table_at records n ≡ Ok table → k < table.children → Between (n + 1) (n + 1 + table.below)
  at_first table p lt =
      let o = own table p in
      let c = o.6 in
      let s = o.7 in
      let lt' : k < many o.3 = omega arith in
      let i = before_inside o.3 k lt' in
      (o.0, o.1, o.2, o.3, o.4, o.5, lt', omega arith, omega arith, omega arith, omega arith)

  pub not_empty : (low high : ℕ) → Between low high → high ≤ low → ⊥
  not_empty low high h le = let a = h.8 in let c = h.9 in omega arith

  -- what a table in the middle belongs to
  module _ (low high mid : ℕ) (h : Between low high) (from : low ≤ mid) (to : mid < high) where
    child_at_lem : (a : Result ℕ Missing) → Over (layout_at T n) n mid a
        → (j : ℕ) × (j < many h.3) × (a ≡ Ok (n + 1 + before h.3 j)) × (n + 1 + before h.3 j ≤ mid) × (mid < n + 1 + before h.3 (suc j))
    child_at_lem a o =
        let f = subst (λ (l : Option Layout). Over l n mid a) h.5 o in
        let lo = h.7 in
        let hi = h.10 in
        f (omega arith) (omega arith)

    pub met_none : (q : Missing) → Over (layout_at T n) n mid (Err q) → ⊥
    met_none q o = never_found (child_at_lem (Err q) o).2

    module _ (found : ℕ) (o : Over (layout_at T n) n mid (Ok found)) where
      sibling_row : (j : ℕ) × (j < many h.3) × (found ≡ n + 1 + before h.3 j) × (mid < n + 1 + before h.3 (suc j))
          × ((sibling : Table) × (table_at records found ≡ Ok sibling) × (sibling.index ≡ j) × (n + 1 + before h.3 (suc j) ≡ found + sibling.below + 1))
      sibling_row =
          let c = child_at_lem (Ok found) o in
          let e : found ≡ n + 1 + before h.3 c.0 = same_found c.2 in
          let up : found < n + 1 + before h.3 (suc c.0) = (let u = c.3 in let v = c.4 in omega arith) in
          let r = child_row b T records n holds h.0 h.1 h.2 h.3 h.4 h.5 c.0 found c.1 (let z = e in omega arith) up in
          elim r.2 [
            | inl here ↦ (c.0, c.1, e, c.4, (r.0, r.1, here.2, here.3))
            | inr deeper ↦ absurd (apart deeper.0 e)
          ]
        where
          apart : {x y : ℕ} → x < y → y ≡ x → ⊥
          apart p q = omega arith

      pub row_missing : (q : Missing) → table_at records found ≡ Err q → ⊥
      row_missing q p = never_found (sym p ∙ sibling_row.4.1)

      module _ (sibling : Table) (p : table_at records found ≡ Ok sibling) where
        same : sibling_row.4.0 ≡ sibling
        same = same_row (sym sibling_row.4.1 ∙ p)

        index_is : sibling.index ≡ sibling_row.0
        index_is = ap (λ (t : Table). t.index) (sym same) ∙ sibling_row.4.2

        end_is : n + 1 + before h.3 (suc sibling_row.0) ≡ found + sibling.below + 1
        end_is = sibling_row.4.3 ∙ ap (λ (t : Table). found + t.below + 1) same

        pub hit : sibling.index ≡ k → Ok found ≡ child_of (layout_at T n) n k
        hit e =
            let j : sibling_row.0 ≡ k = sym index_is ∙ e in
            ap (λ (x : ℕ). Ok x) (sibling_row.2 ∙ ap (λ (j : ℕ). n + 1 + before h.3 j) j)
            ∙ sym (ap (λ (l : Option Layout). child_of l n k) h.5 ∙ cond-true (ltb k (many h.3)) _ _ (lt-ltb k (many h.3) h.6))

        pub lower_half : k < sibling.index → Between low found
        lower_half lt =
            let j = index_is in
            let less : before h.3 k < before h.3 sibling_row.0 = further h.3 k sibling_row.0 (omega arith) sibling_row.1 in
            let e = sibling_row.2 in
            let top' = before_inside h.3 sibling_row.0 sibling_row.1 in
            (h.0, h.1, h.2, h.3, h.4, h.5, h.6, h.7, h.8, omega arith, omega arith)

        pub upper_half : sibling.index < k → Between (max (found + sibling.below + 1) (mid + 1)) high
        upper_half lt =
            let j = index_is in
            let e = end_is in
            let up = sibling_row.3 in
            let at = before_more h.3 sibling_row.0 k (omega arith) h.6 in
            (h.0, h.1, h.2, h.3, h.4, h.5, h.6, omega arith, omega arith, h.9, h.10)
