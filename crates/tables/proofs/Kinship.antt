-- The number of a child names that child.
use Rattle.std.proofs.Common.{◌≡◌, ℕ, zero, suc, ◌+◌, ◌-◌, ◌<◌, ◌≤◌, ltb, IfOk, Some, None, Option, Result, sym, refl, ap, ◌∙◌, subst, inl, inr, arith}
use Rattle.std.proofs.lemmas.Bool.{cond-true, cond-false, lt-ltb, le-ltb, cases_lt}
use Rattle.tables.specs.declared.faults.Missing.{Missing}
use Rattle.tables.specs.Format.{Layout, Layouts, size, sizes}
use Rattle.tables.specs.Listing.{many}
use Rattle.tables.specs.Question.{layout_at, layouts_at, before, nth, nth_child, child_of, ChildIs}
use Rattle.tables.proofs.Numbers.{never_some, same_some}
use Rattle.tables.proofs.Siblings.{has_size, before_inside}

-- the layout at a number, and at the numbers that follow it
in_front : (x : ℕ) (k : Layout) (ks : Layouts) → x < size k → layouts_at (Layouts.◌with◌ k ks) x ≡ layout_at k x
in_front x k ks lt = cond-true (ltb x (size k)) _ _ (lt-ltb x (size k) lt)

behind : (x : ℕ) (k : Layout) (ks : Layouts) → size k ≤ x → layouts_at (Layouts.◌with◌ k ks) x ≡ layouts_at ks (x - size k)
behind x k ks le = cond-false (ltb x (size k)) _ _ (le-ltb x (size k) le)

mutual
  inside : (T : Layout) (n : ℕ) (S : Layout) → layout_at T n ≡ Some S → n + size S ≤ size T
  inside (Layout.layout e r m ks s) zero S p = let q : size S ≡ size (Layout.layout e r m ks s) = ap size (sym (same_some p)) in omega arith
  inside (Layout.layout e r m ks s) (suc n) S p = let q = inside_all ks n S p in omega arith

  inside_all : (ks : Layouts) (n : ℕ) (S : Layout) → layouts_at ks n ≡ Some S → n + size S ≤ sizes ks
  inside_all Layouts.none n S p = absurd (never_some p)
  inside_all (Layouts.◌with◌ k ks) n S p =
      elim (cases_lt n (size k)) [
        | inl lt ↦ (let q = inside k n S (sym (in_front n k ks lt) ∙ p) in omega arith)
        | inr le ↦ (let q = inside_all ks (n - size k) S (sym (behind n k ks le) ∙ p) in omega arith)
      ]

mutual
  onward : (T : Layout) (n : ℕ) (S : Layout) (x : ℕ) → layout_at T n ≡ Some S → x < size S → layout_at T (n + x) ≡ layout_at S x
  onward (Layout.layout e r m ks s) zero S x p lt =
      let z : 0 + x ≡ x = omega arith in ap (layout_at (Layout.layout e r m ks s)) z ∙ ap (λ (S : Layout). layout_at S x) (same_some p)
  onward (Layout.layout e r m ks s) (suc n) S x p lt =
      let z : suc n + x ≡ suc (n + x) = omega arith in ap (layout_at (Layout.layout e r m ks s)) z ∙ onward_all ks n S x p lt

  onward_all : (ks : Layouts) (n : ℕ) (S : Layout) (x : ℕ) → layouts_at ks n ≡ Some S → x < size S → layouts_at ks (n + x) ≡ layout_at S x
  onward_all Layouts.none n S x p lt = absurd (never_some p)
  onward_all (Layouts.◌with◌ k ks) n S x p lt =
      elim (cases_lt n (size k)) [
        | inl here ↦
            (let q = sym (in_front n k ks here) ∙ p in
            let i = inside k n S q in
            in_front (n + x) k ks (room n x (size S) (size k) lt i) ∙ onward k n S x q lt)
        | inr out ↦
            (let e : n + x - size k ≡ n - size k + x = later n x (size k) out in
            behind (n + x) k ks (past n x (size k) out) ∙ ap (layouts_at ks) e ∙ onward_all ks (n - size k) S x (sym (behind n k ks out) ∙ p) lt)
      ]
    where
      room : (n x s k : ℕ) → x < s → n + s ≤ k → n + x < k
      room n x s k a c = omega arith

      later : (n x k : ℕ) → k ≤ n → n + x - k ≡ n - k + x
      later n x k a = omega arith

      past : (n x k : ℕ) → k ≤ n → k ≤ n + x
      past n x k a = omega arith

itself : (T : Layout) → layout_at T 0 ≡ Some T
itself (Layout.layout e r m ks s) = refl

nth_at : (ks : Layouts) (j : ℕ) → j < many ks → layouts_at ks (before ks j) ≡ nth ks j
nth_at Layouts.none j lt = let no' : ⊥ = omega arith in elim no' [ ]
nth_at (Layouts.◌with◌ k ks) zero lt = in_front 0 k ks (has_size k) ∙ itself k
nth_at (Layouts.◌with◌ k ks) (suc j) lt =
    let e : size k + before ks j - size k ≡ before ks j = omega arith in
    behind (size k + before ks j) k ks (omega arith) ∙ ap (layouts_at ks) e ∙ nth_at ks j (omega arith)

child_named : (T : Layout) (n k : ℕ) (o : Option Layout) → layout_at T n ≡ o → IfOk (child_of o n k) (λ c. layout_at T c ≡ nth_child o k)
child_named T n k None p = tt
child_named T n k (Some (Layout.layout e r m ks s)) p =
    elim (cases_lt k (many ks)) [
      | inl lt ↦
          (let a : n + 1 + before ks k ≡ n + suc (before ks k) = omega arith in
          let i = before_inside ks k lt in
          subst (λ (z : Result ℕ Missing). IfOk z (λ c. layout_at T c ≡ nth ks k)) (sym (cond-true (ltb k (many ks)) _ _ (lt-ltb k (many ks) lt)))
          (ap (layout_at T) a ∙ onward T n (Layout.layout e r m ks s) (suc (before ks k)) p (omega arith) ∙ nth_at ks k lt))
      | inr le ↦ subst (λ (z : Result ℕ Missing). IfOk z (λ c. layout_at T c ≡ nth ks k)) (sym (cond-false (ltb k (many ks)) _ _ (le-ltb k (many ks) le))) tt
    ]

pub child_is : (T : Layout) (n k : ℕ) (r : Result ℕ Missing) → r ≡ child_of (layout_at T n) n k → ChildIs T n k r
child_is T n k r e = (e, subst (λ (z : Result ℕ Missing). IfOk z (λ c. layout_at T c ≡ nth_child (layout_at T n) k)) (sym e) (child_named T n k (layout_at T n) refl))
