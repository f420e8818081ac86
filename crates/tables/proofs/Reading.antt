-- What is read is what stands there, and the other way round.
use Rattle.std.proofs.Common.{◌≡◌, ℕ, ◌+◌, ◌-◌, ◌*◌, ◌%◌, ◌<◌, ◌≤◌, Bool, true, false, cond, eqb, ltb, leb, ◌⊎◌, List, length, Ok, Err, Result, sym, refl, ap, ◌∙◌, subst, inl, inr, arith}
use Rattle.std.proofs.lemmas.Bool.{eqb-true, eqb-false, leb-true, eq-eqb, ne_eqb, le-leb, lt-ltb, le-ltb, cond-true, cond-false, cases_lt}
use Rattle.tables.specs.declared.faults.Fault.{Fault}
use Rattle.tables.specs.declared.faults.Fault.TheVariants.{PastEnd, Misaligned, Malformed}
use Rattle.tables.specs.declared.reads.Vtable.{Vtable}
use Rattle.tables.specs.declared.records.Part.{Part}
use Rattle.tables.specs.Outcome.{◌>>=◌, ◌>>◌, need}
use Rattle.tables.specs.Read.{little, number, forward, base, back, vtable, entry, scalar, vector}
use Rattle.tables.specs.Format.{Number, Offset, VtableOf, Present, Absent, Scalar, Vector}
use Rattle.tables.proofs.Binds.{bind_ok, need_ok, no_more}

-- two outcomes that are no fault
pub same_ok : {A : Type 0} {x y : A} → ◌≡◌ {A = Result A Fault} (Ok x) (Ok y) → x ≡ y
same_ok e = cc

pub never_ok : {A : Type 0} {x : Fault} {y : A} → ◌≡◌ {A = Result A Fault} (Err x) (Ok y) → ⊥
never_ok e = let z : ◌≡◌ {A = ℕ} 0 1 = cc in no_more z

-- a condition that held
pub need_is : {B : Type 0} (c : Bool) (e : Fault) (x : Result B Fault) → c ≡ true → need c e >> x ≡ x
need_is c e x p = rw p

cases_ok : {A : Type 0} (c : Bool) (x y : Result A Fault) (a : A) → cond c x y ≡ Ok a → ((c ≡ true) × (x ≡ Ok a)) ⊎ ((c ≡ false) × (y ≡ Ok a))
cases_ok true x y a e = inl (refl, e)
cases_ok false x y a e = inr (refl, e)

pub number_ok : (w : ℕ) (b : List ℕ) (p v : ℕ) → number w b p ≡ Ok v → Number w b p v
number_ok w b p v e =
    let a = need_ok (eqb (p % w) 0) Misaligned _ v e in
    let c = need_ok (leb (p + w) (length b)) PastEnd (Ok (little w b p)) v a.1 in
    (eqb-true (p % w) 0 a.0, leb-true (p + w) (length b) c.0, sym (same_ok c.1))

pub number_is : (w : ℕ) (b : List ℕ) (p v : ℕ) → Number w b p v → number w b p ≡ Ok v
number_is w b p v n =
    need_is (eqb (p % w) 0) Misaligned _ (eq-eqb (p % w) 0 n.0) ∙ need_is (leb (p + w) (length b)) PastEnd (Ok (little w b p)) (le-leb (p + w) (length b) n.1)
    ∙ ap (λ (z : ℕ). Ok z) (sym n.2)

pub forward_ok : (b : List ℕ) (p q : ℕ) → forward b p ≡ Ok q → Offset b p q
forward_ok b p q e =
    let x = bind_ok (number 4 b p) _ q e in
    elim (cases_ok (eqb x.0 0) (Err Malformed) (Ok (p + x.0)) q x.2) [
      | inl c ↦ absurd (never_ok c.1)
      | inr c ↦ (let ne = eqb-false x.0 0 c.0 in (x.0, number_ok 4 b p x.0 x.1, positive x.0 ne, sym (same_ok c.1)))
    ]
  where
    positive : (o : ℕ) → (o ≡ 0 → ⊥) → 0 < o
    positive o ne = elim (cases_lt 0 o) [ inl lt ↦ lt | inr le ↦ absurd (ne (omega arith)) ]

pub forward_is : (b : List ℕ) (p q : ℕ) → Offset b p q → forward b p ≡ Ok q
forward_is b p q n =
    ap (λ (z : Result ℕ Fault). z >>= (λ o. cond (eqb o 0) (Err Malformed) (Ok (p + o)))) (number_is 4 b p n.0 n.1)
    ∙ cond-false (eqb n.0 0) _ _ (ne_eqb n.0 0 (let lt = n.2 in λ e. (omega arith))) ∙ ap (λ (z : ℕ). Ok z) (sym n.3)

pub vtable_ok : (b : List ℕ) (t : ℕ) (v : Vtable) → vtable b t ≡ Ok v → VtableOf b t v
vtable_ok b t v e =
    let o = bind_ok (number 4 b t) _ v e in
    let p = bind_ok (back t o.0) _ v o.2 in
    let z = bind_ok (number 2 b p.0) _ v p.2 in
    let a = need_ok (eqb (z.0 % 2) 0) Malformed _ v z.2 in
    let c = need_ok (leb 4 z.0) Malformed _ v a.1 in
    let d = need_ok (leb (p.0 + z.0) (length b)) PastEnd (Ok (record { place = p.0; size = z.0 })) v c.1 in
    let same : record { place = p.0; size = z.0 } ≡ v = same_ok d.1 in
    subst (VtableOf b t) same (
      o.0,
      number_ok 4 b t o.0 o.1,
      elim (cases_ok (leb o.0 (base t o.0)) (Ok (base t o.0 - o.0)) (Err PastEnd) p.0 p.1)
          [ inl c ↦ (let le = leb-true o.0 (base t o.0) c.0 in let q = same_ok c.1 in rest (base t o.0) o.0 p.0 le q) | inr c ↦ absurd (never_ok c.1) ],
      number_ok 2 b p.0 z.0 z.1,
      eqb-true (z.0 % 2) 0 a.0,
      leb-true 4 z.0 c.0,
      leb-true (p.0 + z.0) (length b) d.0,
    )
  where
    rest : (s o p : ℕ) → o ≤ s → s - o ≡ p → p + o ≡ s
    rest s o p le e = omega arith

pub vtable_is : (b : List ℕ) (t : ℕ) (v : Vtable) → VtableOf b t v → vtable b t ≡ Ok v
vtable_is b t v n =
    let o = n.0 in
    let le : o ≤ base t o = less (base t o) o v.place n.2 in
    let at : base t o - o ≡ v.place = left (base t o) o v.place n.2 in
    let step : back t o ≡ Ok v.place = cond-true (leb o (base t o)) _ _ (le-leb o (base t o) le) ∙ ap (λ (z : ℕ). Ok z) at in
    ap (λ (z : Result ℕ Fault). z >>= after_offset) (number_is 4 b t o n.1)
    ∙ ap (λ (z : Result ℕ Fault). z >>= after_place) step
    ∙ ap (λ (z : Result ℕ Fault). z >>= after_size v.place) (number_is 2 b v.place v.size n.3)
    ∙ need_is (eqb (v.size % 2) 0) Malformed _ (eq-eqb (v.size % 2) 0 n.4)
    ∙ need_is (leb 4 v.size) Malformed _ (le-leb 4 v.size n.5)
    ∙ need_is (leb (v.place + v.size) (length b)) PastEnd _ (le-leb (v.place + v.size) (length b) n.6)
  where
    less : (s o p : ℕ) → p + o ≡ s → o ≤ s
    less s o p e = omega arith

    left : (s o p : ℕ) → p + o ≡ s → s - o ≡ p
    left s o p e = omega arith

    after_size : ℕ → ℕ → Result Vtable Fault
    after_size p z = need (eqb (z % 2) 0) Malformed >> (need (leb 4 z) Malformed >> (need (leb (p + z) (length b)) PastEnd >> Ok (record { place = p; size = z })))

    after_place : ℕ → Result Vtable Fault
    after_place p = number 2 b p >>= after_size p

    after_offset : ℕ → Result Vtable Fault
    after_offset o = back t o >>= after_place

-- the fields of a table, through a vtable that stands
module _ (b : List ℕ) (t : ℕ) (v : Vtable) (n : VtableOf b t v) (i : ℕ) (even : i % 2 ≡ 0) where
  here : i < v.size → (e : ℕ) → e ≡ little 2 b (v.place + i) → Number 2 b (v.place + i) e
  here lt e p = let a = n.3.0 in let z = n.4 in let s = n.6 in (omega arith, omega arith, p)

  entry_cases : (Absent b v i × (entry b v i ≡ 0)) ⊎ Present b v i (entry b v i)
  entry_cases =
      elim (cases_lt i v.size) [
        | inl lt ↦ (let e : entry b v i ≡ little 2 b (v.place + i) = cond-true (ltb i v.size) _ _ (lt-ltb i v.size lt) in
            elim (cases_lt 0 (entry b v i)) [
              | inl more ↦ inr (lt, here lt (entry b v i) e, more)
              | inr zero ↦ (let z : entry b v i ≡ 0 = none (entry b v i) zero in inl (inr (here lt 0 (sym z ∙ e)), z))
            ])
        | inr le ↦ inl (inl le, cond-false (ltb i v.size) _ _ (le-ltb i v.size le))
      ]
    where
      none : (e : ℕ) → e ≤ 0 → e ≡ 0
      none e le = omega arith

  absent_entry : Absent b v i → entry b v i ≡ 0
  absent_entry (inl le) = cond-false (ltb i v.size) _ _ (le-ltb i v.size le)
  absent_entry (inr z) =
      elim (cases_lt i v.size) [
        | inl lt ↦ cond-true (ltb i v.size) _ _ (lt-ltb i v.size lt) ∙ sym z.2
        | inr le ↦ cond-false (ltb i v.size) _ _ (le-ltb i v.size le)
      ]

  present_entry : (e : ℕ) → Present b v i e → entry b v i ≡ e
  present_entry e p = cond-true (ltb i v.size) _ _ (lt-ltb i v.size p.0) ∙ sym p.1.2

  -- a field by the entry, absent and present
  no_entry : {A : Type 0} (x y : Result A Fault) → entry b v i ≡ 0 → cond (eqb (entry b v i) 0) x y ≡ x
  no_entry x y z = cond-true (eqb (entry b v i) 0) x y (eq-eqb (entry b v i) 0 z)

  some_entry : {A : Type 0} (x y : Result A Fault) → 0 < entry b v i → cond (eqb (entry b v i) 0) x y ≡ y
  some_entry x y lt = cond-false (eqb (entry b v i) 0) x y (ne_eqb (entry b v i) 0 (λ e. (omega arith)))

  pub scalar_ok : (w x : ℕ) → scalar w b t (entry b v i) ≡ Ok x → Scalar w b t v i x
  scalar_ok w x e =
      elim entry_cases [
        | inl a ↦ inl (a.0, sym (same_ok (sym (no_entry (Ok 0) (number w b (t + entry b v i)) a.1) ∙ e)))
        | inr p ↦ inr (entry b v i, p, number_ok w b (t + entry b v i) x (sym (some_entry (Ok 0) (number w b (t + entry b v i)) p.2) ∙ e))
      ]

  pub scalar_is : (w x : ℕ) → Scalar w b t v i x → scalar w b t (entry b v i) ≡ Ok x
  scalar_is w x (inl a) = no_entry (Ok 0) (number w b (t + entry b v i)) (absent_entry a.0) ∙ ap (λ (z : ℕ). Ok z) (sym a.1)
  scalar_is w x (inr p) =
      let e : entry b v i ≡ p.0 = present_entry p.0 p.1 in
      some_entry (Ok 0) (number w b (t + entry b v i)) (subst (λ (z : ℕ). 0 < z) (sym e) p.1.2) ∙ ap (λ (z : ℕ). number w b (t + z)) e ∙ number_is w b (t + p.0) x p.2

  -- the elements behind an offset
  elements : ℕ → ℕ → Result Part Fault
  elements w p = number 4 b p >>= (λ n. need (leb (p + 4 + n * w) (length b)) PastEnd >> Ok (record { from = p + 4; count = n }))

  elements_ok : (w q : ℕ) (p : Part) → elements w q ≡ Ok p → Number 4 b q p.count × (p.from ≡ q + 4) × (q + 4 + p.count * w ≤ length b)
  unfolding elements
  elements_ok w q p e =
      let c = bind_ok (number 4 b q) _ p e in
      let d = need_ok (leb (q + 4 + c.0 * w) (length b)) PastEnd (Ok (record { from = q + 4; count = c.0 })) p c.2 in
      subst (λ (p : Part). Number 4 b q p.count × (p.from ≡ q + 4) × (q + 4 + p.count * w ≤ length b)) (same_ok d.1)
      (number_ok 4 b q c.0 c.1, refl, leb-true (q + 4 + c.0 * w) (length b) d.0)

  elements_is : (w q : ℕ) (p : Part) → Number 4 b q p.count → p.from ≡ q + 4 → q + 4 + p.count * w ≤ length b → elements w q ≡ Ok p
  unfolding elements
  elements_is w q p c f l =
      ap (λ (z : Result ℕ Fault). z >>= (λ n. need (leb (q + 4 + n * w) (length b)) PastEnd >> Ok (record { from = q + 4; count = n }))) (number_is 4 b q p.count c)
      ∙ need_is (leb (q + 4 + p.count * w) (length b)) PastEnd _ (le-leb (q + 4 + p.count * w) (length b) l)
      ∙ ap (λ (z : ℕ). Ok (record { from = z; count = p.count })) (sym f)

  pub vector_ok : (w : ℕ) (p : Part) → vector w b t (entry b v i) ≡ Ok p → Vector w b t v i p
  unfolding elements
  vector_ok w p e =
      elim entry_cases [
        | inl a ↦ inl (a.0, sym (same_ok (sym (no_entry (Ok (record { from = 0; count = 0 })) (forward b (t + entry b v i) >>= elements w) a.1) ∙ e)))
        | inr s ↦
            (let f = bind_ok (forward b (t + entry b v i)) (elements w) p (sym (some_entry (Ok (record { from = 0; count = 0 })) (forward b (t + entry b v i) >>= elements w) s.2) ∙ e) in
            let c = elements_ok w f.0 p f.2 in
            inr (entry b v i, f.0, s, forward_ok b (t + entry b v i) f.0 f.1, c.0, c.1, c.2))
      ]

  pub vector_is : (w : ℕ) (p : Part) → Vector w b t v i p → vector w b t (entry b v i) ≡ Ok p
  unfolding elements
  vector_is w p (inl a) = no_entry (Ok (record { from = 0; count = 0 })) (forward b (t + entry b v i) >>= elements w) (absent_entry a.0) ∙ ap (λ (z : Part). Ok z) (sym a.1)
  vector_is w p (inr s) =
      let e : entry b v i ≡ s.0 = present_entry s.0 s.2 in
      some_entry (Ok (record { from = 0; count = 0 })) (forward b (t + entry b v i) >>= elements w) (subst (λ (z : ℕ). 0 < z) (sym e) s.2.2)
      ∙ ap (λ (z : ℕ). forward b (t + z) >>= elements w) e ∙ ap (λ (z : Result ℕ Fault). z >>= elements w) (forward_is b (t + s.0) s.1 s.3)
      ∙ elements_is w s.1 p s.4 s.5 s.6
