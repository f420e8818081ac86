-- The first place of a byte.
use Rattle.std.proofs.Common.{◌≡◌, ℕ, suc, ◌+◌, ◌<◌, ◌≤◌, cond, not, eqb, ltb, ◌⊎◌, List, [], ◌∷◌, ◌++◌, length, take, drop, Some, None, Option, sym, refl, ap, ◌∙◌, subst, inl, inr, arith}
use Rattle.std.proofs.lemmas.Bool.{eq-eqb, ne_eqb, cond-true, cond-false, cases_eq, cases_lt, lt-ltb, le-ltb}
use Rattle.std.specs.List.{prefix_len, AllByRecursion as All}
use Rattle.kinds.proofs.Words.{same_some, never_some}
use Rattle.dtype.specs.Form.{◌>>=◌, place}

-- what went before an answer that is there
pub bind_some : {A B : Type 0} (m : Option A) (f : A → Option B) (y : B) → ◌>>=◌ m f ≡ Some y → (x : A) × (m ≡ Some x) × (f x ≡ Some y)
bind_some (Some x) f y e = (x, refl, e)
bind_some None f y e = absurd (cc)

-- the byte b does not stand in s
abbrev pub Free : ℕ → List ℕ → Type 0
Free b s = All (λ x. x ≡ b → ⊥) s

-- a byte that is the first, and one that comes later
pub place_here : (b x : ℕ) (xs : List ℕ) → x ≡ b → place b (x ∷ xs) ≡ Some 0
place_here b x xs e = rw (eq-eqb x b e) (cond-true (ltb 0 (suc (length xs))) _ _ (lt-ltb 0 (suc (length xs)) (omega arith)))

pub place_later : (b x : ℕ) (xs : List ℕ) → (x ≡ b → ⊥) → place b (x ∷ xs) ≡ ◌>>=◌ (place b xs) (λ n. Some (suc n))
place_later b x xs ne = rw (ne_eqb x b ne) (later (prefix_len (λ y. not (eqb y b)) xs) (length xs))
  where
    later : (p n : ℕ) → cond (ltb (1 + p) (suc n)) (Some (1 + p)) None ≡ ◌>>=◌ (cond (ltb p n) (Some p) None) (λ k. Some (suc k))
    later p n = on (cases_lt p n)
      where
        on : (p < n) ⊎ (n ≤ p) → cond (ltb (1 + p) (suc n)) (Some (1 + p)) None ≡ ◌>>=◌ (cond (ltb p n) (Some p) None) (λ k. Some (suc k))
        on (inl h) = rw (lt-ltb p n h) (cond-true (ltb (1 + p) (suc n)) _ _ (lt-ltb (1 + p) (suc n) (omega arith)) ∙ ap Some (omega arith))
        on (inr h) = rw (le-ltb p n h) (cond-false (ltb (1 + p) (suc n)) _ _ (le-ltb (1 + p) (suc n) (omega arith)))

-- a byte stands first behind what is free of it
pub place_append : (b : ℕ) (s rest : List ℕ) → Free b s → place b (s ++ (b ∷ rest)) ≡ Some (length s)
place_append b [] rest f = place_here b b rest refl
place_append b (x ∷ s) rest f = place_later b x (s ++ (b ∷ rest)) f.0 ∙ ap (λ (o : Option ℕ). ◌>>=◌ o (λ n. Some (suc n))) (place_append b s rest f.1)

-- a byte that stands nowhere has no place
pub free_none : (b : ℕ) (s : List ℕ) → Free b s → place b s ≡ None
free_none b [] f = refl
free_none b (x ∷ s) f = place_later b x s f.0 ∙ ap (λ (o : Option ℕ). ◌>>=◌ o (λ n. Some (suc n))) (free_none b s f.1)

pub none_free : (b : ℕ) (s : List ℕ) → place b s ≡ None → Free b s
none_free b [] e = tt
none_free b (x ∷ s) e =
    elim (cases_eq x b) [
      | inl same ↦ absurd (never_some (sym e ∙ place_here b x s same))
      | inr ne ↦ (ne, none_free b s (later (place b s) (sym (place_later b x s ne) ∙ e)))
    ]
  where
    later : (o : Option ℕ) → ◌>>=◌ o (λ n. Some (suc n)) ≡ None → o ≡ None
    later None h = refl
    later (Some n) h = absurd (cc)

-- the first byte is the one looked for, or its place is one further than in the rest
pub place_cases : (b x : ℕ) (xs : List ℕ) (n : ℕ) → place b (x ∷ xs) ≡ Some n → ((x ≡ b) × (n ≡ 0)) ⊎ ((x ≡ b → ⊥) × ((m : ℕ) × (place b xs ≡ Some m) × (n ≡ suc m)))
place_cases b x xs n e =
    elim (cases_eq x b) [
      | inl same ↦ inl (same, same_some (sym e ∙ place_here b x xs same))
      | inr ne ↦ (let m = bind_some (place b xs) (λ m. Some (suc m)) n (sym (place_later b x xs ne) ∙ e) in inr (ne, (m.0, m.1, sym (same_some m.2))))
    ]

-- a text is cut at the place of a byte, and the byte does not stand before it
abbrev CutAt : ℕ → List ℕ → ℕ → Type 0
CutAt b s n = (n < length s) × (s ≡ take n s ++ (b ∷ drop (suc n) s)) × Free b (take n s)

cut_at : (b : ℕ) (s : List ℕ) (n : ℕ) → place b s ≡ Some n → CutAt b s n
cut_at b [] n e = absurd (cc)
cut_at b (x ∷ s) n e =
    elim (place_cases b x s n e) [
      | inl h ↦ subst (CutAt b (x ∷ s)) (sym h.1) (omega arith, ap (λ z. z ∷ s) h.0, tt)
      | inr h ↦ (let m = h.1 in let r = cut_at b s m.0 m.1 in
          subst (CutAt b (x ∷ s)) (sym m.2) (further m.0 (length s) r.0, ap (λ z. x ∷ z) r.1, (h.0, r.2)))
    ]
  where
    further : (m k : ℕ) → m < k → suc m < suc k
    further m k lt = omega arith

pub place_some : (b : ℕ) (s : List ℕ) (n : ℕ) → place b s ≡ Some n → (n < length s) × (s ≡ take n s ++ (b ∷ drop (n + 1) s)) × Free b (take n s)
place_some b s n e = let h = cut_at b s n e in (h.0, subst (λ (k : ℕ). s ≡ take n s ++ (b ∷ drop k s)) (next n) h.1, h.2)
  where
    next : (n : ℕ) → suc n ≡ n + 1
    next n = omega arith
