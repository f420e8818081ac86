-- A text is cut behind the first 0A: the part before it is the first line, and the part behind it is what follows the line.
use Rattle.std.proofs.Common.{◌≡◌, ℕ, zero, suc, ◌+◌, ◌-◌, ◌<◌, ◌≤◌, min, true, false, eqb, ltb, ◌⊎◌, List, [], ◌∷◌, ◌++◌, length, get_or, take, drop, unwrap_or, Option, None, Some, MatchOption, sym, ap, ◌∙◌, inl, inr, arith, Bor}
use Rattle.std.proofs.lemmas.List.{take_all, drop_all, take-append-le}
use Rattle.std.proofs.lemmas.Bool.{cases_Bool, ltb-true, ltb-false, false≢true}
use Rattle.std.proofs.Math.Seq.{drop-append_seam, drop-cons}
use Rattle.std.proofs.Math.ListN.{get_or-append}
use Rattle.std.specs.List.{IsFirstMatchOrLen}
use Rattle.std.specs.Cmp.Lexicographic.{pointwise}
use Rattle.ids.specs.Lines.{first_line, after_line}
use Rattle.ids.proofs.Splits.{front, back, whole_line, nothing_after}

-- The length of the first line, where the first 0A stands at i, or no byte before i is one and the text ends there.
first_len : (s : List ℕ) (i : ℕ) → ((k : ℕ) → k < i → eqb (get_or s k 0) 10 ≡ false) → (i < length s → eqb (get_or s i 0) 10 ≡ true) → length (first_line s) ≡ min i (length s)
first_len [] i below at = omega arith
first_len (b ∷ s) zero below at = let e : eqb b 10 ≡ true = at (omega arith) in rw e (omega arith)
first_len (b ∷ s) (suc i) below at =
    let e : eqb b 10 ≡ false = below 0 (omega arith) in
    let more : length (first_line s) ≡ min i (length s) = first_len s i (λ k l. below (suc k) (omega arith)) (λ l. at (omega arith)) in
    rw e (omega arith)

-- A part is x, and what follows it t: the part ends behind the first 0A, which stands at i, or with the text.
module _ (s x t : List ℕ) (i : ℕ) (e : s ≡ x ++ t) (n : length x ≡ min (i + 1) (length s)) (some : 0 < length s) (first : IsFirstMatchOrLen (λ b. eqb b 10) s i) where
  len : length (first_line s) ≡ min i (length s)
  len = first_len s i (λ k l. first.0 k 0 (omega arith) l) (λ l. first.1 l 0)

  dropped : drop (length x) s ≡ t
  dropped = ap (drop (length x)) e ∙ drop-append_seam x t

  pub rest : t ≡ after_line s
  rest = elim (cases_Bool (ltb i (length s))) [
    | inl l ↦ let k : length x ≡ length (first_line s) + 1 = omega (arith, len, n, ltb-true i (length s) l) in sym dropped ∙ ap (λ (j : ℕ). drop j s) k ∙ back s
    | inr l ↦ let h : length s ≤ length x = omega (arith, n, ltb-false i (length s) l) in
        let k : length (first_line s) ≡ length s = omega (arith, len, ltb-false i (length s) l) in
        sym dropped ∙ drop_all (length x) s h ∙ sym (nothing_after s k)
  ]

  last : length x - 1 < length x
  last = omega arith

  end : drop (length x - 1) x ≡ get_or x (length x - 1) 0 ∷ []
  end = drop-cons x (length x - 1) 0 last ∙ ap (λ (z : List ℕ). get_or x (length x - 1) 0 ∷ z) (drop_all (suc (length x - 1)) x (omega arith))

  read : get_or x (length x - 1) 0 ≡ get_or s (length x - 1) 0
  read = sym (get_or-append x t 0 (length x - 1) last) ∙ ap (λ (z : List ℕ). get_or z (length x - 1) 0) (sym e)

  -- The part ends with 0A and is the line without it, or it is the line.
  cases : ((pointwise eqb (drop (length x - 1) x) (10 ∷ []) ≡ true) × (take (length x - 1) x ≡ first_line s)) ⊎ ((pointwise eqb (drop (length x - 1) x) (10 ∷ []) ≡ false) × (x ≡ first_line s))
  cases = elim (cases_Bool (ltb i (length s))) [
    | inl l ↦ let m : i < length s = ltb-true i (length s) l in
        let k : length x - 1 ≡ i = omega (arith, n) in
        let f : length (first_line s) ≡ i = omega (arith, len) in
        let hit : eqb (get_or x (length x - 1) 0) 10 ≡ true = ap (λ (z : ℕ). eqb z 10) read ∙ ap (λ (j : ℕ). eqb (get_or s j 0) 10) k ∙ first.1 m 0 in
        inl (rw (end, hit), ap (λ (j : ℕ). take j x) k ∙ sym (take-append-le i x t (omega (arith, n))) ∙ ap (take i) (sym e) ∙ ap (λ (j : ℕ). take j s) (sym f) ∙ front s)
    | inr l ↦ let m : length s ≤ i = ltb-false i (length s) l in
        let k : length (first_line s) ≡ length s = omega (arith, len) in
        let whole : x ≡ s = sym (take_all (length x) x (omega arith)) ∙ sym (take-append-le (length x) x t (omega arith)) ∙ ap (take (length x)) (sym e) ∙ take_all (length x) s (omega (arith, n)) in
        let miss : eqb (get_or x (length x - 1) 0) 10 ≡ false = ap (λ (z : ℕ). eqb z 10) read ∙ first.0 (length x - 1) 0 (omega arith) (omega (arith, n)) in
        inr (rw (end, miss), whole ∙ whole_line s k)
  ]

  -- The part without the 0A at its end, if it has one, is the line.
  pub line : (r : Option (Bor (List ℕ))) (d : Bor (List ℕ)) → d.now ≡ x
      → MatchOption r (pointwise eqb (drop (length x - 1) x) (10 ∷ []) ≡ false) (λ y. (pointwise eqb (drop (length x - 1) x) (10 ∷ []) ≡ true) × (y.now ≡ take (length x - 1) x) × (length y.now + 1 ≡ length x))
      → (unwrap_or r d).now ≡ first_line s
  line None d same strip = elim cases [ inl c ↦ absurd (false≢true (sym strip ∙ c.0)) | inr c ↦ same ∙ c.1 ]
  line (Some y) d same strip = elim cases [ inl c ↦ strip.1 ∙ c.1 | inr c ↦ absurd (false≢true (sym c.0 ∙ strip.0)) ]
