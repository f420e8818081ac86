-- The lines of a text, one after another, and how many there are.
use Rattle.std.proofs.Common.{◌≡◌, ℕ, zero, suc, ◌+◌, ◌<◌, min, Bool, eqb, List, [], ◌∷◌, ◌++◌, map, length, take, drop, Some, None, Option, MatchOption, sym, refl, ap, ◌∙◌, subst, inl, inr, arith}
use Rattle.std.proofs.lemmas.List.{append_assoc, length-append, length-take-le, take_at, take_min, drop_at, drop_min, nil_from_length}
use Rattle.std.proofs.lemmas.Bool.{eq-eqb, ne_eqb, cond-true, cond-false, cases_eq}
use Rattle.std.specs.Fn.{ComputesKey}
use Rattle.std.specs.Iterator.{Drains}
use Rattle.std.specs.List.{flat_map, IsFirstMatchOrLen, AllByRecursion as All}
use Rattle.std.specs.Slice.Iter.{split_inclusive_rest, split_inclusive_callee}
use Rattle.std.specs.declared.slice.SplitInclusive.{SplitInclusive}
use denote.Param.Members.{Mut}
use denote.Ref.{Bor}
pub use Rattle.dtype.specs.Form.{OneLine}
use Rattle.dtype.specs.Form.{◌>>=◌, place, onto, lines_of, fields_of, form_of, forms_of}
use Rattle.kinds.proofs.Words.{never_some}
use Rattle.dtype.proofs.Places.{Free, place_append, none_free, place_some, place_cases}

-- a byte 0A is a line by itself, and any other byte begins the line that follows it
pub lines_end : (x : ℕ) (xs : List ℕ) → x ≡ 10 → lines_of (x ∷ xs) ≡ (x ∷ []) ∷ lines_of xs
lines_end x xs e = cond-true (eqb x 10) _ _ (eq-eqb x 10 e)

pub lines_byte : (x : ℕ) (xs : List ℕ) → (x ≡ 10 → ⊥) → lines_of (x ∷ xs) ≡ onto x (lines_of xs)
lines_byte x xs ne = cond-false (eqb x 10) _ _ (ne_eqb x 10 ne)

-- a line before the others
pub lines_append : (l rest : List ℕ) → Free 10 l → lines_of ((l ++ (10 ∷ [])) ++ rest) ≡ (l ++ (10 ∷ [])) ∷ lines_of rest
lines_append [] rest f = refl
lines_append (x ∷ l) rest f = lines_byte x ((l ++ (10 ∷ [])) ++ rest) f.0 ∙ ap (onto x) (lines_append l rest f.1)

-- the lines one after another are the text
pub joined_lines : (s : List ℕ) → flat_map (λ l. l) (lines_of s) ≡ s
joined_lines [] = refl
joined_lines (x ∷ s) =
    elim (cases_eq x 10) [
      | inl e ↦ ap (flat_map (λ l. l)) (lines_end x s e) ∙ ap (λ z. x ∷ z) (joined_lines s)
      | inr ne ↦ ap (flat_map (λ l. l)) (lines_byte x s ne) ∙ onto_joined (lines_of s) ∙ ap (λ z. x ∷ z) (joined_lines s)
    ]
  where
    onto_joined : (ls : List (List ℕ)) → flat_map (λ l. l) (onto x ls) ≡ x ∷ flat_map (λ l. l) ls
    onto_joined [] = refl
    onto_joined (l ∷ ls) = refl

-- in each line 0A stands at the end only
pub each_one_line : (s : List ℕ) → All OneLine (lines_of s)
each_one_line [] = tt
each_one_line (x ∷ s) =
    elim (cases_eq x 10) [
      | inl e ↦ subst (All OneLine) (sym (lines_end x s e)) (alone, each_one_line s)
      | inr ne ↦ subst (All OneLine) (sym (lines_byte x s ne)) (onto_one_line ne (lines_of s) (each_one_line s))
    ]
  where
    alone : OneLine (x ∷ [])
    alone n p = elim (place_cases 10 x [] n p) [ inl h ↦ ap (λ (k : ℕ). suc k) (sym h.1) | inr h ↦ absurd (never_some h.1.1) ]

    longer : (l : List ℕ) → (x ≡ 10 → ⊥) → OneLine l → OneLine (x ∷ l)
    longer l ne one n p =
        elim (place_cases 10 x l n p) [
          | inl h ↦ absurd (ne h.0)
          | inr h ↦ ap (λ (k : ℕ). suc k) (one h.1.0 h.1.1 ∙ sym h.1.2)
        ]

    onto_one_line : (x ≡ 10 → ⊥) → (ls : List (List ℕ)) → All OneLine ls → All OneLine (onto x ls)
    onto_one_line ne [] h = (alone, tt)
    onto_one_line ne (l ∷ ls) h = (longer l ne h.0, h.1)

-- what a line says is read from what stands before its 0A
pub form_ended : (l : List ℕ) (n : ℕ) → place 10 l ≡ Some n → form_of l ≡ fields_of (take n l)
form_ended l n e = ap (λ (o : Option ℕ). ◌>>=◌ o (λ k. fields_of (take k l))) e

-- 0A does not stand before the last byte of a line
front_free : (front : List ℕ) (x : ℕ) → OneLine (front ++ (x ∷ [])) → Free 10 front
front_free front x one = on (place 10 front) refl
  where
    on : (o : Option ℕ) → place 10 front ≡ o → Free 10 front
    on None e = none_free 10 front e
    on (Some m) e =
        let h = place_some 10 front m e in
        let there : front ++ (x ∷ []) ≡ take m front ++ (10 ∷ (drop (m + 1) front ++ (x ∷ []))) = ap (λ l. l ++ (x ∷ [])) h.1 ∙ append_assoc (take m front) (10 ∷ drop (m + 1) front) (x ∷ []) in
        let long = one (length (take m front)) (ap (place 10) there ∙ place_append 10 (take m front) _ h.2) in
        absurd (omega (arith, h.0, long, length-take-le m front (omega (arith, h.0)), length-append front (x ∷ [])))

-- a line that ends with 0A says what stands before it
pub form_closed : (l front : List ℕ) → OneLine l → l ≡ front ++ (10 ∷ []) → form_of l ≡ fields_of front
form_closed l front one e =
    let free = front_free front 10 (subst OneLine e one) in
    ap form_of e ∙ form_ended (front ++ (10 ∷ [])) (length front) (place_append 10 front [] free) ∙ ap fields_of (take_at front (10 ∷ []) (length front) refl)

-- the first line ends at the first 0A, or at the end where there is none
line_over : (s : List ℕ) (i : ℕ) → IsFirstMatchOrLen (λ b. eqb b 10) s i → 0 < length s → lines_of s ≡ take (suc i) s ∷ lines_of (drop (suc i) s)
line_over [] i f lt = absurd (omega arith)
line_over (x ∷ s) zero f lt = cond-true (eqb x 10) ((x ∷ []) ∷ lines_of s) (onto x (lines_of s)) (f.1 (omega arith) 0)
line_over (x ∷ s) (suc i) f lt =
    cond-false (eqb x 10) ((x ∷ []) ∷ lines_of s) (onto x (lines_of s)) (f.0 0 0 (omega arith) (omega arith))
    ∙ others s (λ g some. line_over s i g some) (λ k d a b. f.0 (suc k) d (omega arith) (omega arith), λ h d. f.1 (omega arith) d)
  where
    others : (s : List ℕ) → (IsFirstMatchOrLen (λ b. eqb b 10) s i → 0 < length s → lines_of s ≡ take (suc i) s ∷ lines_of (drop (suc i) s)) → IsFirstMatchOrLen (λ b. eqb b 10) s i →
        onto x (lines_of s) ≡ (x ∷ take (suc i) s) ∷ lines_of (drop (suc i) s)
    others [] ih g = refl
    others (y ∷ s) ih g = ap (onto x) (ih g (omega arith))

-- the pieces of a text, each with the 0A that ends it, are its lines
module _ {F : Type 0} (g : Mut F (Bor ℕ × Unit {0}) Bool) where
  abbrev pub pieces : SplitInclusive ℕ F → Option (Bor (List ℕ)) → SplitInclusive ℕ F → Type 0
  pieces s r t = MatchOption r ((length (split_inclusive_rest s) ≡ 0) × (t ≡ s))
      (λ x. (split_inclusive_rest s ≡ x.now ++ split_inclusive_rest t)
      × ((i : ℕ) × (length x.now ≡ min (i + 1) (length (split_inclusive_rest s)))
      × ((p : ℕ → Bool) → ComputesKey g p (split_inclusive_callee s) → ComputesKey g p (split_inclusive_callee t) × IsFirstMatchOrLen p (split_inclusive_rest s) i))
      × (0 < length (split_inclusive_rest s)))

  pub first_piece : (s t : SplitInclusive ℕ F) (x : Bor (List ℕ)) → ComputesKey g (λ b. eqb b 10) (split_inclusive_callee s) → pieces s (Some x) t → lines_of (split_inclusive_rest s) ≡ x.now ∷ lines_of (split_inclusive_rest t)
  first_piece s t x k h =
      let (i, m, f) = h.1 in
      let one : i + 1 ≡ suc i = omega arith in
      let front : x.now ≡ take (suc i) (split_inclusive_rest s)
      = sym (take_at x.now (split_inclusive_rest t) (length x.now) refl) ∙ ap (take (length x.now)) (sym h.0) ∙ ap (λ l. take l (split_inclusive_rest s)) m ∙ take_min (i + 1) (split_inclusive_rest s) ∙ ap (λ l. take l (split_inclusive_rest s)) one in
      let back : split_inclusive_rest t ≡ drop (suc i) (split_inclusive_rest s)
      = sym (drop_at x.now (split_inclusive_rest t) (length x.now) refl) ∙ ap (drop (length x.now)) (sym h.0) ∙ ap (λ l. drop l (split_inclusive_rest s)) m ∙ drop_min (i + 1) (split_inclusive_rest s) ∙ ap (λ l. drop l (split_inclusive_rest s)) one in
      line_over (split_inclusive_rest s) i (f (λ b. eqb b 10) k).1 h.2 ∙ ap (λ l. l ∷ lines_of (drop (suc i) (split_inclusive_rest s))) (sym front) ∙ ap (λ r. x.now ∷ lines_of r) (sym back)

  pub pieces_count : (s : SplitInclusive ℕ F) (xs : List (Bor (List ℕ))) → ((f : F) → ComputesKey g (λ b. eqb b 10) f) → Drains pieces s xs → length xs ≡ length (lines_of (split_inclusive_rest s))
  pieces_count s [] k (u, (t, e, n)) = ap (λ r. length (lines_of r)) (sym (nil_from_length (split_inclusive_rest t) n.0)) ∙ ap (λ z. length (lines_of (split_inclusive_rest z))) (sym e)
  pieces_count s (x ∷ xs) k (u, (t, (j, h, ys), n)) = ap suc (pieces_count j xs k (u, (t, ys, n))) ∙ ap length (sym (first_piece s j x (k (split_inclusive_callee s)) h))

  pub first_one_line : (s t : SplitInclusive ℕ F) (x : Bor (List ℕ)) → ComputesKey g (λ b. eqb b 10) (split_inclusive_callee s) → pieces s (Some x) t → OneLine x.now
  first_one_line s t x k h = (subst (All OneLine) (first_piece s t x k h) (each_one_line (split_inclusive_rest s))).0

  -- what the lines of a text say, by its first piece
  pub first_form : (s t : SplitInclusive ℕ F) (x : Bor (List ℕ)) → ComputesKey g (λ b. eqb b 10) (split_inclusive_callee s) → pieces s (Some x) t → forms_of (split_inclusive_rest s) ≡ form_of x.now ∷ forms_of (split_inclusive_rest t)
  first_form s t x k h = ap (map form_of) (first_piece s t x k h)
