-- Where reading line by line stops, the text has its first line that is wrong.
use Rattle.std.proofs.Common.{◌≡◌, ℕ, ◌+◌, ◌<◌, ◌≤◌, Bool, true, false, eqb, ltb, leb, ◌⊎◌, List, [], ◌∷◌, ◌++◌, length, Err, sym, refl, ap, ◌∙◌, subst, inl, inr, append_assoc, arith}
use Rattle.std.proofs.lemmas.List.{append-nil, length_push}
use Rattle.std.proofs.lemmas.Bool.{both_ways, cases_Bool, eqb-true, ltb-true, ltb-false, leb-true, le-leb, and_parts, and_from}
use Rattle.ids.specs.declared.faults.Fault.TheVariants.{Length, Full}
use Rattle.ids.specs.declared.faults.ReadFault.{ReadFault}
use Rattle.ids.specs.Size.{Sized}
use Rattle.ids.specs.Add.{fitting}
use Rattle.ids.specs.Lines.{first_line, after_line, lines_of, at_line, after, read_lines, ids_in}
use Rattle.ids.specs.File.{OneLine, written, Meets, Wrong, WrongAt}
use Rattle.ids.proofs.Splits.{lines_split, nothing_after}
use Rattle.ids.proofs.Files.{Fit, Ended, ended, writable, verdict}

-- Of the lines ls, those in `front` are added to the ids, and the next one is wrong.
record Stop (ids ls : List (List ℕ)) (f : ReadFault) : Type 0 where
  front : List (List ℕ)
  line : List ℕ
  behind : List (List ℕ)
  are : ls ≡ front ++ line ∷ behind
  fit : Fit front
  few : length (ids ++ front) ≤ 64
  at : f.line ≡ length (ids ++ front) + 1
  why : Wrong f.fault (ids ++ front) line

sized : (l : List ℕ) → fitting l ≡ true → Sized l
sized l h = let p = and_parts (leb 1 (length l)) (leb (length l) 64) h in (leb-true 1 (length l) p.0, leb-true (length l) 64 p.1)

unsized : (l : List ℕ) → fitting l ≡ false → Sized l → ⊥
unsized l h s = both_ways (fitting l) h (and_from (leb 1 (length l)) (leb (length l) 64) (le-leb 1 (length l) s.0) (le-leb (length l) 64 s.1))

moved : (ids : List (List ℕ)) (l : List ℕ) (ls : List (List ℕ)) (f : ReadFault) → Sized l → Stop (ids ++ l ∷ []) ls f → Stop ids (l ∷ ls) f
moved ids l ls f s p =
    let a : (ids ++ l ∷ []) ++ p.front ≡ ids ++ l ∷ p.front = append_assoc ids (l ∷ []) p.front in
    record {
      front = l ∷ p.front;
      line = p.line;
      behind = p.behind;
      are = ap (λ (z : List (List ℕ)). l ∷ z) p.are;
      fit = (s, p.fit);
      few = rw a at p.few;
      at = rw a at p.at;
      why = rw a at p.why;
    }

stop_at : (v w : Bool) (ids : List (List ℕ)) (l : List ℕ) (ls : List (List ℕ)) (f : ReadFault) → length ids ≤ 64 → fitting l ≡ v → ltb (length ids) 64 ≡ w →
    (length (ids ++ l ∷ []) ≤ 64 → read_lines (ids ++ l ∷ []) ls ≡ Err f → Stop (ids ++ l ∷ []) ls f) →
    after (at_line (length ids + 1) (verdict v w)) (read_lines (ids ++ l ∷ []) ls) ≡ Err f → Stop ids (l ∷ ls) f
stop_at true true ids l ls f h v w more e =
    let short : length (ids ++ l ∷ []) ≤ 64 = omega (arith, ltb-true (length ids) 64 w, length_push ids l) in
    moved ids l ls f (sized l v) (more short e)
stop_at true false ids l ls f h v w more e =
    let q : ◌≡◌ {A = ReadFault} (record { line = length ids + 1; fault = Full }) f = cc in
    let P : ReadFault → Type 0 = Stop ids (l ∷ ls) in
    let n : length (ids ++ []) ≡ length ids = ap length (append-nil ids) in
    subst P q (record {
      front = [];
      line = l;
      behind = ls;
      are = refl;
      fit = tt;
      few = omega arith;
      at = omega arith;
      why = (sized l v, omega (arith, ltb-false (length ids) 64 w));
    })
stop_at false w ids l ls f h v k more e =
    let q : ◌≡◌ {A = ReadFault} (record { line = length ids + 1; fault = Length }) f = cc in
    let P : ReadFault → Type 0 = Stop ids (l ∷ ls) in
    let n : length (ids ++ []) ≡ length ids = ap length (append-nil ids) in
    subst P q (record { front = []; line = l; behind = ls; are = refl; fit = tt; few = omega arith; at = omega arith; why = unsized l v })

stops : (ids ls : List (List ℕ)) (f : ReadFault) → length ids ≤ 64 → read_lines ids ls ≡ Err f → Stop ids ls f
stops ids [] f h e = cc
stops ids (l ∷ ls) f h e = stop_at (fitting l) (ltb (length ids) 64) ids l ls f h refl refl (λ k r. stops (ids ++ l ∷ []) ls f k r) e

-- The first line in the text itself.
ends_or_not : (t : List ℕ) → (t ≡ first_line t ++ 10 ∷ after_line t) ⊎ (t ≡ first_line t)
ends_or_not [] = inr refl
ends_or_not (b ∷ t) = elim (cases_Bool (eqb b 10)) [
  | inl e ↦ rw e (inl (ap (λ (z : ℕ). z ∷ t) (eqb-true b 10 e)))
  | inr e ↦ rw e (elim (ends_or_not t) [ inl p ↦ inl (ap (λ (z : List ℕ). b ∷ z) p) | inr p ↦ inr (ap (λ (z : List ℕ). b ∷ z) p) ])
]

heads : (x y : List ℕ) (xs ys : List (List ℕ)) → x ∷ xs ≡ y ∷ ys → (x ≡ y) × (xs ≡ ys)
heads x y xs ys e = (cc, cc)

not_none : (front behind : List (List ℕ)) (line : List ℕ) → [] ≡ front ++ line ∷ behind → ⊥
not_none [] behind line e = cc
not_none (x ∷ front) behind line e = cc

meets_first : (t line : List ℕ) → 0 < length t → first_line t ≡ line → Meets t [] line
meets_first t line h e = elim (ends_or_not t) [
  | inl p ↦ inl (after_line t, p ∙ ap (λ (z : List ℕ). z ++ 10 ∷ after_line t) e)
  | inr p ↦ inr (p ∙ e, λ n. let k : length t ≡ 0 = ap length (p ∙ e ∙ n) in omega arith)
]

meets_next : (t u l : List ℕ) (front : List (List ℕ)) (line : List ℕ) → t ≡ l ++ 10 ∷ u → Meets u front line → Meets t (l ∷ front) line
meets_next t u l front line p (inl m) = inl (m.0, p ∙ ap (λ (z : List ℕ). l ++ 10 ∷ z) m.1 ∙ sym (append_assoc l (10 ∷ written front) (line ++ 10 ∷ m.0)))
meets_next t u l front line p (inr m) = inr (p ∙ ap (λ (z : List ℕ). l ++ 10 ∷ z) m.0 ∙ sym (append_assoc l (10 ∷ written front) line), m.1)

meets : (front : List (List ℕ)) (t line : List ℕ) (behind : List (List ℕ)) → lines_of t ≡ front ++ line ∷ behind → Meets t front line
meets front [] line behind e = absurd (not_none front behind line e)
meets [] (b ∷ t) line behind e =
    let h : 0 < length (b ∷ t) = omega arith in
    meets_first (b ∷ t) line h (heads _ _ _ _ (sym (lines_split (b ∷ t) h) ∙ e)).0
meets (l ∷ front) (b ∷ t) line behind e =
    let h : 0 < length (b ∷ t) = omega arith in
    let k = heads (first_line (b ∷ t)) l (lines_of (after_line (b ∷ t))) (front ++ line ∷ behind) (sym (lines_split (b ∷ t) h) ∙ e) in
    elim (ends_or_not (b ∷ t)) [
      | inl p ↦ meets_next (b ∷ t) (after_line (b ∷ t)) l front line (p ∙ ap (λ (z : List ℕ). z ++ 10 ∷ after_line (b ∷ t)) k.0) (meets front (after_line (b ∷ t)) line behind k.1)
      | inr p ↦ absurd (not_none front behind line (sym (ap lines_of (nothing_after (b ∷ t) (ap length (sym p)))) ∙ k.1))
    ]

ended_parts : (front behind : List (List ℕ)) (line : List ℕ) → Ended (front ++ line ∷ behind) → Ended front × OneLine line
ended_parts [] behind line h = (tt, h.0)
ended_parts (x ∷ front) behind line h = let r = ended_parts front behind line h.1 in ((h.0, r.0), r.1)

pub wrong_at : (t : List ℕ) (f : ReadFault) → ids_in t ≡ Err f → WrongAt t f
wrong_at t f e =
    let none : length {A = List ℕ} [] ≤ 64 = omega arith in
    let s = stops [] (lines_of t) f none e in
    let P : List (List ℕ) → Type 0 = Ended in
    let d = ended_parts s.front s.behind s.line (subst P s.are (ended t)) in
    (s.front, s.line, s.at, s.few, writable s.front s.fit d.0, d.1, meets s.front t s.line s.behind s.are, s.why)
