-- The first line of a text, and what follows it.
use Rattle.std.proofs.Common.{◌≡◌, ℕ, suc, ◌+◌, ◌<◌, eqb, List, [], ◌∷◌, length, take, drop, sym, refl, ap, ◌∙◌, inl, inr, add-one, arith}
use Rattle.std.proofs.lemmas.List.{take_all, drop_all}
use Rattle.std.proofs.lemmas.Bool.{cases_Bool}
use Rattle.ids.specs.Lines.{first_line, after_line, onto, lines_of}

pub front : (t : List ℕ) → take (length (first_line t)) t ≡ first_line t
front [] = refl
front (b ∷ t) = elim (cases_Bool (eqb b 10)) [ inl e ↦ rw e | inr e ↦ rw e (ap (λ (z : List ℕ). b ∷ z) (front t)) ]

pub back : (t : List ℕ) → drop (length (first_line t) + 1) t ≡ after_line t
back [] = refl
back (b ∷ t) = elim (cases_Bool (eqb b 10)) [ inl e ↦ rw e | inr e ↦ rw (e, add-one (suc (length (first_line t)))) (rw add-one at (back t)) ]

-- A text that is one line without an end.
pub whole_line : (t : List ℕ) → length (first_line t) ≡ length t → t ≡ first_line t
whole_line t e = sym (take_all (length (first_line t)) t (omega arith)) ∙ front t

pub nothing_after : (t : List ℕ) → length (first_line t) ≡ length t → after_line t ≡ []
nothing_after t e = sym (back t) ∙ drop_all (length (first_line t) + 1) t (omega arith)

-- The lines of a text that has a byte.
pub lines_split : (t : List ℕ) → 0 < length t → lines_of t ≡ first_line t ∷ lines_of (after_line t)
lines_split [] h = absurd (omega arith)
lines_split (b ∷ []) h = elim (cases_Bool (eqb b 10)) [ inl e ↦ rw e | inr e ↦ rw e ]
lines_split (b ∷ c ∷ t) h =
    let more : lines_of (c ∷ t) ≡ first_line (c ∷ t) ∷ lines_of (after_line (c ∷ t)) = lines_split (c ∷ t) (omega arith) in
    elim (cases_Bool (eqb b 10)) [ inl e ↦ rw e | inr e ↦ rw e (ap (onto b) more) ]
