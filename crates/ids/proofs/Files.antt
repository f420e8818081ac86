-- Reading line by line accepts the files of ids, and no other text.
use Rattle.std.proofs.Common.{◌≡◌, ℕ, ◌+◌, ◌≤◌, Bool, true, false, cond, eqb, ltb, leb, ◌⊎◌, List, [], ◌∷◌, ◌++◌, length, Ok, Err, Result, sym, refl, ap, ◌∙◌, subst, inl, inr, append_assoc, arith}
use Rattle.std.proofs.lemmas.List.{append-nil, length_push, length-append}
use Rattle.std.proofs.lemmas.Bool.{cases_Bool, eqb-true, eqb-false, ne_eqb, ltb-true, leb-true, lt-ltb, le-leb, and_parts, and_from}
use Rattle.ids.specs.declared.faults.Fault.{Fault}
use Rattle.ids.specs.declared.faults.Fault.TheVariants.{Length, Full}
use Rattle.ids.specs.declared.faults.ReadFault.{ReadFault}
use Rattle.ids.specs.Size.{Sized}
use Rattle.ids.specs.Add.{fitting}
use Rattle.ids.specs.Lines.{onto, lines_of, at_line, after, read_lines, ids_in}
use Rattle.ids.specs.File.{OneLine, Writable, written, IsFile, Only, NoFile}

-- Each line has 1 to 64 bytes; each line has no line's end.
abbrev pub Fit : List (List ℕ) → Type 0
Fit [] = Unit {0}
Fit (l ∷ ls) = Sized l × Fit ls

abbrev pub Ended : List (List ℕ) → Type 0
Ended [] = Unit {0}
Ended (l ∷ ls) = OneLine l × Ended ls

-- What a line that was added says.
abbrev pub verdict : Bool → Bool → Result (Unit {0}) Fault
verdict f g = cond f (cond g (Ok tt) (Err Full)) (Err Length)

step : (f g : Bool) (n : ℕ) (next : Result (List (List ℕ)) ReadFault) (ids : List (List ℕ)) → after (at_line n (verdict f g)) next ≡ Ok ids → (f ≡ true) × (g ≡ true) × (next ≡ Ok ids)
step true true n next ids e = (refl, refl, e)
step true false n next ids e = cc
step false g n next ids e = cc

taken : (ids ls all : List (List ℕ)) → read_lines ids ls ≡ Ok all → (all ≡ ids ++ ls) × Fit ls × (length ids ≤ 64 → length (ids ++ ls) ≤ 64)
taken ids [] all e = (sym (cc) ∙ sym (append-nil ids), tt, λ h. rw append-nil h)
taken ids (l ∷ ls) all e =
    let s = step (fitting l) (ltb (length ids) 64) (length ids + 1) (read_lines (ids ++ l ∷ []) ls) all e in
    let r = taken (ids ++ l ∷ []) ls all s.2 in
    let f = and_parts (leb 1 (length l)) (leb (length l) 64) s.0 in
    let short : length (ids ++ l ∷ []) ≤ 64 = omega (arith, ltb-true (length ids) 64 s.1, length_push ids l) in
    (r.0 ∙ append_assoc ids (l ∷ []) ls, ((leb-true 1 (length l) f.0, leb-true (length l) 64 f.1), r.1), λ _. rw append_assoc at (r.2 short))

-- The lines of a text hold no line's end, and written down they are the text again.
onto_ended : (b : ℕ) (ls : List (List ℕ)) → (b ≡ 10 → ⊥) → Ended ls → Ended (onto b ls)
onto_ended b [] h e = ((h, tt), tt)
onto_ended b (l ∷ ls) h e = ((h, e.0), e.1)

pub ended : (t : List ℕ) → Ended (lines_of t)
ended [] = tt
ended (b ∷ t) = elim (cases_Bool (eqb b 10)) [ inl e ↦ rw e (tt, ended t) | inr e ↦ rw e (onto_ended b (lines_of t) (eqb-false b 10 e) (ended t)) ]

pub writable : (ls : List (List ℕ)) → Fit ls → Ended ls → Writable ls
writable [] s e = tt
writable (l ∷ ls) s e = (s.0, e.0, writable ls s.1 e.1)

onto_written : (b c : ℕ) (ls : List (List ℕ)) → written (onto b (onto c ls)) ≡ b ∷ written (onto c ls)
onto_written b c [] = refl
onto_written b c (l ∷ ls) = refl

onto_more : (b c : ℕ) (t : List ℕ) → written (onto b (lines_of (c ∷ t))) ≡ b ∷ written (lines_of (c ∷ t))
onto_more b c t = elim (cases_Bool (eqb c 10)) [ inl e ↦ rw e | inr e ↦ rw e (onto_written b c (lines_of t)) ]

-- A byte before a text, and before what is written down.
headed : (b c : ℕ) (t u : List ℕ) → b ≡ c → (t ≡ u) ⊎ (t ++ 10 ∷ [] ≡ u) → (◌≡◌ {A = List ℕ} (b ∷ t) (c ∷ u)) ⊎ (◌≡◌ {A = List ℕ} (b ∷ (t ++ 10 ∷ [])) (c ∷ u))
headed b c t u e (inl p) = inl (cc)
headed b c t u e (inr p) = inr (cc)

rejoined : (t : List ℕ) → (t ≡ written (lines_of t)) ⊎ (t ++ 10 ∷ [] ≡ written (lines_of t))
rejoined [] = inl refl
rejoined (b ∷ []) = elim (cases_Bool (eqb b 10)) [ inl e ↦ rw e (inl (ap (λ (z : ℕ). z ∷ []) (eqb-true b 10 e))) | inr e ↦ rw e (inr refl) ]
rejoined (b ∷ c ∷ t) = elim (cases_Bool (eqb b 10)) [ inl e ↦ rw e (headed b 10 (c ∷ t) _ (eqb-true b 10 e) (rejoined (c ∷ t))) | inr e ↦ rw (e, onto_more b c t) (headed b b (c ∷ t) _ refl (rejoined (c ∷ t))) ]

pub accepted : (t : List ℕ) (ids : List (List ℕ)) → ids_in t ≡ Ok ids → IsFile t ids
accepted t ids e =
    let r = taken [] (lines_of t) ids e in
    rw r.0 (r.2 (omega arith), writable (lines_of t) r.1 (ended t), rejoined t)

-- The lines of ids that are written down are the ids, also where the last line's end is missing.
line_first : (id rest : List ℕ) → OneLine id → lines_of (id ++ 10 ∷ rest) ≡ id ∷ lines_of rest
line_first [] rest h = refl
line_first (b ∷ id) rest h = rw (ne_eqb b 10 h.0) (ap (onto b) (line_first id rest h.1))

lines_written : (ids : List (List ℕ)) → Writable ids → lines_of (written ids) ≡ ids
lines_written [] h = refl
lines_written (id ∷ ids) h = line_first id (written ids) h.1 ∙ ap (λ (z : List (List ℕ)). id ∷ z) (lines_written ids h.2)

onto_closed : (b : ℕ) (ls : List (List ℕ)) → (onto b (ls ++ [] ∷ []) ≡ onto b ls) ⊎ (onto b (ls ++ [] ∷ []) ≡ onto b ls ++ [] ∷ [])
onto_closed b [] = inl refl
onto_closed b (l ∷ ls) = inr refl

closed_on : (b : ℕ) (xs ls : List (List ℕ)) → (xs ≡ ls) ⊎ (xs ≡ ls ++ [] ∷ []) → (onto b xs ≡ onto b ls) ⊎ (onto b xs ≡ onto b ls ++ [] ∷ [])
closed_on b xs ls (inl p) = inl (ap (onto b) p)
closed_on b xs ls (inr p) = rw p (onto_closed b ls)

closed_behind : (xs ls : List (List ℕ)) → (xs ≡ ls) ⊎ (xs ≡ ls ++ [] ∷ []) → (◌≡◌ {A = List (List ℕ)} ([] ∷ xs) ([] ∷ ls)) ⊎ (◌≡◌ {A = List (List ℕ)} ([] ∷ xs) ([] ∷ (ls ++ [] ∷ [])))
closed_behind xs ls (inl p) = inl (ap (λ (z : List (List ℕ)). [] ∷ z) p)
closed_behind xs ls (inr p) = inr (ap (λ (z : List (List ℕ)). [] ∷ z) p)

-- One more line's end ends the last line, or is an empty line.
closed : (t : List ℕ) → (lines_of (t ++ 10 ∷ []) ≡ lines_of t) ⊎ (lines_of (t ++ 10 ∷ []) ≡ lines_of t ++ [] ∷ [])
closed [] = inr refl
closed (b ∷ t) = elim (cases_Bool (eqb b 10)) [ inl e ↦ rw e (closed_behind (lines_of (t ++ 10 ∷ [])) (lines_of t) (closed t)) | inr e ↦ rw e (closed_on b (lines_of (t ++ 10 ∷ [])) (lines_of t) (closed t)) ]

no_empty : (ids : List (List ℕ)) → Writable (ids ++ [] ∷ []) → ⊥
no_empty [] h = let k = h.0.0 in omega arith
no_empty (id ∷ ids) h = no_empty ids h.2

ids_are_lines : (t : List ℕ) (ids : List (List ℕ)) → Writable ids → (t ≡ written ids) ⊎ (t ++ 10 ∷ [] ≡ written ids) → lines_of t ≡ ids
ids_are_lines t ids h (inl p) = ap lines_of p ∙ lines_written ids h
ids_are_lines t ids h (inr p) =
    let q : lines_of (t ++ 10 ∷ []) ≡ ids = ap lines_of p ∙ lines_written ids h in
    elim (closed t) [ inl e ↦ sym e ∙ q | inr e ↦ let P : List (List ℕ) → Type 0 = Writable in absurd (no_empty (lines_of t) (subst P (sym (sym e ∙ q)) h)) ]

reads : (ids ls : List (List ℕ)) → Writable ls → length (ids ++ ls) ≤ 64 → read_lines ids ls ≡ Ok (ids ++ ls)
reads ids [] h k = ap Ok (sym (append-nil ids))
reads ids (l ∷ ls) h k =
    let f : fitting l ≡ true = and_from (leb 1 (length l)) (leb (length l) 64) (le-leb 1 (length l) h.0.0) (le-leb (length l) 64 h.0.1) in
    let n : length (ids ++ l ∷ ls) ≡ length ids + length (l ∷ ls) = length-append ids (l ∷ ls) in
    let g : ltb (length ids) 64 ≡ true = lt-ltb (length ids) 64 (omega arith) in
    let a : (ids ++ l ∷ []) ++ ls ≡ ids ++ l ∷ ls = append_assoc ids (l ∷ []) ls in
    let more : read_lines (ids ++ l ∷ []) ls ≡ Ok ((ids ++ l ∷ []) ++ ls) = reads (ids ++ l ∷ []) ls h.2 (rw a k) in
    rw (f, g) (more ∙ ap Ok a)

read_whole : (t : List ℕ) (ids : List (List ℕ)) → IsFile t ids → ids_in t ≡ Ok ids
read_whole t ids h = ap (read_lines []) (ids_are_lines t ids h.1 h.2) ∙ reads [] ids h.1 h.0

pub only : (t : List ℕ) (ids : List (List ℕ)) → ids_in t ≡ Ok ids → Only t ids
only t ids e others h = let k = read_whole t others h in cc

pub none : (t : List ℕ) (f : ReadFault) → ids_in t ≡ Err f → NoFile t
none t f e ids h = let k = read_whole t ids h in cc
