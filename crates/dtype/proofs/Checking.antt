-- The lines are read one by one, up to the first that is bad.
use Rattle.std.proofs.Common.{◌≡◌, ℕ, suc, ◌+◌, Bool, true, false, cond, not, ◌&&◌, ◌||◌, ltb, List, [], ◌∷◌, ◌++◌, map, reverse, length, Some, None, Ok, Err, Option, Result, sym, refl, ap, ◌∙◌, arith}
use Rattle.std.proofs.lemmas.List.{append_assoc, reverse-append, map_push, map-append}
use Rattle.std.specs.List.{find}
use Rattle.std.specs.Option.{option_map}
use denote.Ref.{Bor}
use Rattle.dtype.specs.declared.faults.Fault.{Fault}
use Rattle.dtype.specs.declared.faults.Fault.TheVariants as fault
use Rattle.dtype.specs.declared.lines.Line.{Line}
use Rattle.dtype.specs.Row.{Row, row_of, rows_of}
use Rattle.dtype.specs.Order.{above, fits, filled, is_list, first_bad, first_fault}
use Rattle.dtype.specs.Step.{checked, last_filled, line_fault}

-- From the answer of a check to the fault.
pub checked_ok : (x : Option Fault) → ◌≡◌ {A = Result (Unit {0}) Fault} (Ok tt) (checked x) → x ≡ None
checked_ok None e = refl
checked_ok (Some f) e = cc

pub checked_err : (x : Option Fault) (f : Fault) → ◌≡◌ {A = Result (Unit {0}) Fault} (Err f) (checked x) → x ≡ Some f
checked_err None f e = cc
checked_err (Some g) f e = cc

-- The search in the lines is that in their rows.
above_find : (d : ℕ) (xs : List Line) → option_map row_of (find (λ (l : Line). ltb l.depth d) xs) ≡ above d (rows_of xs)
above_find d [] = refl
above_find d (x ∷ xs) = on (ltb x.depth d) (above_find d xs)
  where
    on : (b : Bool) → option_map row_of (find (λ (l : Line). ltb l.depth d) xs) ≡ above d (rows_of xs) → option_map row_of (cond b (Some x) (find (λ (l : Line). ltb l.depth d) xs)) ≡ cond b (Some (row_of x)) (above d (rows_of xs))
    on true e = refl
    on false e = e

reverse_rows : (xs : List Line) → rows_of (reverse xs) ≡ reverse (rows_of xs)
reverse_rows [] = refl
reverse_rows (x ∷ xs) =
    ap rows_of (reverse-append (x ∷ []) xs) ∙ map-append row_of (reverse xs) (x ∷ []) ∙ ap (λ ys. ys ++ (row_of x ∷ [])) (reverse_rows xs) ∙ sym (reverse-append (row_of x ∷ []) (rows_of xs))

pub parent_row : (d : ℕ) (xs : List Line) (r : Option (Bor Line)) → option_map (λ l. l.now) r ≡ find (λ (l : Line). ltb l.depth d) (reverse xs) → option_map (λ l. row_of l.now) r ≡ above d (reverse (rows_of xs))
parent_row d xs r e = twice r ∙ ap (option_map row_of) e ∙ above_find d (reverse xs) ∙ ap (above d) (reverse_rows xs)
  where
    twice : (r : Option (Bor Line)) → option_map (λ l. row_of l.now) r ≡ option_map row_of (option_map (λ l. l.now) r)
    twice None = refl
    twice (Some l) = refl

-- What is wrong after the earlier lines, nearest first, of which only the last may still lack a child.
abbrev pub pending : List Row → List (Option Row) → Option Fault
pending [] fs = first_fault fs
pending (e ∷ es) fs = cond (filled e fs) (first_bad (suc (length (e ∷ es))) (e ∷ es) fs) (Some (fault.Shape (length (e ∷ es))))

one_more : (n : ℕ) → suc n ≡ n + 1
one_more n = omega arith

cond_and : {A : Type 0} (a b : Bool) (x y : A) → cond (a && b) x y ≡ cond a (cond b x y) y
cond_and true b x y = refl
cond_and false b x y = refl

line_step : (es : List Row) (r : Row) (fs : List (Option Row)) →
    pending es (Some r ∷ fs) ≡ cond (last_filled es (Some r ∷ [])) (cond (fits es r) (pending (r ∷ es) fs) (Some (fault.Shape (length es + 1)))) (Some (fault.Shape (length es)))
line_step [] r fs = cond_and (fits [] r) (filled r fs) _ _
line_step (e ∷ es) r fs =
    ap (λ x. cond (filled e (Some r ∷ fs)) x (Some (fault.Shape (length (e ∷ es))))) (cond_and (fits (e ∷ es) r) (filled r fs) _ _)
    ∙ ap (λ n. cond (filled e (Some r ∷ fs)) (cond (fits (e ∷ es) r) (pending (r ∷ e ∷ es) fs) (Some (fault.Shape n))) (Some (fault.Shape (length (e ∷ es))))) (one_more (length (e ∷ es)))

-- A line that fits goes to the earlier ones, and one that does not is bad.
pub line_good : (es : List Row) (r : Row) (fs : List (Option Row)) → line_fault es r ≡ None → pending es (Some r ∷ fs) ≡ pending (r ∷ es) fs
line_good es r fs e = line_step es r fs ∙ on (last_filled es (Some r ∷ [])) (fits es r) _ _ _ e
  where
    on : (a b : Bool) (x : Option Fault) (f g : Fault) → cond a (cond b None (Some f)) (Some g) ≡ None → cond a (cond b x (Some f)) (Some g) ≡ x
    on true true x f g e = refl
    on true false x f g e = cc
    on false b x f g e = cc

pub line_bad : (es : List Row) (r : Row) (fs : List (Option Row)) (f : Fault) → line_fault es r ≡ Some f → pending es (Some r ∷ fs) ≡ Some f
line_bad es r fs f e = line_step es r fs ∙ on (last_filled es (Some r ∷ [])) (fits es r) _ _ _ e
  where
    on : (a b : Bool) (x : Option Fault) (g h : Fault) → cond a (cond b None (Some g)) (Some h) ≡ Some f → cond a (cond b x (Some g)) (Some h) ≡ Some f
    on true true x g h e = cc
    on true false x g h e = e
    on false b x g h e = e

pub form_bad : (es : List Row) (fs : List (Option Row)) → pending es (None ∷ fs) ≡ Some (fault.Form (length es + 1))
form_bad [] fs = refl
form_bad (e ∷ es) fs = on (not_list e) ∙ ap (λ n. Some (fault.Form n)) (one_more (length (e ∷ es)))
  where
    not_list : (e : Row) → filled e (None ∷ fs) ≡ true
    not_list e = or_true (not (is_list e.kind))
      where
        or_true : (b : Bool) → (b || true) ≡ true
        or_true true = refl
        or_true false = refl

    on : filled e (None ∷ fs) ≡ true → pending (e ∷ es) (None ∷ fs) ≡ Some (fault.Form (suc (length (e ∷ es))))
    on h = ap (λ b. cond b (Some (fault.Form (suc (length (e ∷ es))))) (Some (fault.Shape (length (e ∷ es))))) h

-- The lines that were read, and one more.
pub row_more : (xs ys : List Line) (l : Line) → ys ≡ xs ++ (l ∷ []) → reverse (rows_of ys) ≡ row_of l ∷ reverse (rows_of xs)
row_more xs ys l e = ap (λ zs. reverse (rows_of zs)) e ∙ ap reverse (map_push row_of xs l) ∙ reverse-append (rows_of xs) (row_of l ∷ [])

pub form_more : (forms rest rest' : List (Option Row)) (xs ys : List Line) (l : Line) → forms ≡ map Some (rows_of xs) ++ rest → rest ≡ Some (row_of l) ∷ rest' → ys ≡ xs ++ (l ∷ []) → forms ≡ map Some (rows_of ys) ++ rest'
form_more forms rest rest' xs ys l e f g =
    let pushed : map Some (rows_of ys) ≡ map Some (rows_of xs) ++ (Some (row_of l) ∷ [])
    = ap (λ zs. map Some (rows_of zs)) g ∙ ap (map Some) (map_push row_of xs l) ∙ map_push Some (rows_of xs) (row_of l) in
    e ∙ ap (λ ts. map Some (rows_of xs) ++ ts) f ∙ sym (append_assoc (map Some (rows_of xs)) (Some (row_of l) ∷ []) rest') ∙ ap (λ ts. ts ++ rest') (sym pushed)
