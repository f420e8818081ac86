-- The lines of a text, one after another.
use Rattle.std.proofs.Common.{◌≡◌, ℕ, ◌+◌, List, [], ◌∷◌, ◌++◌, reverse, length, Some, None, Ok, Err, Option, Result, sym, ap, ◌∙◌}
use Rattle.std.proofs.lemmas.List.{length-map, length-reverse}
use Rattle.dtype.specs.declared.faults.Fault.{Fault}
use Rattle.dtype.specs.declared.faults.Fault.TheVariants as fault
use Rattle.dtype.specs.declared.lines.Line.{Line}
use Rattle.dtype.specs.Row.{Row, row_of, rows_of}
use Rattle.dtype.specs.Step.{checked, line_fault}
use Rattle.dtype.proofs.Checking.{pending, checked_ok, checked_err, line_good, line_bad, form_bad, row_more}

module _ (x : Option Fault) (xs : List Line) (fs : List (Option Row)) (e : x ≡ pending (reverse (rows_of xs)) fs) where
  count : length (reverse (rows_of xs)) ≡ length xs
  count = length-reverse (rows_of xs) ∙ length-map xs row_of

  -- A line that is not in form.
  pub not_in_form : (more : List (Option Row)) (n : ℕ) → fs ≡ None ∷ more → n ≡ length xs → x ≡ Some (fault.Form (n + 1))
  not_in_form more n f m = e ∙ ap (pending (reverse (rows_of xs))) f ∙ form_bad (reverse (rows_of xs)) more ∙ ap (λ k. Some (fault.Form (k + 1))) (count ∙ sym m)

  -- A line in form, by the answer of its check.
  module _ (l : Line) (more : List (Option Row)) (f : fs ≡ Some (row_of l) ∷ more) (zs : List Line) (same : zs ≡ xs) where
    pub line_refused : (y : Fault) → ◌≡◌ {A = Result (Unit {0}) Fault} (Err y) (checked (line_fault (reverse (rows_of zs)) (row_of l))) → x ≡ Some y
    line_refused y g =
        e ∙ ap (pending (reverse (rows_of xs))) f
        ∙ line_bad (reverse (rows_of xs)) (row_of l) more y (ap (λ ys. line_fault (reverse (rows_of ys)) (row_of l)) (sym same) ∙ checked_err _ y g)

    pub line_passed : (ys : List Line) → ys ≡ xs ++ (l ∷ []) → ◌≡◌ {A = Result (Unit {0}) Fault} (Ok tt) (checked (line_fault (reverse (rows_of zs)) (row_of l))) → x ≡ pending (reverse (rows_of ys)) more
    line_passed ys p g =
        e ∙ ap (pending (reverse (rows_of xs))) f
        ∙ line_good (reverse (rows_of xs)) (row_of l) more (ap (λ ys. line_fault (reverse (rows_of ys)) (row_of l)) (sym same) ∙ checked_ok _ g)
        ∙ ap (λ es. pending es more) (sym (row_more xs ys l p))
