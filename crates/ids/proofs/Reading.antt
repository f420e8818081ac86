-- One line more, of a text of which t is left.
use Rattle.std.proofs.Common.{◌≡◌, ℕ, ◌+◌, ◌<◌, Bool, true, List, [], ◌∷◌, ◌++◌, length, Ok, Err, Result, sym, ap, ◌∙◌}
use Rattle.std.proofs.lemmas.List.{nil_from_length}
use Rattle.ids.specs.declared.faults.Fault.{Fault}
use Rattle.ids.specs.declared.faults.ReadFault.{ReadFault}
use Rattle.ids.specs.Add.{added, joined}
use Rattle.ids.specs.Lines.{first_line, after_line, lines_of, at_line, after, read_lines}
use Rattle.ids.proofs.Splits.{lines_split}

add_on : (v : Result (Unit {0}) Fault) (n : ℕ) (x : Unit {0}) (ids ids' lines : List (List ℕ)) (line : List ℕ) → Ok x ≡ at_line n v → ids' ≡ joined v ids line →
    read_lines ids' lines ≡ after (at_line n v) (read_lines (ids ++ line ∷ []) lines)
add_on (Ok _) n x ids ids' lines line a i = ap (λ (z : List (List ℕ)). read_lines z lines) i
add_on (Err e) n x ids ids' lines line a i = cc

module _ (ids : List (List ℕ)) (o : Bool) (t line rest : List ℕ) (h : 0 < length t) (s : o ≡ true) (l : line ≡ first_line t) (r : rest ≡ after_line t) where
  next : read_lines ids (lines_of t) ≡ after (at_line (length ids + 1) (added ids o line)) (read_lines (ids ++ line ∷ []) (lines_of rest))
  next = rw (s, l, r) (ap (read_lines ids) (lines_split t h))

  pub read_on : (x : Unit {0}) (ids' : List (List ℕ)) → Ok x ≡ at_line (length ids + 1) (added ids o line) → ids' ≡ joined (added ids o line) ids line →
      read_lines ids' (lines_of rest) ≡ read_lines ids (lines_of t)
  read_on x ids' a i = add_on (added ids o line) (length ids + 1) x ids ids' (lines_of rest) line a i ∙ sym next

  pub read_stops : (e : ReadFault) → Err e ≡ at_line (length ids + 1) (added ids o line) → read_lines ids (lines_of t) ≡ Err e
  read_stops e a = next ∙ ap (λ (z : Result (Unit {0}) ReadFault). after z (read_lines (ids ++ line ∷ []) (lines_of rest))) (sym a)

-- Nothing is left.
pub read_ends : (ids : List (List ℕ)) (t : List ℕ) → length t ≡ 0 → read_lines ids (lines_of t) ≡ Ok ids
read_ends ids t h = ap (λ (z : List ℕ). read_lines ids (lines_of z)) (nil_from_length t h)
