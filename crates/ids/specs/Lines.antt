-- How a file of ids is read line by line, with the first line that is refused.
use Rattle.std.specs.Prelude.{ℕ, ◌+◌, true, cond, List, [], ◌∷◌, ◌++◌, length, Ok, Err, Result, ◌==◌}
use Rattle.ids.specs.declared.faults.Fault.{Fault}
use Rattle.ids.specs.declared.faults.ReadFault.{ReadFault}
use Rattle.ids.specs.Add.{added}

-- The byte 0A.
abbrev pub line_end : ℕ
line_end = 10

-- The bytes before the first line's end, and those behind it. The last line may have no end.
abbrev pub first_line : List ℕ → List ℕ
first_line [] = []
first_line (b ∷ text) = cond (b == line_end) [] (b ∷ first_line text)

abbrev pub after_line : List ℕ → List ℕ
after_line [] = []
after_line (b ∷ text) = cond (b == line_end) text (after_line text)

-- A byte before the first of some lines.
abbrev pub onto : ℕ → List (List ℕ) → List (List ℕ)
onto b [] = (b ∷ []) ∷ []
onto b (line ∷ lines) = (b ∷ line) ∷ lines

-- The lines of a text. Nothing behind the last line's end is no line.
abbrev pub lines_of : List ℕ → List (List ℕ)
lines_of [] = []
lines_of (b ∷ text) = cond (b == line_end) ([] ∷ lines_of text) (onto b (lines_of text))

-- The answer to adding the id of line n.
abbrev pub at_line : {A : Type 0} → ℕ → Result A Fault → Result A ReadFault
at_line n (Ok x) = Ok x
at_line n (Err e) = Err (record { line = n; fault = e })

-- An answer, and what follows it unless it is a refusal.
abbrev pub after : {A B : Type 0} → Result A ReadFault → Result B ReadFault → Result B ReadFault
after (Ok _) next = next
after (Err e) next = Err e

-- Reading lines into an open list that has some ids: each is added in turn, and the first refusal is the answer.
abbrev pub read_lines : List (List ℕ) → List (List ℕ) → Result (List (List ℕ)) ReadFault
read_lines ids [] = Ok ids
read_lines ids (line ∷ lines) = after (at_line (length ids + 1) (added ids true line)) (read_lines (ids ++ line ∷ []) lines)

-- The ids in a file, or the first line that is refused.
abbrev pub ids_in : List ℕ → Result (List (List ℕ)) ReadFault
ids_in text = read_lines [] (lines_of text)
