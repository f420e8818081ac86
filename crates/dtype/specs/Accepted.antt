-- What reading a text promises.
use Rattle.std.specs.Prelude.{◌≡◌, ℕ, suc, ◌⊎◌, List, [], Some, None, vec_items, Result, MatchResult, ◌≢◌}
use Rattle.std.specs.List.{slice_get}
use Rattle.dtype.specs.declared.faults.Fault.{Fault}
use Rattle.dtype.specs.declared.faults.Fault.TheVariants.{Memory}
use Rattle.dtype.specs.declared.lines.Line.{Line}
use Rattle.dtype.specs.declared.lines.DTypeText.{DTypeText}
use Rattle.dtype.specs.Row.{rows_of}
use Rattle.dtype.specs.Tree.{Tree, Within, printed, printed_rows, rows, subtrees}
use Rattle.dtype.specs.Use.{tree_at, lines_in}
use Rattle.dtype.specs.Order.{refusal_of}

-- A text and its lines are those of a tree: the text is what the tree is printed as, and of no other tree; the lines say what
-- the tree's lines say; and the tree at each line is the tree's part there, none past the last.
pub record Holds (text : List ℕ) (lines : List Line) (t : Tree) : Type 0 where
  pub within : Within t
  pub text_is : text ≡ printed t
  pub lines_are : rows_of lines ≡ rows 0 [] t
  pub parts : (n : ℕ) → tree_at (rows_of lines) (suc n) ≡ slice_get (subtrees t) n
  pub only : (u : Tree) → Within u → text ≡ printed u → u ≡ t

-- A text is accepted exactly when it is what some tree within the limits is printed as, unless there is no memory.
abbrev pub Reads : List ℕ → Result DTypeText Fault → Type 0
Reads text r = MatchResult r
    (λ d. (t : Tree) × Holds text (vec_items d.lines) t)
    (λ e. (e ≡ Memory) ⊎ ((t : Tree) → Within t → text ≢ printed t))

-- The text is what the lines that are kept are printed as, and a refusal is that of the first bad line, unless there is no memory.
abbrev pub ReadAs : List ℕ → Result DTypeText Fault → Type 0
ReadAs text r = MatchResult r
    (λ d. (printed_rows (lines_in d) ≡ text) × (refusal_of text ≡ None))
    (λ e. (e ≡ Memory) ⊎ (refusal_of text ≡ Some e))
