-- Which line of a text is the first bad one, and why it is bad.
use Rattle.std.specs.Prelude.{ℕ, suc, ◌+◌, Bool, true, false, cond, not, ◌&&◌, ◌||◌, List, [], ◌∷◌, length, Some, None, Option, ◌==◌, nat_le, nat_lt}
use Rattle.kinds.specs.declared.Kind.{Kind}
use Rattle.kinds.specs.declared.Kind.TheVariants as kind
use Rattle.dtype.specs.declared.faults.Fault.{Fault}
use Rattle.dtype.specs.declared.faults.Fault.TheVariants as fault
use Rattle.dtype.specs.Row.{Row}
use Rattle.dtype.specs.Form.{lines_of, forms_of}

-- The nearest of the earlier lines, nearest first, that is less deep.
abbrev pub above : ℕ → List Row → Option Row
above d [] = None
above d (e ∷ es) = cond (nat_lt e.depth d) (Some e) (above d es)

-- May a line with a name of n bytes be a child of a line of this kind? A list takes only the line that follows it directly.
abbrev pub takes : Kind → Bool → ℕ → Bool
takes kind.Struct direct n = nat_lt 0 n && nat_le n 64
takes kind.List direct n = direct && n == 0
takes kind.Bool direct n = false
takes kind.Utf8 direct n = false
takes kind.Binary direct n = false
takes (kind.Primitive p) direct n = false

-- Is a line at depth d a child of p, with a name that p allows?
abbrev pub below : ℕ → Bool → ℕ → Option Row → Bool
below d direct n None = false
below d direct n (Some p) = p.depth + 1 == d && takes p.kind direct n

-- Do depth and name of a line fit the earlier lines, nearest first?
abbrev pub fits : List Row → Row → Bool
fits [] r = r.depth == 0 && length r.name == 0
fits (e ∷ es) r = nat_le r.depth 15 && below r.depth (nat_lt e.depth r.depth) (length r.name) (above r.depth (e ∷ es))

abbrev pub is_list : Kind → Bool
is_list kind.List = true
is_list kind.Struct = false
is_list kind.Bool = false
is_list kind.Utf8 = false
is_list kind.Binary = false
is_list (kind.Primitive p) = false

-- Does a deeper line follow a line of depth d, or one that is not in form?
abbrev pub deeper_next : ℕ → List (Option Row) → Bool
deeper_next d [] = false
deeper_next d (None ∷ rest) = true
deeper_next d (Some r ∷ rest) = nat_lt d r.depth

-- A list has a child.
abbrev pub filled : Row → List (Option Row) → Bool
filled r rest = not (is_list r.kind) || deeper_next r.depth rest

-- The first bad line from line n on, after the earlier lines, nearest first.
abbrev pub first_bad : ℕ → List Row → List (Option Row) → Option Fault
first_bad n es [] = None
first_bad n es (None ∷ rest) = Some (fault.Form n)
first_bad n es (Some r ∷ rest) = cond (fits es r && filled r rest) (first_bad (suc n) (r ∷ es) rest) (Some (fault.Shape n))

-- A text without a line has a bad first line.
abbrev pub first_fault : List (Option Row) → Option Fault
first_fault [] = Some (fault.Form 1)
first_fault (x ∷ xs) = first_bad 1 [] (x ∷ xs)

-- Why a text is refused, if it is.
abbrev pub refusal_of : List ℕ → Option Fault
refusal_of text = cond (nat_le (length text) 65536 && nat_le (length (lines_of text)) 256) (first_fault (forms_of text)) (Some fault.Size)
