-- Reading one step at a time, for the functions inside.
use Rattle.std.specs.Prelude.{◌≡◌, ℕ, ◌+◌, ◌-◌, ◌*◌, min, Bool, true, cond, ◌⊎◌, List, [], ◌∷◌, map, length, take, drop, Some, None, Ok, Err, vec_items, Option, Result, MatchResult}
use Rattle.std.specs.Char.{is_ascii_digit}
use Rattle.std.specs.declared.vec.Vec.{Vec}
use Rattle.std.specs.declared.alloc.Global.{Global}
use Rattle.dtype.specs.declared.faults.Fault.{Fault}
use Rattle.dtype.specs.declared.faults.Fault.TheVariants as fault
use Rattle.dtype.specs.declared.lines.Line.{Line}
use Rattle.dtype.specs.Row.{Row, rows_of}
use Rattle.dtype.specs.Form.{place, forms_of}
use Rattle.dtype.specs.Order.{fits, filled, first_fault}

-- The depth after more digits, where n stands for the digits so far.
abbrev pub depth_from : ℕ → List ℕ → Option ℕ
depth_from n [] = Some n
depth_from n (c ∷ cs) = cond (is_ascii_digit c) (depth_from (min 16 (10 * n + (c - 48))) cs) None

-- What stands before the first byte b, and what follows it.
pub record Cut (b : ℕ) (s front rest : List ℕ) : Type 0 where
  pub at : place b s ≡ Some (length front)
  pub before : take (length front) s ≡ front
  pub after : drop (length front + 1) s ≡ rest

-- Refused where there is a fault.
abbrev pub checked : Option Fault → Result (Unit {0}) Fault
checked None = Ok tt
checked (Some e) = Err e

-- Has the nearest of the earlier lines the child that it needs, if it needs one and this follows?
abbrev pub last_filled : List Row → List (Option Row) → Bool
last_filled [] rest = true
last_filled (e ∷ es) rest = filled e rest

-- What is wrong where a line in form follows the earlier lines, nearest first.
abbrev pub line_fault : List Row → Row → Option Fault
line_fault es r =
    cond (last_filled es (Some r ∷ []))
    (cond (fits es r) None (Some (fault.Shape (length es + 1))))
    (Some (fault.Shape (length es)))

-- What is wrong where the text ends after these lines, nearest first.
abbrev pub end_fault : List Row → Option Fault
end_fault [] = Some (fault.Form 1)
end_fault (e ∷ es) = cond (filled e []) None (Some (fault.Shape (length (e ∷ es))))

-- The lines of a text, none of them bad, or the first fault.
abbrev pub ReadLines : List ℕ → Result (Vec Line Global) Fault → Type 0
ReadLines text r = MatchResult r
    (λ v. (forms_of text ≡ map Some (rows_of (vec_items v))) × (first_fault (forms_of text) ≡ None))
    (λ e. (e ≡ fault.Memory) ⊎ (first_fault (forms_of text) ≡ Some e))
