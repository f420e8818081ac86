-- What reading the lines tells of the whole text.
use Rattle.std.proofs.Common.{◌≡◌, ℕ, true, false, ◌&&◌, leb, ◌⊎◌, List, length, Some, ◌∙◌, inl, inr}
use Rattle.std.proofs.lemmas.Bool.{cond-true, cond-false}
use Rattle.dtype.specs.declared.faults.Fault.{Fault}
use Rattle.dtype.specs.declared.faults.Fault.TheVariants as fault
use Rattle.dtype.specs.Form.{lines_of, forms_of}
use Rattle.dtype.specs.Order.{first_fault, refusal_of}
use Rattle.dtype.specs.Tree.{Tree, Within, printed}
use Rattle.dtype.proofs.Whole.{refused}

pub in_limits : (text : List ℕ) → (leb (length text) 65536 && leb (length (lines_of text)) 256) ≡ true → refusal_of text ≡ first_fault (forms_of text)
in_limits text h = cond-true _ _ _ h

pub past_limits : (text : List ℕ) → (leb (length text) 65536 && leb (length (lines_of text)) 256) ≡ false → refusal_of text ≡ Some fault.Size
past_limits text h = cond-false _ _ _ h

-- No tree within the limits is printed as a text that is refused.
pub none_printed : (text : List ℕ) (x : Fault) → (x ≡ fault.Memory) ⊎ (refusal_of text ≡ Some x) → (x ≡ fault.Memory) ⊎ ((t : Tree) → Within t → text ≡ printed t → ⊥)
none_printed text x (inl m) = inl m
none_printed text x (inr e) = inr (refused text x e)

-- The fault of the lines is that of a text within the limits.
pub fault_of_lines : (text : List ℕ) (x : Fault) → (leb (length text) 65536 && leb (length (lines_of text)) 256) ≡ true → (x ≡ fault.Memory) ⊎ (first_fault (forms_of text) ≡ Some x) → (x ≡ fault.Memory) ⊎ (refusal_of text ≡ Some x)
fault_of_lines text x h (inl m) = inl m
fault_of_lines text x h (inr e) = inr (in_limits text h ∙ e)
