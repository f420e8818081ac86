-- Which texts are files of ids, and where any other text goes wrong.
use Rattle.std.specs.Prelude.{◌≡◌, ℕ, ◌+◌, ◌≤◌, ◌⊎◌, List, [], ◌∷◌, ◌++◌, length, ◌≢◌}
use Rattle.ids.specs.declared.faults.Fault.{Fault}
use Rattle.ids.specs.declared.faults.Fault.TheVariants.{Length, Full, Closed}
use Rattle.ids.specs.declared.faults.ReadFault.{ReadFault}
use Rattle.ids.specs.Size.{Sized}

-- No byte is 0A.
abbrev pub OneLine : List ℕ → Type 0
OneLine [] = Unit {0}
OneLine (b ∷ id) = (b ≢ 10) × OneLine id

-- Each id has 1 to 64 bytes, none of them 0A.
abbrev pub Writable : List (List ℕ) → Type 0
Writable [] = Unit {0}
Writable (id ∷ ids) = Sized id × OneLine id × Writable ids

-- The ids written down: 0A behind each.
abbrev pub written : List (List ℕ) → List ℕ
written [] = []
written (id ∷ ids) = id ++ 10 ∷ written ids

-- The text is a file of these ids: at most 64, written down, where the last 0A may be missing.
abbrev pub IsFile : List ℕ → List (List ℕ) → Type 0
IsFile text ids = (length ids ≤ 64) × Writable ids × ((text ≡ written ids) ⊎ (text ++ 10 ∷ [] ≡ written ids))

-- It is a file of no other ids.
abbrev pub Only : List ℕ → List (List ℕ) → Type 0
Only text ids = (others : List (List ℕ)) → IsFile text others → others ≡ ids

-- There is no list of ids of which the text is a file.
abbrev pub NoFile : List ℕ → Type 0
NoFile text = (ids : List (List ℕ)) → IsFile text ids → ⊥

-- The text begins with these ids, written down, and then has this line, which ends with 0A or with the text.
abbrev pub Meets : List ℕ → List (List ℕ) → List ℕ → Type 0
Meets text ids line = ((rest : List ℕ) × (text ≡ written ids ++ (line ++ 10 ∷ rest))) ⊎ ((text ≡ written ids ++ line) × (line ≢ []))

-- What is wrong with a line behind some ids: it does not have 1 to 64 bytes; or it does, and there are 64 ids before it.
abbrev pub Wrong : Fault → List (List ℕ) → List ℕ → Type 0
Wrong Length ids line = Sized line → ⊥
Wrong Full ids line = Sized line × (length ids ≡ 64)
Wrong Closed ids line = ⊥

-- The refusal names the first line that is wrong: at most 64 ids stand in the lines before it.
abbrev pub WrongAt : List ℕ → ReadFault → Type 0
WrongAt text f =
    (ids : List (List ℕ)) × (line : List ℕ)
    × (f.line ≡ length ids + 1) × (length ids ≤ 64) × Writable ids × OneLine line × Meets text ids line × Wrong f.fault ids line
