-- The parts of a word.
use Rattle.std.specs.Prelude.{◌≡◌, ℕ, ◌^◌, ◌<◌, ◌==◌, Bool, cond, List, [], ◌∷◌, ◌++◌, length, take, drop, replicate, nat_lt, Result, MatchResult}
use Rattle.std.specs.Str.Parse.{IsNumeral, digits_value, without_leading_plus}
use Rattle.std.specs.List.{flat_map, before_first, after_first, position_or_len}
use Rattle.replay.specs.declared.faults.CaseError.{CaseError}
use Rattle.replay.specs.declared.faults.CaseError.TheVariants.{NotACase}
use Rattle.replay.specs.declared.parts.Part.{Part}

-- The byte between the letters of a part and how often they are repeated: `*`.
abbrev pub is_star : ℕ → Bool
is_star b = b == 42

-- The letters of a part: what stands before its first star, or all of it.
abbrev pub letters_in : List ℕ → List ℕ
letters_in part = before_first is_star part

-- The digits that say how often the letters are repeated: what stands after the first star, and `1` where there is none.
abbrev pub digits_in : List ℕ → List ℕ
digits_in part = cond (nat_lt (position_or_len is_star part) (length part)) (after_first is_star part) (49 ∷ [])

-- The number that decimal digits write. A plus may stand before them.
abbrev pub number_of : List ℕ → ℕ
number_of digits = digits_value 10 (without_leading_plus digits)

-- Decimal digits, after a plus or none, that write a number below 2^32.
abbrev pub IsNumber : List ℕ → Type 0
IsNumber digits = IsNumeral 10 (without_leading_plus digits) × (number_of digits < 2 ^ 32)

-- A part is read from its text where its digits write a number below 2^32; otherwise the line is no case.
abbrev pub ReadsPart : List ℕ → Result Part CaseError → Type 0
ReadsPart part r = MatchResult r
    (λ p. (p.letters.now ≡ letters_in part) × IsNumber (digits_in part) × (p.times ≡ number_of (digits_in part)))
    (λ e. (e ≡ NotACase) × (IsNumber (digits_in part) → ⊥))

-- What parts write: the letters of each, as often as it says.
abbrev pub expanded : List Part → List ℕ
expanded parts = flat_map (λ letters. letters.now) (flat_map (λ part. replicate part.times part.letters) parts)

-- What stood before a place, and then the rest, as often as it says.
abbrev pub repeated_from : ℕ → ℕ → List ℕ → List ℕ
repeated_from from times items = take from items ++ flat_map (λ rest. rest) (replicate times (drop from items))
