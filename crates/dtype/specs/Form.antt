-- The lines of a text, and what a line in form says.
use Rattle.std.specs.Prelude.{◌≡◌, ℕ, suc, ◌+◌, ◌-◌, ◌*◌, min, Bool, cond, not, ◌&&◌, ◌||◌, List, [], ◌∷◌, map, length, take, drop, Some, None, Option, ◌==◌, nat_lt, slice_index}
use Rattle.std.specs.List.{position}
use Rattle.std.specs.Option.{option_and_then}
use Rattle.std.specs.Str.{all_ascii_digits}
use Rattle.dtype.specs.Row.{Row}
use Rattle.kinds.specs.Word.{kind_named, mark_named}

-- A step, and then another where the first gives something.
abbrev pub ◌>>=◌ : {A B : Type 0} → Option A → (A → Option B) → Option B
◌>>=◌ o f = option_and_then f o

-- The first place of a byte.
abbrev pub place : ℕ → List ℕ → Option ℕ
place b xs = position (λ x. x == b) xs

-- The lines of a text, each with the 0A (10) that ends it; what follows the last 0A is a line too.
abbrev pub onto : ℕ → List (List ℕ) → List (List ℕ)
onto x [] = (x ∷ []) ∷ []
onto x (l ∷ ls) = (x ∷ l) ∷ ls

abbrev pub lines_of : List ℕ → List (List ℕ)
lines_of [] = []
lines_of (x ∷ xs) = cond (x == 10) ((x ∷ []) ∷ lines_of xs) (onto x (lines_of xs))

-- 0A stands in a line at its end only.
abbrev pub OneLine : List ℕ → Type 0
OneLine l = (n : ℕ) → place 10 l ≡ Some n → length l ≡ suc n

-- The number that decimal digits write.
abbrev pub value_from : ℕ → List ℕ → ℕ
value_from n [] = n
value_from n (c ∷ cs) = value_from (10 * n + (c - 48)) cs

-- Digits, at least one, the first of which is 0 only where it is the only one.
abbrev pub is_decimal : List ℕ → Bool
is_decimal ds = all_ascii_digits ds && (nat_lt 0 (length ds) && (not (slice_index ds 0 == 48) || length ds == 1))

-- A depth. All that are too deep count as 16.
abbrev pub depth_of : List ℕ → Option ℕ
depth_of ds = cond (is_decimal ds) (Some (min 16 (value_from 0 ds))) None

-- A name is the last field: no tab stands in it.
abbrev pub without_tab : List ℕ → Option ℕ → Option (List ℕ)
without_tab s None = Some s
without_tab s (Some n) = None

abbrev pub last_field : List ℕ → Option (List ℕ)
last_field s = without_tab s (place 9 s)

-- What a line without its 0A says: four fields with a tab (9) between two.
abbrev pub fields_of : List ℕ → Option Row
fields_of s = do
  a ← place 9 s
  depth ← depth_of (take a s)
  b ← place 9 (drop (a + 1) s)
  kind ← kind_named (take b (drop (a + 1) s))
  c ← place 9 (drop (b + 1) (drop (a + 1) s))
  nullability ← mark_named (take c (drop (b + 1) (drop (a + 1) s)))
  name ← last_field (drop (c + 1) (drop (b + 1) (drop (a + 1) s)))
  Some (record { depth = depth; kind = kind; nullability = nullability; name = name })

-- What a line says, if it is in form: it ends with 0A.
abbrev pub form_of : List ℕ → Option Row
form_of l = do
  n ← place 10 l
  fields_of (take n l)

abbrev pub forms_of : List ℕ → List (Option Row)
forms_of text = map form_of (lines_of text)
