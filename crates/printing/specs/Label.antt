-- Labels of encodings.
use Rattle.std.specs.Prelude.{◌≡◌, ℕ, List, length, encode_utf8_all, vec_items, slice_index_or}
use Rattle.printing.specs.declared.labels.Label.{Label}
use Rattle.printing.specs.declared.labels.Labels.{Labels}

-- A text of n characters.
abbrev pub Spelled : List ℕ → ℕ → Type 0
Spelled text n = (chars : List ℕ) × (encode_utf8_all chars ≡ text) × (length chars ≡ n)

-- The label of an encoding.
abbrev pub label_at : Labels → ℕ → Label
label_at labels encoding = slice_index_or (vec_items labels.known) encoding labels.unknown
