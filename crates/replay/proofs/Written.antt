-- What parts write, one part after another.
use Rattle.std.proofs.Common.{◌≡◌, refl, sym, ap, ◌∙◌, ℕ, zero, suc, ◌+◌, ◌<◌, true, List, [], ◌∷◌, ◌++◌, length, get_or, take, drop, replicate}
use Rattle.std.specs.List.{flat_map}
use Rattle.std.specs.Str.{IsUtf8, is_utf8}
use Rattle.std.proofs.lemmas.List.{append-nil, take_more, take_at, drop_at}
use Rattle.std.proofs.lemmas.List.Concat.{flat_map-append}
use Rattle.std.proofs.lemmas.Str.{IsUtf8-nil, IsUtf8-append, IsUtf8-from_is_utf8, is_utf8-from_IsUtf8}
use denote.Ref.{Bor}
use Rattle.replay.specs.declared.parts.Part.{Part}
use Rattle.replay.specs.Part.{expanded, repeated_from}
use Rattle.replay.proofs.Repeats.{repeats}

-- Letters, as often as they say, are their bytes as often.
letters_bytes : (times : ℕ) (letters : Bor (List ℕ)) → flat_map (λ l. l.now) (replicate times letters) ≡ repeats times letters.now
letters_bytes zero letters = refl
letters_bytes (suc k) letters = ap (λ rest. letters.now ++ rest) (letters_bytes k letters)

-- One part more.
expanded_more : (parts : List Part) (i : ℕ) (d : Part) → i < length parts
    → expanded (take (i + 1) parts) ≡ expanded (take i parts) ++ repeats (get_or parts i d).times (get_or parts i d).letters.now
expanded_more parts i d lt =
    let part = get_or parts i d in
    let all : List Part → List (Bor (List ℕ)) = flat_map (λ part. replicate part.times part.letters) in
    let last : expanded (part ∷ []) ≡ repeats part.times part.letters.now =
    ap (flat_map (λ l. l.now)) (append-nil (replicate part.times part.letters)) ∙ letters_bytes part.times part.letters
    in
    ap expanded (take_more parts i d lt)
    ∙ ap (flat_map (λ l. l.now)) (flat_map-append (λ part. replicate part.times part.letters) (take i parts) (part ∷ []))
    ∙ flat_map-append (λ l. l.now) (all (take i parts)) (all (part ∷ []))
    ∙ ap (λ rest. expanded (take i parts) ++ rest) last

-- Letters that stand behind bytes are repeated from there.
repeated_behind : (bytes letters added : List ℕ) (from times : ℕ) → from ≡ length bytes → added ≡ bytes ++ letters → repeated_from from times added ≡ bytes ++ repeats times letters
repeated_behind bytes letters added from times end is_added =
    ap (repeated_from from times) is_added
    ∙ ap (λ front. front ++ repeats times (drop from (bytes ++ letters))) (take_at bytes letters from (sym end))
    ∙ ap (λ rest. bytes ++ repeats times rest) (drop_at bytes letters from (sym end))

-- Once the letters of the next part stand behind what the parts before it write, and are repeated from there, that is what the parts up to it write.
pub part_written : (parts : List Part) (i : ℕ) (d : Part) (bytes letters added : List ℕ) (from times : ℕ)
    → i < length parts
    → bytes ≡ expanded (take i parts)
    → from ≡ length bytes
    → letters ≡ (get_or parts i d).letters.now
    → times ≡ (get_or parts i d).times
    → added ≡ bytes ++ letters
    → repeated_from from times added ≡ expanded (take (i + 1) parts)
part_written parts i d bytes letters added from times lt before end is_letters is_times is_added =
    repeated_behind bytes letters added from times end is_added
    ∙ ap (λ front. front ++ repeats times letters) before
    ∙ ap (λ l. expanded (take i parts) ++ repeats times l) is_letters
    ∙ ap (λ n. expanded (take i parts) ++ repeats n (get_or parts i d).letters.now) is_times
    ∙ sym (expanded_more parts i d lt)

utf8_repeats : (times : ℕ) (letters : List ℕ) → IsUtf8 letters → IsUtf8 (repeats times letters)
utf8_repeats zero letters is_text = IsUtf8-nil
utf8_repeats (suc k) letters is_text = IsUtf8-append letters (repeats k letters) is_text (utf8_repeats k letters is_text)

-- Text stays text where text that stands behind it is repeated.
pub part_utf8 : (bytes letters added : List ℕ) (from times : ℕ)
    → is_utf8 bytes ≡ true
    → IsUtf8 letters
    → from ≡ length bytes
    → added ≡ bytes ++ letters
    → is_utf8 (repeated_from from times added) ≡ true
part_utf8 bytes letters added from times before more end is_added =
    ap is_utf8 (repeated_behind bytes letters added from times end is_added) ∙ is_utf8-from_IsUtf8 (bytes ++ repeats times letters) (IsUtf8-append bytes (repeats times letters) (IsUtf8-from_is_utf8 bytes before) (utf8_repeats times letters more))
