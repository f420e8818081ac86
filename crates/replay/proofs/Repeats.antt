-- Bytes whose rest, from a place on, is repeated.
use Rattle.std.proofs.Common.{◌≡◌, refl, sym, ap, ◌∙◌, ℕ, zero, suc, ◌+◌, ◌-◌, ◌*◌, ◌≤◌, List, [], ◌++◌, length, take, drop, replicate, arith}
use Rattle.std.specs.List.{flat_map, slice_range}
use Rattle.std.proofs.Math.Nat.{mul-le-mul_left}
use Rattle.std.proofs.lemmas.List.{append-nil, append_assoc, length-append, length-drop, length-take, length-take-le, take-append-drop, take-append-le, take_at, take_all, drop_at, drop_all, replicate-append-replicate}
use Rattle.std.proofs.lemmas.List.Concat.{flat_map-append}
use Rattle.replay.specs.Part.{repeated_from}

-- A rest, as often as it says.
abbrev pub repeats : ℕ → List ℕ → List ℕ
repeats times rest = flat_map (λ rest. rest) (replicate times rest)

-- What stands once is what stood.
pub repeated_once : (from : ℕ) (items : List ℕ) → items ≡ repeated_from from 1 items
repeated_once from items = simp (append-nil, take-append-drop)

nothing : (times : ℕ) → repeats times [] ≡ []
nothing zero = refl
nothing (suc k) = nothing k

-- Past the end there is nothing to repeat.
pub repeated_nothing : (from times : ℕ) (items : List ℕ) → length items ≤ from → items ≡ repeated_from from times items
repeated_nothing from times items past =
    let rest = drop_all from items past in
    let front = take_all from items past in
    simp (rest, front, nothing, append-nil)

-- What begins with the items is as long, or longer.
pub begins_within : (items more : List ℕ) → take (length items) more ≡ items → length items ≤ length more
begins_within items more begins = omega (arith, length-take (length items) more, ap length begins)

-- What follows changes no beginning.
pub begins_more : (items more rest new : List ℕ) → take (length items) more ≡ items → new ≡ more ++ rest → take (length items) new ≡ items
begins_more items more rest new begins added =
    ap (take (length items)) added
    ∙ (take-append-le (length items) more rest (begins_within items more begins) ∙ begins)

length_repeats : (times : ℕ) (rest : List ℕ) → length (repeats times rest) ≡ length rest * times
length_repeats zero rest = omega arith
length_repeats (suc k) rest = omega (arith, length-append rest (repeats k rest), length_repeats k rest)

repeats_add : (k m : ℕ) (rest : List ℕ) → repeats (k + m) rest ≡ repeats k rest ++ repeats m rest
repeats_add k m rest =
    ap (flat_map (λ rest. rest)) (sym (replicate-append-replicate k m rest))
    ∙ flat_map-append (λ rest. rest) (replicate k rest) (replicate m rest)

rest_after : (from times : ℕ) (items : List ℕ) → from ≤ length items → drop from (repeated_from from times items) ≡ repeats times (drop from items)
rest_after from times items within =
    drop_at (take from items) (repeats times (drop from items)) from (length-take-le from items within)

-- As much as is repeated, or less, stands there.
pub part_within : (from stands more room : ℕ) (items now : List ℕ)
    → from ≤ length items
    → room ≡ length items - from
    → more ≤ stands
    → now ≡ repeated_from from stands items
    → from + room * more ≤ length now
part_within from stands more room items now within is_room fewer grown =
    let fits : room * more ≤ room * stands = mul-le-mul_left room fewer in
    let size : length now ≡ from + room * stands =
    ap length grown
    ∙ (length-append (take from items) (repeats stands (drop from items))
    ∙ omega (arith, length-take-le from items within, length_repeats stands (drop from items), ap (λ n. n * stands) (length-drop from items ∙ sym is_room)))
    in
    omega (arith, fits, size)

-- As much as `more` times the rest stands at the place, and is repeated.
pub repeated_more : (from stands more room end : ℕ) (items now new : List ℕ)
    → from ≤ length items
    → room ≡ length items - from
    → end ≡ from + room * more
    → more ≤ stands
    → now ≡ repeated_from from stands items
    → new ≡ now ++ slice_range now from end
    → new ≡ repeated_from from (stands + more) items
repeated_more from stands more room end items now new within is_room is_end fewer grown added =
    let rest = drop from items in
    let count : end - from ≡ length rest * more =
    omega (arith, is_end, ap (λ n. n * more) (length-drop from items ∙ sym is_room))
    in
    let all : drop from now ≡ repeats more rest ++ repeats (stands - more) rest =
    ap (drop from) grown
    ∙ (rest_after from stands items within
    ∙ (ap (λ n. repeats n rest) (omega arith) ∙ repeats_add more (stands - more) rest))
    in
    let part : slice_range now from end ≡ repeats more rest =
    ap (take (end - from)) all
    ∙ take_at (repeats more rest) (repeats (stands - more) rest) (end - from) (length_repeats more rest ∙ sym count)
    in
    let again : repeated_from from stands items ++ repeats more rest ≡ repeated_from from (stands + more) items =
    append_assoc (take from items) (repeats stands rest) (repeats more rest)
    ∙ ap (λ repeated. take from items ++ repeated) (sym (repeats_add stands more rest))
    in
    added ∙ (ap (λ end. now ++ end) part ∙ (ap (λ front. front ++ repeats more rest) grown ∙ again))
