-- The ids that a list holds.
use Rattle.std.proofs.Common.{◌≡◌, ℕ, ◌+◌, ◌-◌, ◌<◌, ◌≤◌, List, [], ◌∷◌, ◌++◌, map, length, take, set, sym, ap, ◌∙◌, arith}
use Rattle.std.proofs.lemmas.List.{length-map, length-take-le, take-take, take-map, take_more_set, map_push}
use Rattle.arrayvec.specs.ArrayVec.{ArrayVec}
use Rattle.ids.specs.declared.list.Ids.{Ids}
use Rattle.ids.specs.Value.{ids_of}

pub count : (s : Ids) → length (ids_of s) ≡ s.count
count s =
    let h : s.count ≤ length s.room = omega (arith, s.whole, s.within) in
    length-map (take s.count s.room) (λ id. id.items) ∙ length-take-le s.count s.room h

-- The ids once one more is written behind the last.
pub grown : (room : List (ArrayVec ℕ)) (n : ℕ) (x : ArrayVec ℕ) → n < length room → map (λ id. id.items) (take (n + 1) (set room n x)) ≡ map (λ id. id.items) (take n room) ++ x.items ∷ []
grown room n x h = ap (map (λ id. id.items)) (take_more_set room n x h) ∙ map_push (λ id. id.items) (take n room) x

-- The ids once the last n are taken off.
pub shorter : (s : Ids) (n m : ℕ) → m ≡ s.count - n → map (λ id. id.items) (take m s.room) ≡ take (length (ids_of s) - n) (ids_of s)
shorter s n m e =
    let h : m ≤ s.count = omega arith in
    let k : length (ids_of s) - n ≡ m = omega (arith, count s) in
    ap (map (λ id. id.items)) (sym (take-take m s.count s.room h)) ∙ sym (take-map (λ id. id.items) m (take s.count s.room)) ∙ ap (λ (i : ℕ). take i (ids_of s)) (sym k)
