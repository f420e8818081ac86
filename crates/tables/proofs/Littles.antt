-- Numbers in a part of the bytes, and of bytes that are all 0.
use Rattle.std.proofs.Common.{◌≡◌, ℕ, zero, suc, ◌+◌, ◌*◌, ◌%◌, ◌<◌, ◌≤◌, List, length, get_or, take, drop, replicate, Ok, refl, ap, ◌∙◌, arith}
use Rattle.std.proofs.lemmas.List.{get_or-take, get_or-drop}
use Rattle.tables.specs.Format.{numbers}
use Rattle.tables.specs.Read.{little, number}
use Rattle.tables.proofs.Reading.{number_is}

pub little_take : (w m : ℕ) (b : List ℕ) (z : ℕ) → z + w ≤ m → little w (take m b) z ≡ little w b z
little_take zero m b z le = refl
little_take (suc w) m b z le =
    let lt : z < m = omega arith in
    rw (get_or-take m b z 0 lt, little_take w m b (z + 1) (omega arith)) refl

pub little_drop : (w f : ℕ) (b : List ℕ) (z : ℕ) → little w (drop f b) z ≡ little w b (f + z)
little_drop zero f b z = refl
little_drop (suc w) f b z =
    let next : f + (z + 1) ≡ f + z + 1 = omega arith in
    rw (get_or-drop f b z 0, little_drop w f b (z + 1), next) refl

pub numbers_take : (k m : ℕ) (b : List ℕ) (z : ℕ) → z + k * 4 ≤ m → numbers (take m b) z k ≡ numbers b z k
numbers_take zero m b z le = refl
numbers_take (suc k) m b z le = rw (little_take 4 m b z (omega arith), numbers_take k m b (z + 4) (omega arith)) refl

pub numbers_drop : (k f : ℕ) (b : List ℕ) (z : ℕ) → numbers (drop f b) z k ≡ numbers b (f + z) k
numbers_drop zero f b z = refl
numbers_drop (suc k) f b z =
    let next : f + (z + 4) ≡ f + z + 4 = omega arith in
    rw (little_drop 4 f b z, numbers_drop k f b (z + 4), next) refl

zero_at : (m z : ℕ) → ◌≡◌ {A = ℕ} (get_or (replicate m 0) z 0) 0
zero_at zero z = refl
zero_at (suc m) zero = refl
zero_at (suc m) (suc z) = zero_at m z

pub little_zero : (w m z : ℕ) → little w (replicate m 0) z ≡ 0
little_zero zero m z = refl
little_zero (suc w) m z = rw (zero_at m z, little_zero w m (z + 1)) refl

-- the number whose bytes stand at a place
pub little_at : (w : ℕ) (b n : List ℕ) (p : ℕ) → n ≡ take w (drop p b) → little w n 0 ≡ little w b p
little_at w b n p first =
    let at : p + 0 ≡ p = omega arith in
    rw first (little_take w w (drop p b) 0 (omega arith) ∙ little_drop w p b 0 ∙ ap (little w b) at)

pub number_at_place : (w : ℕ) (b n : List ℕ) (p : ℕ) → p % w ≡ 0 → p + w ≤ length b → n ≡ take w (drop p b) → number w b p ≡ Ok (little w n 0)
number_at_place w b n p even le first = number_is w b p (little w n 0) (even, le, little_at w b n p first)
