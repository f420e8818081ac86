-- Digits one by one.
use Rattle.std.proofs.Common.{◌≡◌, ℕ, ◌+◌, ◌-◌, ◌*◌, ◌<◌, ◌≤◌, min, Bool, true, false, cond, not, ◌&&◌, ◌||◌, eqb, ltb, List, [], ◌∷◌, length, get_or, drop, Some, None, Option, sym, refl, ap, ◌∙◌, arith}
use Rattle.std.proofs.lemmas.List.{at_drop_more, at_drop_all}
use Rattle.std.proofs.lemmas.Bool.{cond-false, eq-eqb, eqb-true, lt-ltb}
use Rattle.std.specs.Char.{is_ascii_digit}
use Rattle.std.specs.Str.{all_ascii_digits}
use Rattle.dtype.specs.Form.{value_from, depth_of}
use Rattle.dtype.specs.Step.{depth_from}

-- Numbers past 16 may be cut to 16 before the next digit.
cut : (n k : ℕ) → min 16 (10 * min 16 n + k) ≡ min 16 (10 * n + k)
cut n k = omega arith

either : (a b : Bool) (x y : Option ℕ) → x ≡ cond b y None → cond a x None ≡ cond (a && b) y None
either true b x y e = e
either false b x y e = refl

pub depth_from_lem : (n : ℕ) (ds : List ℕ) → depth_from (min 16 n) ds ≡ cond (all_ascii_digits ds) (Some (min 16 (value_from n ds))) None
depth_from_lem n [] = refl
depth_from_lem n (c ∷ cs) = either (is_ascii_digit c) (all_ascii_digits cs) _ _ (ap (λ d. depth_from d cs) (cut n (c - 48)) ∙ depth_from_lem (10 * n + (c - 48)) cs)

whole : (a b c d : Bool) → b ≡ true → (c ≡ true → d ≡ true) → a ≡ (a && (b && (not c || d)))
whole false b c d p q = refl
whole true true true true p q = refl
whole true true true false p q = sym (q refl)
whole true true false d p q = refl
whole true false c d p q = sym p

-- Digits without a leading zero are read one by one.
pub depth_goes : (ds : List ℕ) → 0 < length ds → (get_or ds 0 0 ≡ 48 → length ds ≡ 1) → depth_from 0 ds ≡ depth_of ds
depth_goes ds some one =
    depth_from_lem 0 ds ∙ ap (λ t. cond t (Some (min 16 (value_from 0 ds))) None)
    (whole (all_ascii_digits ds) (ltb 0 (length ds)) (eqb (get_or ds 0 0) 48) (eqb (length ds) 1) (lt-ltb _ _ some) (λ z. eq-eqb _ _ (one (eqb-true _ _ z))))

module _ (n : ℕ) (ds : List ℕ) (i : ℕ) (h : i < length ds) where
  pub digit_none : is_ascii_digit (get_or ds i 0) ≡ false → depth_from n (drop i ds) ≡ None
  digit_none e = at_drop_more (depth_from n) ds i 0 h ∙ cond-false _ _ _ e

pub digit_all : (n : ℕ) (ds : List ℕ) (i : ℕ) → length ds ≤ i → depth_from n (drop i ds) ≡ Some n
digit_all n ds i h = at_drop_all (depth_from n) ds i h
