-- Sums one by one, and the last of some rounds.
use Rattle.std.proofs.Common.{◌≡◌, ℕ, zero, suc, ◌+◌, ◌*◌, ◌/◌, ◌<◌, ◌≤◌, ltb, List, [], ◌∷◌, ◌++◌, length, eqb, ◌≢◌, fold, Option, Some, Ok, unwrap_or, sym, refl, ap, ◌∙◌, add-one, arith}
use Rattle.std.proofs.lemmas.Bool.{cond-true, cond-false, lt-ltb, ne_eqb}
use Rattle.std.specs.List.{FoldsTo, last_or, range_with_len}
use Rattle.tables.specs.Answer.{number_at}
use Rattle.tables.specs.Format.{numbers}
use Rattle.tables.specs.Question.{numbers_in}
use Rattle.tables.specs.Read.{little}
use Rattle.tables_c.specs.Tell.{last_of}
use Rattle.tables_c.specs.Walk.{plus, sum_to, segments_sum}

-- the sum from z on
fold_from : (f : ℕ → ℕ) (z n : ℕ) → fold (λ a k. plus a (f k)) (sum_to f z) (range_with_len z n) ≡ sum_to f (z + n)
fold_from f z zero = let e : z ≡ z + 0 = omega arith in ap (sum_to f) e
fold_from f z (suc n) =
    let e : suc z + n ≡ z + suc n = omega arith in
    rw (add-one z) (fold_from f (suc z) n ∙ ap (sum_to f) e)

pub fold_range : (f : ℕ → ℕ) (n : ℕ) → fold (λ a k. plus a (f k)) 0 (range_with_len 0 n) ≡ sum_to f n
fold_range f n = let e : 0 + n ≡ n = omega arith in fold_from f 0 n ∙ ap (sum_to f) e

-- the sum of the numbers in some bytes
number_or : (b : List ℕ) (k : ℕ) → k < length b / 4 → unwrap_or (number_at b k) 0 ≡ little 4 b (4 * k)
number_or b k lt = rw (cond-true (ltb k (length b / 4)) _ _ (lt-ltb k (length b / 4) lt)) refl

fold_numbers_from : (b : List ℕ) (z n : ℕ) → z + n ≤ length b / 4
    → fold plus (sum_to (λ k. unwrap_or (number_at b k) 0) z) (numbers b (4 * z) n) ≡ sum_to (λ k. unwrap_or (number_at b k) 0) (z + n)
fold_numbers_from b z zero le = let e : z ≡ z + 0 = omega arith in ap (sum_to (λ k. unwrap_or (number_at b k) 0)) e
fold_numbers_from b z (suc n) le =
    let e : suc z + n ≡ z + suc n = omega arith in
    let next : 4 * z + 4 ≡ 4 * suc z = omega arith in
    rw (sym (number_or b z (omega arith)), next) (fold_numbers_from b (suc z) n (omega arith) ∙ ap (sum_to (λ k. unwrap_or (number_at b k) 0)) e)

pub fold_numbers : (b : List ℕ) → fold plus 0 (numbers_in b) ≡ segments_sum (Ok b)
fold_numbers b = let e : 0 + length b / 4 ≡ length b / 4 = omega arith in fold_numbers_from b 0 (length b / 4) (omega arith) ∙ ap (sum_to (λ k. unwrap_or (number_at b k) 0)) e

-- one more call
pub last_push : (xs : List ℕ) (o : Option ℕ) (x : ℕ) → last_or o (xs ++ x ∷ []) ≡ Some x
last_push [] o x = refl
last_push (y ∷ ys) o x = last_push ys (Some y) x

-- what the last of some calls gave, where each gives n
module _ {F : Type 0} (R : F → ℕ → F → Type 0) (I : F → Type 0) (n : ℕ) (each : (p : F) (r : ℕ) (q : F) → I p → R p r q → (r ≡ n) × I q) where
  last_again : (r : ℕ) (p q : F) (given : List ℕ) → I p → FoldsTo R p given q → Some r ≡ last_or (Some n) given → r ≡ n
  last_again r p q [] i f e = cc
  last_again r p q (x ∷ xs) i f e = let s = each p x f.0 i f.1 in last_again r f.0 q xs s.1 f.2 (e ∙ ap (λ (y : ℕ). last_or (Some y) xs) s.0)

  pub last_same : (rounds r : ℕ) (p q : F) (given : List ℕ) → I p → FoldsTo R p given q → length given ≡ rounds → Some r ≡ last_or (Some 0) given → r ≡ last_of rounds n
  last_same rounds r p q [] i f l e = rw (← l) (cc)
  last_same rounds r p q (x ∷ xs) i f l e =
      let s = each p x f.0 i f.1 in
      let some : rounds ≢ 0 = omega arith in
      last_again r f.0 q xs s.1 f.2 (e ∙ ap (λ (y : ℕ). last_or (Some y) xs) s.0) ∙ sym (cond-false (eqb rounds 0) _ _ (ne_eqb rounds 0 some))
