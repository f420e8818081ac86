-- A word stands for one value, and each value has a word.
use Rattle.std.proofs.Common.{◌≡◌, ℕ, List, [], ◌∷◌, Some, None, Ok, Err, Option, Result, sym, ap, ◌∙◌, inl, inr}
use Rattle.std.proofs.lemmas.Slice.Eq.{bytes_eq-Decides}
use Rattle.std.proofs.lemmas.Bool.{cond-true, cond-false, cases_Bool}
use Rattle.std.specs.Result.{result_ok}
use Rattle.std.specs.Str.{bytes_eq}
use Rattle.kinds.specs.declared.Kind.{Kind}
use Rattle.kinds.specs.declared.Nullability.{Nullability}
pub use Rattle.kinds.specs.Distinct.{kind_word_lem, mark_word_lem}
use Rattle.kinds.specs.Word.{named, kind_named, mark_named, kinds, marks, kind_word, mark_word, ReadsWord}

-- Two answers that are there are the same answer.
pub same_some : {A : Type 0} {x y : A} → ◌≡◌ {A = Option A} (Some x) (Some y) → x ≡ y
same_some e = cc

pub never_some : {A : Type 0} {y : A} → ◌≡◌ {A = Option A} None (Some y) → ⊥
never_some e = cc

-- a word stands for what is named by it
named_word : {A : Type 0} (f : A → List ℕ) (w : List ℕ) (xs : List A) (x : A) → named f w xs ≡ Some x → w ≡ f x
named_word f w [] x e = absurd (never_some e)
named_word f w (y ∷ ys) x e =
    elim (cases_Bool (bytes_eq w (f y))) [
      | inl same ↦ (bytes_eq-Decides w (f y)).0 same ∙ ap f (same_some (sym (cond-true (bytes_eq w (f y)) _ _ same) ∙ e))
      | inr other ↦ named_word f w ys x (sym (cond-false (bytes_eq w (f y)) _ _ other) ∙ e)
    ]

pub word_kind : (w : List ℕ) (k : Kind) → kind_named w ≡ Some k → w ≡ kind_word k
word_kind w k e = named_word kind_word w kinds k e

pub word_mark : (w : List ℕ) (m : Nullability) → mark_named w ≡ Some m → w ≡ mark_word m
word_mark w m e = named_word mark_word w marks m e

-- What is found for a word is what the word stands for, where the word of each value stands for that value.
pub found : {A E : Type 0} (f : A → List ℕ) (xs : List A) → ((x : A) → named f (f x) xs ≡ Some x) → (w : List ℕ) (r : Result A E) → result_ok r ≡ named f w xs → ReadsWord f xs w r
found f xs each w (Ok x) e = record { value = e; named = named_word f w xs x (sym e) }
found f xs each w (Err _) e = record { value = e; named = λ x same. never_some (e ∙ ap (λ z. named f z xs) same ∙ each x) }
