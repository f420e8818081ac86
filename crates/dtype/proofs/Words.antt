-- The words of a line and its depth: what is printed is read back, and nothing else is read.
use Rattle.std.proofs.Common.{◌≡◌, ℕ, ◌^◌, ◌<◌, ◌≤◌, min, true, not, ◌&&◌, ◌||◌, eqb, ltb, List, [], ◌∷◌, length, get_or, Some, decimal, sym, ap, ◌∙◌, subst, inl, inr, arith, rules}
use Rattle.std.proofs.lemmas.Fmt.{decimal_nonempty, first_decimal, digits_decimal, digits_value-decimal, decimal-digits_value, decimal_digit}
use Rattle.std.proofs.ByRecursion.{All-weaker}
use Rattle.std.proofs.lemmas.Str.Parse.{IsNumeralModel, numerals_by_fold, tells_all_ascii_digits}
use Rattle.std.proofs.lemmas.Bool.{eqb-true, eqb-false, ltb-true, eq-eqb, ne_eqb, lt-ltb, cond-true, cond-false, cases_Bool, cases_eq, cases_lt, and_parts, and_from, or_left, or_right, or_cases, not-true, not_from_false}
use Rattle.std.specs.List.{AllByRecursion as All}
use Rattle.std.specs.Str.{all_ascii_digits}
use Rattle.kinds.specs.declared.PType.TheVariants as ptype
use Rattle.kinds.specs.declared.Kind.{Kind}
use Rattle.kinds.specs.declared.Kind.TheVariants as kind
use Rattle.kinds.specs.declared.Nullability.{Nullability}
use Rattle.kinds.specs.declared.Nullability.TheVariants as nullability
use Rattle.dtype.specs.Form.{value_from, is_decimal, depth_of}
use Rattle.kinds.specs.Word.{kind_word, mark_word}
use Rattle.kinds.proofs.Words.{same_some, never_some}
use Rattle.dtype.proofs.Places.{Free}

-- neither a tab nor 0A
abbrev pub Clean : List ℕ → Type 0
Clean s = All (λ b. (b ≡ 9 → ⊥) × (b ≡ 10 → ⊥)) s

pub clean_tab : (s : List ℕ) → Clean s → Free 9 s
clean_tab s c = All-weaker (λ (b : ℕ). (b ≡ 9 → ⊥) × (b ≡ 10 → ⊥)) (λ b. b ≡ 9 → ⊥) (λ b h. h.0) s c

pub clean_end : (s : List ℕ) → Clean s → Free 10 s
clean_end s c = All-weaker (λ (b : ℕ). (b ≡ 9 → ⊥) × (b ≡ 10 → ⊥)) (λ b. b ≡ 10 → ⊥) (λ b h. h.1) s c

pub clean_both : (s : List ℕ) → Free 9 s → Free 10 s → Clean s
clean_both [] t f = tt
clean_both (b ∷ s) t f = ((t.0, f.0), clean_both s t.1 f.1)

-- the words are clean
pub clean_kind : (k : Kind) → Clean (kind_word k)
clean_kind kind.Bool = omega arith
clean_kind kind.Utf8 = omega arith
clean_kind kind.Binary = omega arith
clean_kind kind.List = omega arith
clean_kind kind.Struct = omega arith
clean_kind (kind.Primitive ptype.U8) = omega arith
clean_kind (kind.Primitive ptype.U16) = omega arith
clean_kind (kind.Primitive ptype.U32) = omega arith
clean_kind (kind.Primitive ptype.U64) = omega arith
clean_kind (kind.Primitive ptype.I8) = omega arith
clean_kind (kind.Primitive ptype.I16) = omega arith
clean_kind (kind.Primitive ptype.I32) = omega arith
clean_kind (kind.Primitive ptype.I64) = omega arith
clean_kind (kind.Primitive ptype.F16) = omega arith
clean_kind (kind.Primitive ptype.F32) = omega arith
clean_kind (kind.Primitive ptype.F64) = omega arith

pub clean_mark : (m : Nullability) → Clean (mark_word m)
clean_mark nullability.NonNullable = omega arith
clean_mark nullability.Nullable = omega arith

-- `all_ascii_digits` and `value_from` are the digits and the number that `decimal` is about
pub numerals : IsNumeralModel (λ ds. all_ascii_digits ds ≡ true) (value_from 0)
numerals = numerals_by_fold (λ ds. all_ascii_digits ds ≡ true) tells_all_ascii_digits value_from (search rules)

-- digits are clean
clean_digits : (ds : List ℕ) → all_ascii_digits ds ≡ true → Clean ds
clean_digits [] p = tt
clean_digits (c ∷ cs) p = let h = tells_all_ascii_digits.parts c cs p in (visible c h.0.0, clean_digits cs h.1)
  where
    visible : (c : ℕ) → 48 ≤ c → (c ≡ 9 → ⊥) × (c ≡ 10 → ⊥)
    visible c le = omega arith

-- the three parts of a numeral
pub decimal_parts : (ds : List ℕ) → is_decimal ds ≡ true → (all_ascii_digits ds ≡ true) × (0 < length ds) × (get_or ds 0 0 ≡ 48 → length ds ≡ 1)
decimal_parts ds p =
    let a = and_parts (all_ascii_digits ds) (ltb 0 (length ds) && (not (eqb (get_or ds 0 0) 48) || eqb (length ds) 1)) p in
    let b = and_parts (ltb 0 (length ds)) (not (eqb (get_or ds 0 0) 48) || eqb (length ds) 1) a.1 in (
      a.0,
      ltb-true 0 (length ds) b.0,
      λ zero. elim (or_cases (not (eqb (get_or ds 0 0) 48)) (eqb (length ds) 1) b.1) [
        | inl other ↦ absurd (eqb-false (get_or ds 0 0) 48 (not-true _ other) zero)
        | inr one ↦ eqb-true (length ds) 1 one
      ],
    )

pub decimal_from : (ds : List ℕ) → all_ascii_digits ds ≡ true → 0 < length ds → (get_or ds 0 0 ≡ 48 → length ds ≡ 1) → is_decimal ds ≡ true
decimal_from ds digits some only =
    and_from (all_ascii_digits ds) (ltb 0 (length ds) && (not (eqb (get_or ds 0 0) 48) || eqb (length ds) 1)) digits
    (and_from (ltb 0 (length ds)) (not (eqb (get_or ds 0 0) 48) || eqb (length ds) 1) (lt-ltb 0 (length ds) some)
    (elim (cases_eq (get_or ds 0 0) 48) [
      | inl zero ↦ or_right (not (eqb (get_or ds 0 0) 48)) (eqb (length ds) 1) (eq-eqb (length ds) 1 (only zero))
      | inr other ↦ or_left (not (eqb (get_or ds 0 0) 48)) (eqb (length ds) 1) (not_from_false (eqb (get_or ds 0 0) 48) (ne_eqb (get_or ds 0 0) 48 other))
    ]))

-- what `decimal` writes is a numeral
module _ (d : ℕ) (small : d < 2 ^ 64) where
  decimal_digits : all_ascii_digits (decimal d) ≡ true
  decimal_digits = digits_decimal numerals d small

  decimal_only : get_or (decimal d) 0 0 ≡ 48 → length (decimal d) ≡ 1
  decimal_only zero =
      elim (cases_lt 0 d) [
        | inl more ↦ (let h = first_decimal d more small in absurd (above (get_or (decimal d) 0 0) h zero))
        | inr le ↦ ap length (decimal_digit d (under d le))
      ]
    where
      above : (c : ℕ) → 48 < c → c ≡ 48 → ⊥
      above c lt e = omega arith

      under : (d : ℕ) → d ≤ 0 → d < 10
      under d le = omega arith

  pub is_decimal_lem : is_decimal (decimal d) ≡ true
  is_decimal_lem = decimal_from (decimal d) decimal_digits (decimal_nonempty d small) decimal_only

wide : (d : ℕ) → d ≤ 15 → d < 2 ^ 64
wide d le = omega arith

-- a depth that is printed is read back
pub depth_decimal : (d : ℕ) → d ≤ 15 → depth_of (decimal d) ≡ Some d
depth_decimal d le =
    cond-true (is_decimal (decimal d)) _ _ (is_decimal_lem d (wide d le))
    ∙ ap (λ (n : ℕ). Some n) (capped (value_from 0 (decimal d)) d le (digits_value-decimal numerals d (wide d le)))
  where
    capped : (v d : ℕ) → d ≤ 15 → v ≡ d → min 16 v ≡ d
    capped v d le e = omega arith

pub clean_decimal : (d : ℕ) → d ≤ 15 → Clean (decimal d)
clean_decimal d le = clean_digits (decimal d) (decimal_digits d (wide d le))

-- a depth that is read is the number of a numeral, or 16 where that is more
pub depth_some : (ds : List ℕ) (d : ℕ) → depth_of ds ≡ Some d → (is_decimal ds ≡ true) × (min 16 (value_from 0 ds) ≡ d)
depth_some ds d e =
    elim (cases_Bool (is_decimal ds)) [
      | inl yes' ↦ (yes', same_some (sym (cond-true (is_decimal ds) _ _ yes') ∙ e))
      | inr no' ↦ absurd (never_some (sym (cond-false (is_decimal ds) _ _ no') ∙ e))
    ]

-- a depth up to 15 that is read was printed so
pub decimal_depth : (ds : List ℕ) (d : ℕ) → depth_of ds ≡ Some d → d ≤ 15 → ds ≡ decimal d
decimal_depth ds d e le =
    let h = depth_some ds d e in
    let parts = decimal_parts ds h.0 in
    let v : value_from 0 ds ≡ d = uncapped (value_from 0 ds) d le h.1 in
    sym (decimal-digits_value numerals ds parts.0 parts.1 parts.2 (subst (λ (n : ℕ). n < 2 ^ 64) (sym v) (wide d le))) ∙ ap decimal v
  where
    uncapped : (v d : ℕ) → d ≤ 15 → min 16 v ≡ d → v ≡ d
    uncapped v d le e = omega arith
