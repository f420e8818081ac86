-- The words of a dtype text, and the numbers of the number types.
use Rattle.std.specs.Prelude.{◌≡◌, ◌≢◌, ℕ, List, [], ◌∷◌, codes, Option, Result, MatchResult, find}
use Rattle.std.specs.Result.{result_ok}
use Rattle.std.specs.Str.{bytes_eq}
use Rattle.kinds.specs.declared.PType.{PType}
use Rattle.kinds.specs.declared.PType.TheVariants as ptype
use Rattle.kinds.specs.declared.Kind.{Kind}
use Rattle.kinds.specs.declared.Kind.TheVariants as kind
use Rattle.kinds.specs.declared.Nullability.{Nullability}
use Rattle.kinds.specs.declared.Nullability.TheVariants as nullability

abbrev pub ptype_number : PType → ℕ
ptype_number ptype.U8 = 0
ptype_number ptype.U16 = 1
ptype_number ptype.U32 = 2
ptype_number ptype.U64 = 3
ptype_number ptype.I8 = 4
ptype_number ptype.I16 = 5
ptype_number ptype.I32 = 6
ptype_number ptype.I64 = 7
ptype_number ptype.F16 = 8
ptype_number ptype.F32 = 9
ptype_number ptype.F64 = 10

abbrev pub ptype_word : PType → List ℕ
ptype_word ptype.U8 = codes "u8"
ptype_word ptype.U16 = codes "u16"
ptype_word ptype.U32 = codes "u32"
ptype_word ptype.U64 = codes "u64"
ptype_word ptype.I8 = codes "i8"
ptype_word ptype.I16 = codes "i16"
ptype_word ptype.I32 = codes "i32"
ptype_word ptype.I64 = codes "i64"
ptype_word ptype.F16 = codes "f16"
ptype_word ptype.F32 = codes "f32"
ptype_word ptype.F64 = codes "f64"

-- The word for a kind.
abbrev pub kind_word : Kind → List ℕ
kind_word kind.Bool = codes "bool"
kind_word kind.Utf8 = codes "utf8"
kind_word kind.Binary = codes "binary"
kind_word kind.List = codes "list"
kind_word kind.Struct = codes "struct"
kind_word (kind.Primitive p) = ptype_word p

-- The word for the null mark.
abbrev pub mark_word : Nullability → List ℕ
mark_word nullability.NonNullable = codes "req"
mark_word nullability.Nullable = codes "null"

-- The first of some values that a word stands for, where f gives the word of each.
abbrev pub named : {A : Type 0} → (A → List ℕ) → List ℕ → List A → Option A
named f w xs = find (λ x. bytes_eq w (f x)) xs

-- Every number type, every kind, and every null mark.
abbrev pub ptypes : List PType
ptypes = ptype.U8 ∷ ptype.U16 ∷ ptype.U32 ∷ ptype.U64 ∷ ptype.I8 ∷ ptype.I16 ∷ ptype.I32 ∷ ptype.I64
    ∷ ptype.F16 ∷ ptype.F32 ∷ ptype.F64 ∷ []

abbrev pub kinds : List Kind
kinds = kind.Bool ∷ kind.Utf8 ∷ kind.Binary ∷ kind.List ∷ kind.Struct
    ∷ kind.Primitive ptype.U8 ∷ kind.Primitive ptype.U16 ∷ kind.Primitive ptype.U32 ∷ kind.Primitive ptype.U64
    ∷ kind.Primitive ptype.I8 ∷ kind.Primitive ptype.I16 ∷ kind.Primitive ptype.I32 ∷ kind.Primitive ptype.I64
    ∷ kind.Primitive ptype.F16 ∷ kind.Primitive ptype.F32 ∷ kind.Primitive ptype.F64 ∷ []

abbrev pub marks : List Nullability
marks = nullability.NonNullable ∷ nullability.Nullable ∷ []

-- The kind, or the null mark, that a word stands for.
abbrev pub kind_named : List ℕ → Option Kind
kind_named w = named kind_word w kinds

abbrev pub mark_named : List ℕ → Option Nullability
mark_named w = named mark_word w marks

-- The answer for a word, where f gives the word of each of the values xs: the value that it stands for, or an error where it
-- stands for none.
pub record ReadsWord {A E : Type 0} (f : A → List ℕ) (xs : List A) (w : List ℕ) (r : Result A E) : Type 0 where
  pub value : result_ok r ≡ named f w xs
  pub named : MatchResult r (λ x. w ≡ f x) (λ _. (x : A) → w ≢ f x)
