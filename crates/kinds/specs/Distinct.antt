-- The word of each value stands for that value, so no two have the same word.
use Rattle.std.specs.Prelude.{◌≡◌, Some, refl}
use Rattle.kinds.specs.declared.PType.{PType}
use Rattle.kinds.specs.declared.PType.TheVariants as ptype
use Rattle.kinds.specs.declared.Kind.{Kind}
use Rattle.kinds.specs.declared.Kind.TheVariants as kind
use Rattle.kinds.specs.declared.Nullability.{Nullability}
use Rattle.kinds.specs.declared.Nullability.TheVariants as nullability
use Rattle.kinds.specs.Word.{named, ptype_word, ptypes, kind_word, kind_named, mark_word, mark_named}

pub ptype_word_lem : (p : PType) → named ptype_word (ptype_word p) ptypes ≡ Some p
ptype_word_lem ptype.U8 = refl
ptype_word_lem ptype.U16 = refl
ptype_word_lem ptype.U32 = refl
ptype_word_lem ptype.U64 = refl
ptype_word_lem ptype.I8 = refl
ptype_word_lem ptype.I16 = refl
ptype_word_lem ptype.I32 = refl
ptype_word_lem ptype.I64 = refl
ptype_word_lem ptype.F16 = refl
ptype_word_lem ptype.F32 = refl
ptype_word_lem ptype.F64 = refl

pub kind_word_lem : (k : Kind) → kind_named (kind_word k) ≡ Some k
kind_word_lem kind.Bool = refl
kind_word_lem kind.Utf8 = refl
kind_word_lem kind.Binary = refl
kind_word_lem kind.List = refl
kind_word_lem kind.Struct = refl
kind_word_lem (kind.Primitive ptype.U8) = refl
kind_word_lem (kind.Primitive ptype.U16) = refl
kind_word_lem (kind.Primitive ptype.U32) = refl
kind_word_lem (kind.Primitive ptype.U64) = refl
kind_word_lem (kind.Primitive ptype.I8) = refl
kind_word_lem (kind.Primitive ptype.I16) = refl
kind_word_lem (kind.Primitive ptype.I32) = refl
kind_word_lem (kind.Primitive ptype.I64) = refl
kind_word_lem (kind.Primitive ptype.F16) = refl
kind_word_lem (kind.Primitive ptype.F32) = refl
kind_word_lem (kind.Primitive ptype.F64) = refl

pub mark_word_lem : (m : Nullability) → mark_named (mark_word m) ≡ Some m
mark_word_lem nullability.NonNullable = refl
mark_word_lem nullability.Nullable = refl
