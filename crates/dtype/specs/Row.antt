-- What a line of a dtype text says.
use Rattle.std.specs.Prelude.{ℕ, List, map, Option}
use Rattle.std.specs.Option.{option_map}
use Rattle.kinds.specs.declared.Kind.{Kind}
use Rattle.kinds.specs.declared.Nullability.{Nullability}
use Rattle.dtype.specs.declared.lines.Line.{Line}

pub record Row : Type 0 where
  pub depth : ℕ
  pub kind : Kind
  pub nullability : Nullability
  pub name : List ℕ

-- What a line that was read says.
abbrev pub row_of : Line → Row
row_of l = record { depth = l.depth; kind = l.head.kind; nullability = l.head.nullability; name = l.name.now }

abbrev pub rows_of : List Line → List Row
rows_of lines = map row_of lines

-- What is said where there may be no line.
abbrev pub said_by : Option Line → Option Row
said_by o = option_map row_of o
