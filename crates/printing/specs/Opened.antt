-- Dtypes whose children are visited one by one.
use Rattle.std.specs.Prelude.{ℕ, ◌+◌, cond, Some, None, Option, ◌==◌, nat_lt}
use Rattle.dtype.specs.declared.lines.DTypeText.{DTypeText}
use Rattle.dtype.specs.declared.dtypes.DType.{DType}
use Rattle.dtype.specs.Tree.{children_of}
use Rattle.dtype.specs.Use.{meaning, of, count}
use Rattle.printing.specs.declared.open.Open.{Open}

-- How many children a dtype has.
abbrev pub child_count : DTypeText → DType → Option ℕ
child_count text dtype = of (λ t. count (children_of t)) (meaning text dtype)

-- A dtype of so many children before the first.
abbrev pub opened : DType → ℕ → Option ℕ → Option Open
opened dtype depth None = None
opened dtype depth (Some n) = cond (n == 0) None (Some (record { dtype = dtype; depth = depth; next = 0; count = n }))

-- It after one child more.
abbrev pub advanced : Open → Option Open
advanced o = cond (nat_lt (o.next + 1) o.count) (Some (record { dtype = o.dtype; depth = o.depth; next = o.next + 1; count = o.count })) None
