use Rattle.std.proofs.Common.{◌≡◌, ◌++◌, map, reverse, Some, vec_items}
use Rattle.std.specs.Slice.Iter.{split_inclusive_rest}
use Rattle.dtype.specs.Row.{rows_of}
use Rattle.dtype.specs.Form.{forms_of}
use Rattle.dtype.specs.Order.{first_fault}
use Rattle.dtype.proofs.Checking.{pending}
use Rattle.dtype.proofs.reader.read_lines.Given as goal

-- The lines so far are in form, and what is wrong with the text is decided by them and the rest.
abbrev pub invariant-loop-bytes : goal.invariant-loop-bytes
invariant-loop-bytes l = record {
  lines : forms_of l.text ≡ map Some (rows_of (vec_items l.lines)) ++ forms_of (split_inclusive_rest l.bytes-iterator);
  fault : first_fault (forms_of l.text) ≡ pending (reverse (rows_of (vec_items l.lines))) (forms_of (split_inclusive_rest l.bytes-iterator));
}
