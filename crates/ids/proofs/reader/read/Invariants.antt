use Rattle.std.proofs.Common.{◌≡◌, true}
use Rattle.std.specs.Slice.Iter.{split_inclusive_rest}
use Rattle.ids.specs.Value.{ids_of, is_open}
use Rattle.ids.specs.Lines.{lines_of, read_lines, ids_in}
use Rattle.ids.proofs.reader.read.Given as goal

-- What is left of the text gives the answer.
abbrev pub invariant-loop-line : goal.invariant-loop-line
invariant-loop-line l = record {
  answer : read_lines (ids_of l.ids) (lines_of (split_inclusive_rest l.line-iterator)) ≡ ids_in l.text;
  state : is_open l.ids ≡ true;
}
