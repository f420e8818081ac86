use Rattle.std.proofs.Common.{◌≡◌, take, true}
use Rattle.std.specs.Str.{is_utf8}
use Rattle.replay.specs.Part.{expanded}
use Rattle.replay.proofs.parts.expand.Given as goal

-- The parts so far are written, and what they write is UTF-8.
abbrev pub invariant-loop-part : goal.invariant-loop-part
invariant-loop-part l = record {
  written : l.bytes.items ≡ expanded (take l.part-index l.parts);
  utf8 : is_utf8 l.bytes.items ≡ true;
}
