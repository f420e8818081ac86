use Rattle.std.proofs.Common.{◌≡◌, ◌≤◌, ◌-◌, length, take}
use Rattle.replay.specs.Part.{repeated_from}
use Rattle.replay.proofs.parts.repeat_from.Given as goal

-- What stood stands as often as the loop has come to, and first as it stood.
abbrev pub invariant-loop-stands : goal.invariant-loop-stands
invariant-loop-stands l = record {
  grown : l.bytes.items ≡ repeated_from l.from l.stands l.fn.bytes.items;
  begins : take (length l.fn.bytes.items) l.bytes.items ≡ l.fn.bytes.items;
  once : 1 ≤ l.stands;
  most : l.stands ≤ l.times;
}

abbrev pub decreases-loop-stands : goal.decreases-loop-stands
decreases-loop-stands l = l.times - l.stands
