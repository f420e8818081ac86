use Rattle.std.proofs.Common.{◌≡◌, ◌+◌, length}
use Rattle.ids.specs.Value.{ids_of}
use Rattle.printing.proofs.labels.Labels.new.Given as goal

-- Each id that is not left to go over has a label.
abbrev pub invariant-loop-bytes : goal.invariant-loop-bytes
invariant-loop-bytes l = length l.known.items + length l.bytes-iterator ≡ length (ids_of l.list)
