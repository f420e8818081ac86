use Rattle.std.proofs.Common.{◌≡◌, take}
use Rattle.printing.specs.Greatest.{greatest}
use Rattle.printing.proofs.columns.greatest_of.Given as goal

-- The greatest numbers of the records so far.
abbrev pub invariant-loop-slot : goal.invariant-loop-slot
invariant-loop-slot l =
    (l.greatest.depth ≡ greatest (λ t. t.depth) (take l.slot-index l.records))
    × (l.greatest.place ≡ greatest (λ t. t.place) (take l.slot-index l.records))
    × (l.greatest.encoding ≡ greatest (λ t. t.encoding) (take l.slot-index l.records))
    × (l.greatest.rows ≡ greatest (λ t. t.rows) (take l.slot-index l.records))
