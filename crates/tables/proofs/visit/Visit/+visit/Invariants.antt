use Rattle.std.proofs.Common.{◌≡◌, ◌+◌, ◌*◌, ◌≤◌, List, ◌++◌, map, length, take}
use Rattle.tables.specs.declared.records.Table.{Table}
use Rattle.tables.specs.Step.{Keeps, child}
use Rattle.tables.specs.Visit.{fresh}
use Rattle.tables.proofs.Visiting.{Left}
use Rattle.tables.proofs.visit.Visit.+visit.Given as goal

-- The levels that are left, and the steps within a level.
abbrev pub decreases-table : goal.decreases-table
decreases-table g l = 3 * l.levels

abbrev pub decreases-below : goal.decreases-below
decreases-below g l = 3 * l.levels + 2

abbrev pub decreases-children : goal.decreases-children
decreases-children g l = 3 * l.levels + 1

-- The tables of the children that are visited are recorded, and the other children decide.
abbrev pub invariant-children-loop-index : goal.invariant-children-loop-index
invariant-children-loop-index g l = record {
  same : Keeps l.initial.self l.self;
  within : l.self.count ≤ length l.self.records.now;
  found : (rows : List Table) × (l.self.count ≡ l.initial.self.count + length rows) × (take l.self.count l.self.records.now ≡ take l.initial.self.count l.initial.self.records.now ++ map fresh rows)
      × Left (child l.levels l.initial.self.bytes.bytes.now l.initial.self.most (length l.initial.self.records.now) l.parent l.depth) l.initial.self.bytes.bytes.now l.offsets.from l.offsets.count l.initial.self.count l.index rows;
}
