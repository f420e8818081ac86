use Rattle.std.proofs.Common.{ℕ, ◌≤◌, List}
use Rattle.tables.specs.Format.{Layout}
use Rattle.tables.specs.Listing.{Holds}
use Rattle.tables.proofs.Siblings.{Climb}
use Rattle.tables.proofs.answers.Tables.child_over.Given as goal

abbrev pub invariant-loop-table : goal.invariant-loop-table
invariant-loop-table g l = (l.node ≤ l.below) × ((b : List ℕ) (T : Layout) (h : Holds b T l.self.records.now) → Climb b T l.self.records.now l.number l.below h l.node)

abbrev pub decreases-loop-table : goal.decreases-loop-table
decreases-loop-table g l = l.node
