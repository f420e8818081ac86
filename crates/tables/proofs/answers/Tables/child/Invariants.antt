use Rattle.std.proofs.Common.{ℕ, ◌-◌, ◌^◌, ◌<◌, List}
use Rattle.tables.specs.Format.{Layout}
use Rattle.tables.specs.Listing.{Holds}
use Rattle.tables.proofs.Halving.{Between}
use Rattle.tables.proofs.answers.Tables.child.Given as goal

abbrev pub invariant-loop-low : goal.invariant-loop-low
invariant-loop-low g l = (l.high < 2 ^ 34) × ((b : List ℕ) (T : Layout) (h : Holds b T l.self.records.now) → Between b T l.self.records.now l.number l.k h l.low l.high)

abbrev pub decreases-loop-low : goal.decreases-loop-low
decreases-loop-low g l = l.high - l.low
