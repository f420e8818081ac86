use Rattle.std.proofs.Common.{refl}
use Rattle.tables.proofs.Littles.{little_zero}
use Rattle.tables.proofs.reads.RawTable.scalar.Goals as goal

pub returns-in-0 : goal.returns-in-0
returns-in-0 g c = rw (← c.entry.ensures.value, c.in-0.is, little_zero g.row.N g.row.N 0) refl
