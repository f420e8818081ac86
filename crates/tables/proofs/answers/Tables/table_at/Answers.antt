use Rattle.std.proofs.Common.{rules}
use Rattle.tables.proofs.Numbers.{tells_of}
use Rattle.tables.proofs.answers.Tables.table_at.Goals as goal

pub returns-in-Some-Some-clause-tree : goal.returns-in-Some-Some-clause-tree
returns-in-Some-Some-clause-tree g c = tells_of c.args.self.now.records.now c.args.number _ (search rules)

pub returns-in_default-clause-tree : goal.returns-in_default-clause-tree
returns-in_default-clause-tree g c = tells_of c.args.self.now.records.now c.args.number _ (search rules)

pub returns-in_default-2-clause-tree : goal.returns-in_default-2-clause-tree
returns-in_default-2-clause-tree g c = tells_of c.args.self.now.records.now c.args.number _ (search rules)
