use Rattle.std.proofs.Common.{rules}
use Rattle.tables.proofs.Numbers.{tells_metadata}
use Rattle.tables.proofs.answers.Tables.metadata.Goals as goal

pub returns-in_err-table-clause-tree : goal.returns-in_err-table-clause-tree
returns-in_err-table-clause-tree g c = tells_metadata c.args.self.now.bytes.now c.args.self.now.records.now c.args.number _ (search rules)

pub returns-clause-tree : goal.returns-clause-tree
returns-clause-tree g c = tells_metadata c.args.self.now.bytes.now c.args.self.now.records.now c.args.number _ (search rules)
