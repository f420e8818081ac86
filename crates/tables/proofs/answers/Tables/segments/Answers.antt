use Rattle.std.proofs.Common.{Ok, rules}
use Rattle.tables.proofs.Numbers.{tells_segments}
use Rattle.tables.proofs.answers.Tables.segments.Goals as goal

pub returns-in_err-table-clause-tree : goal.returns-in_err-table-clause-tree
returns-in_err-table-clause-tree g c = tells_segments c.args.self.now.bytes.now c.args.self.now.records.now c.args.number _ (search rules)

pub returns-in_err-bytes-clause-tree : goal.returns-in_err-bytes-clause-tree
returns-in_err-bytes-clause-tree g c = tells_segments c.args.self.now.bytes.now c.args.self.now.records.now c.args.number _ (search rules)

pub returns-clause-tree : goal.returns-clause-tree
returns-clause-tree g c = tells_segments c.args.self.now.bytes.now c.args.self.now.records.now c.args.number (Ok (record { bytes = c.in_ok-bytes.bytes })) (search rules)
