use Rattle.std.proofs.Common.{length, rules}
use Rattle.tables.proofs.Accepted.{verified}
use Rattle.tables.proofs.verifier.verify.Goals as goal

pub returns-in-Ok-clause-tree : goal.returns-in-Ok-clause-tree
returns-in-Ok-clause-tree g c = verified g.row.M.Denot c.args.limits c.args.bytes.now (length c.args.records.now) _ c.clear_from.new.records c.in-Ok.ensures.value (search rules)

pub returns-in-Err-clause-tree : goal.returns-in-Err-clause-tree
returns-in-Err-clause-tree g c = verified g.row.M.Denot c.args.limits c.args.bytes.now (length c.args.records.now) _ c.clear_from-in-Err.new.records c.in-Err.ensures.value (search rules)
