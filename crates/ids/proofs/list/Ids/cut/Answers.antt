use Rattle.ids.proofs.Values.{shorter}
use Rattle.ids.proofs.list.Ids.cut.Goals as goal

pub returns-clause-ids : goal.returns-clause-ids
returns-clause-ids c = shorter c.args.self.now c.args.last _ c.saturating_sub-self.ensures
