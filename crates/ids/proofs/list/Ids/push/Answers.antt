use Rattle.std.proofs.Common.{◌<◌, length, arith}
use Rattle.ids.proofs.Values.{count, grown}
use Rattle.ids.proofs.list.Ids.push.Goals as goal

pub returns-clause-ids : goal.returns-clause-ids
returns-clause-ids c =
    let h : c.args.self.now.count < length c.args.self.now.room = omega (arith, count c.args.self.now) in
    rw c.from-place.ensures (grown c.args.self.now.room c.args.self.now.count c.args.id h)
