use Rattle.std.proofs.Common.{◌+◌, ◌≤◌, length, arith}
use Rattle.tables.proofs.Littles.{number_at_place}
use Rattle.tables.proofs.reads.Bytes.number.Goals as goal

pub returns-clause-value : goal.returns-clause-value
returns-clause-value g c =
    let inside : c.args.place + g.row.N ≤ length c.args.self.now.bytes.now = omega (arith, c.args.self.now.short, c.saturating_add.ensures, c.if-self-saturating_add.false) in
    number_at_place g.row.N c.args.self.now.bytes.now c.array.result c.args.place c.if-place-ne0.false inside c.array.ensures
