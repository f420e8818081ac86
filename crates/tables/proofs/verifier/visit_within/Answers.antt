use Rattle.std.proofs.Common.{length, rules, arith}
use Rattle.tables.specs.Listing.{InRange}
use Rattle.tables.proofs.Accepted.{whole}
use Rattle.tables.proofs.verifier.visit_within.Goals as goal

pub returns-clause-value : goal.returns-clause-value
returns-clause-value g c =
    let within : InRange c.args.limits c.args.bytes.now = (omega arith, omega arith, omega arith, omega arith, omega arith) in
    (whole c.args.limits c.args.bytes.now (length c.args.records.now) c.children.new.self.count _ _ _ within c.in_ok-children.ensures.adds).0

pub returns-clause-kept : goal.returns-clause-kept
returns-clause-kept g c =
    let within : InRange c.args.limits c.args.bytes.now = (omega arith, omega arith, omega arith, omega arith, omega arith) in
    let kept = (whole c.args.limits c.args.bytes.now (length c.args.records.now) c.children.new.self.count _ _ _ within c.in_ok-children.ensures.adds).1 in
    search (rules, kept)
