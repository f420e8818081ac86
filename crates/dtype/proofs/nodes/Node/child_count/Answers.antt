use Rattle.dtype.proofs.ChildLines.{count_left}
use Rattle.dtype.proofs.nodes.Node.child_count.Goals as goal

pub returns : goal.returns
returns c =
    let (xs, d, e) = c.count.ensures.ran in
    count_left c.args.self c.children.result c.children.ensures.depth c.children.ensures.lines c.count.result xs d e
