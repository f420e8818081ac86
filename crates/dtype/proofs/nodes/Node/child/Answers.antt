use Rattle.dtype.proofs.ChildLines.{kth_child}
use Rattle.dtype.proofs.nodes.Node.child.Goals as goal

pub returns : goal.returns
returns c =
    let (xs, y, h) = c.nth.ensures.ran in
    kth_child c.args.self c.children.result c.children.ensures.depth c.children.ensures.lines c.args.k xs c.nth.result c.nth.new.self y h
