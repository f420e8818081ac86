use Rattle.std.proofs.Common.{arith, rules}
use Rattle.dtype.proofs.Meanings.{child_before, the_child}
use Rattle.dtype.proofs.dtypes.DType.child.Goals as goal

pub overflow_sub-result : goal.overflow_sub-result
overflow_sub-result c =
    child_before c.args.text.now c.len.result (omega (arith, c.args.text.now.lines.ok.0)) c.args.self c.in_ok-node.node c.in_ok-node.ensures c.args.k c.in_ok-child.child c.in_ok-child.ensures

pub returns : goal.returns
returns c =
    let (t, named, meant, line) = the_child c.args.text.now c.len.result (omega (arith, c.args.text.now.lines.ok.0)) c.args.self c.in_ok-node.node c.in_ok-node.ensures c.args.k c.in_ok-child.child c.in_ok-child.ensures in
    (t, search (rules, named), meant, line)
