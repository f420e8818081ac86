use Rattle.dtype.proofs.Meanings.{node_of_line}
use Rattle.dtype.proofs.lines.DTypeText.node.Goals as goal

pub returns-in-Line : goal.returns-in-Line
returns-in-Line c = node_of_line c.args.self.now c.args.dtype c.in-Line.number c.node_at.result c.in-Line.is c.node_at.ensures
