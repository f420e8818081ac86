use Rattle.std.proofs.Common.{◌≡◌, ◌-◌, length}
use Rattle.dtype.specs.Tree.{children_of}
use Rattle.dtype.specs.Node.{tree_in, children_left}
use Rattle.dtype.proofs.Equal.{Left}
use Rattle.dtype.proofs.nodes.Node.+equals.Given as goal

-- The depth that remains.
abbrev pub decreases-equals : goal.decreases-equals
decreases-equals l = 255 - l.self.line.depth

-- The children that are left decide.
abbrev pub invariant-loop-child : goal.invariant-loop-child
invariant-loop-child l = record {
  depth : l.left.depth ≡ l.fn.self.line.depth;
  same : Left (children_of (tree_in l.fn.self)) (children_of (tree_in l.fn.other)) (children_left l.left) (children_left l.others);
}

-- The lines that are left.
abbrev pub decreases-loop-child : goal.decreases-loop-child
decreases-loop-child l = length l.left.lines.now
