use Rattle.std.proofs.Common.{◌∙◌}
use Rattle.dtype.proofs.Equal.{names_same, next_agrees, passed}
use Rattle.dtype.proofs.nodes.Node.+equals.Goals as goal

pub loop-child-preserved : goal.loop-child-preserved
loop-child-preserved t c = record {
  depth = c.past-left.ensures.depth ∙ c.loop-child.invariant.depth;
  same = next_agrees c.loop-child.left c.loop-child.others c.past-left.result c.past-others.result c.in-Some.child c.in-Some-first.twin
      (passed _ _ _ c.in-Some.ensures c.past-left.ensures.depth c.past-left.ensures.lines) (passed _ _ _ c.in-Some-first.ensures c.past-others.ensures.depth c.past-others.ensures.lines)
      (names_same c.in-Some.child.line.name.now c.in-Some-first.twin.line.name.now c.if-ne-2.ensures) (c.equals.ensures.0 c.if-not-equals.false) _ _ c.loop-child.invariant.same;
}
