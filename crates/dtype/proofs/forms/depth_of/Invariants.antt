use Rattle.std.proofs.Common.{◌≡◌, ◌≤◌, length, drop}
use Rattle.dtype.specs.Step.{depth_from}
use Rattle.dtype.proofs.forms.depth_of.Given as goal

-- The digits that are left decide.
abbrev pub invariant-loop-digit : goal.invariant-loop-digit
invariant-loop-digit l = (l.digit-index ≤ length l.digits) × (l.depth ≤ 16) × (depth_from 0 l.digits ≡ depth_from l.depth (drop l.digit-index l.digits))
