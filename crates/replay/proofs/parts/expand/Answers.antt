use Rattle.std.proofs.Common.{[], ap, ◌∙◌}
use Rattle.std.specs.Str.{is_utf8}
use Rattle.std.proofs.lemmas.Str.{IsUtf8-nil, IsUtf8-from_is_utf8, is_utf8-from_IsUtf8}
use Rattle.replay.proofs.parts.expand.Goals as goal

pub loop-part-init : goal.loop-part-init
loop-part-init c =
    let none = c.new-bytes.ensures.items in
    record { written = none; utf8 = ap is_utf8 none ∙ is_utf8-from_IsUtf8 [] IsUtf8-nil }

pub unwrap-requires : goal.unwrap-requires
unwrap-requires c = c.from_utf8.ensures.succeeds (IsUtf8-from_is_utf8 _ c.loop-part.invariant.utf8)
