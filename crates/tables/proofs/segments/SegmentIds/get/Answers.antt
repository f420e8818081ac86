use Rattle.std.proofs.Common.{◌≡◌, ℕ, ◌/◌, ◌<◌, length, get_or, Some, List, ap, ◌∙◌, subst, arith}
use Rattle.tables.proofs.Numbers.{number_is}
use Rattle.tables.proofs.segments.SegmentIds.get.Goals as goal

pub returns : goal.returns
returns c =
    let b = c.args.self.now.bytes.now in
    let at = c.in_ok-number.ensures.lookup in
    let lt : c.args.k < length b / 4 = omega (arith, at.3.0, c.as_chunks.ensures.front_len) in
    let here = subst (λ (chunks : List (List ℕ)). c.in_ok-number.number.now ≡ get_or chunks c.args.k c.in_ok-number.number.now) c.as_chunks.ensures.front at.1 in
    ap (λ (n : ℕ). Some n) c.from_le_bytes.ensures ∙ number_is b c.args.k c.in_ok-number.number.now lt here
