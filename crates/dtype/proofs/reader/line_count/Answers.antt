use Rattle.std.proofs.Common.{length, ap, ◌∙◌, rules, tests}
use Rattle.std.proofs.lemmas.Fn.{always_returns_same}
use Rattle.dtype.specs.Form.{lines_of}
use Rattle.dtype.proofs.Breaks.{pieces_count}
use Rattle.dtype.proofs.reader.line_count.Goals as goal

pub returns : goal.returns
returns c =
    let (xs, d, e) = c.count.ensures.ran in
    e ∙ pieces_count _ c.split_inclusive.result xs (λ f. always_returns_same _ _ f (λ a r f' k. search (rules, tests))) d ∙ ap (λ r. length (lines_of r)) c.split_inclusive.ensures.rest
