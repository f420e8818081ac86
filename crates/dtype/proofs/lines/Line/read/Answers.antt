use Rattle.std.proofs.Common.{[], ◌∷◌, ◌++◌, sym, ap, ◌∙◌}
use Rattle.dtype.proofs.Breaks.{form_closed}
use Rattle.dtype.proofs.lines.Line.read.Goals as goal

pub returns : goal.returns
returns c = λ one. c.of_fields.ensures ∙ sym (form_closed c.args.bytes.now c.in_ok-end.fields.now one (c.in_ok-end.ensures.cases.0 ∙ ap (λ x. c.in_ok-end.fields.now ++ (x ∷ [])) c.if-end-ne-NEWLINE.false))
