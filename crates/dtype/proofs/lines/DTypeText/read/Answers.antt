use Rattle.std.proofs.Common.{vec_items, sym, ◌∙◌, inr}
use Rattle.std.proofs.lemmas.Result.{err_from_is_err_and}
use Rattle.dtype.specs.declared.faults.Fault.TheVariants as fault
use Rattle.dtype.proofs.Outcomes.{in_limits, past_limits, none_printed, fault_of_lines}
use Rattle.dtype.proofs.Whole.{holds, kept}
use Rattle.dtype.proofs.lines.DTypeText.read.Goals as goal

pub returns-then-not-is_within_limits-clause-tree : goal.returns-then-not-is_within_limits-clause-tree
returns-then-not-is_within_limits-clause-tree c = none_printed c.args.text.now fault.Size (inr (past_limits c.args.text.now (sym c.if-not-is_within_limits.ensures)))

pub returns-in_err-lines : goal.returns-in_err-lines
returns-in_err-lines c =
    let p = err_from_is_err_and c.from_residual.result c.from_residual.ensures.1 in
    let f = fault_of_lines c.args.text.now c.in_err-lines.field-0.0 (sym c.if-not-is_within_limits.ensures) c.in_err-lines.ensures in
    rw (p.1, p.2) (record { value = f; tree = none_printed c.args.text.now c.in_err-lines.field-0.0 f })

pub returns : goal.returns
returns c =
    let e = in_limits c.args.text.now (sym c.if-not-is_within_limits.ensures) ∙ c.in_ok-lines.ensures.1 in
    let (t, h) = holds c.args.text.now (vec_items c.in_ok-lines.lines) e c.in_ok-lines.ensures.0 in
    record { value = (kept c.args.text.now (vec_items c.in_ok-lines.lines) t h, e); tree = (t, h) }
