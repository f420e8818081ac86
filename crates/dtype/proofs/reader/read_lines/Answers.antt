use Rattle.std.proofs.Common.{◌∷◌, vec_items, sym, ap, ◌∙◌, inr, arith, rules, tests}
use Rattle.std.proofs.lemmas.Fn.{always_returns_same}
use Rattle.std.proofs.lemmas.Result.{err_from_is_err_and}
use Rattle.std.specs.Slice.Iter.{split_inclusive_rest}
use Rattle.dtype.specs.Form.{forms_of}
use Rattle.dtype.proofs.Breaks.{first_form, first_one_line}
use Rattle.dtype.proofs.Checking.{form_more}
use Rattle.dtype.proofs.Reading.{not_in_form, line_refused, line_passed}
use Rattle.dtype.proofs.reader.read_lines.Goals as goal

pub returns-in_default : goal.returns-in_default
returns-in_default c =
    inr (not_in_form _ (vec_items c.loop-bytes.lines) _ c.loop-bytes.invariant.fault (forms_of (split_inclusive_rest c.next.new.self)) _
    (first_form _ c.loop-bytes.bytes-iterator c.next.new.self c.in-Some.bytes (always_returns_same _ _ _ (λ a r f k. search (rules, tests))) c.in-Some.ensures.steps
    ∙ ap (λ x. x ∷ forms_of (split_inclusive_rest c.next.new.self)) (sym (c.in_default.ensures (first_one_line _ c.loop-bytes.bytes-iterator c.next.new.self c.in-Some.bytes (always_returns_same _ _ _ (λ a r f k. search (rules, tests))) c.in-Some.ensures.steps))))
    (omega (arith, c.loop-bytes.lines.ok.0)))

pub returns-in_err-check_line : goal.returns-in_err-check_line
returns-in_err-check_line c =
    let p = err_from_is_err_and c.from_residual.result c.from_residual.ensures.1 in
    rw (p.1, p.2) (inr (line_refused _ (vec_items c.loop-bytes.lines) _ c.loop-bytes.invariant.fault c.in-Some-read.line (forms_of (split_inclusive_rest c.next.new.self))
    (first_form _ c.loop-bytes.bytes-iterator c.next.new.self c.in-Some.bytes (always_returns_same _ _ _ (λ a r f k. search (rules, tests))) c.in-Some.ensures.steps
    ∙ ap (λ x. x ∷ forms_of (split_inclusive_rest c.next.new.self)) (sym (c.in-Some-read.ensures (first_one_line _ c.loop-bytes.bytes-iterator c.next.new.self c.in-Some.bytes (always_returns_same _ _ _ (λ a r f k. search (rules, tests))) c.in-Some.ensures.steps))))
    c.deref.result.now c.deref.ensures.value c.in_err-check_line.field-0.0 c.in_err-check_line.ensures))

pub loop-bytes-preserved : goal.loop-bytes-preserved
loop-bytes-preserved c =
    let f = first_form _ c.loop-bytes.bytes-iterator c.next.new.self c.in-Some.bytes (always_returns_same _ _ _ (λ a r f k. search (rules, tests))) c.in-Some.ensures.steps
    ∙ ap (λ x. x ∷ forms_of (split_inclusive_rest c.next.new.self)) (sym (c.in-Some-read.ensures (first_one_line _ c.loop-bytes.bytes-iterator c.next.new.self c.in-Some.bytes (always_returns_same _ _ _ (λ a r f k. search (rules, tests))) c.in-Some.ensures.steps))) in
    record {
      lines = form_more _ _ _ (vec_items c.loop-bytes.lines) _ c.in-Some-read.line c.loop-bytes.invariant.lines f c.in_ok-push.ensures.items;
      fault = line_passed _ (vec_items c.loop-bytes.lines) _ c.loop-bytes.invariant.fault c.in-Some-read.line (forms_of (split_inclusive_rest c.next.new.self)) f c.deref.result.now c.deref.ensures.value _ c.in_ok-push.ensures.items c.in_ok-check_line.ensures;
    }
