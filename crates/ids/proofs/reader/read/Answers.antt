use Rattle.std.proofs.Common.{◌≡◌, ◌<◌, eqb, length, Ok, Err, sym, refl, ap, ◌∙◌, rules, tests}
use Rattle.std.specs.Slice.Iter.{split_inclusive_rest}
use Rattle.std.proofs.lemmas.List.Sorted.{answers_always}
use Rattle.std.proofs.lemmas.Result.{err_from_is_err_and}
use Rattle.ids.specs.Value.{ids_of}
use Rattle.ids.specs.Lines.{first_line, after_line, ids_in}
use Rattle.ids.proofs.Pieces.{rest, line}
use Rattle.ids.proofs.Reading.{read_on, read_stops, read_ends}
use Rattle.ids.proofs.Law.{refused, lawful}
use Rattle.ids.proofs.reader.read.Goals as goal
use Rattle.ids.proofs.reader.read.Goals.{After-add_line}

-- The line that is added is the first of what is left, and the others are left.
added_line : (c : After-add_line) → let text = split_inclusive_rest c.loop-line.line-iterator in
    (0 < length text) × (c.unwrap_or.result.now ≡ first_line text) × (split_inclusive_rest c.next.new.self ≡ after_line text)
added_line c =
    let step = c.in-Some.ensures.steps in
    let cut = step.1.2 (λ b. eqb b 10) (answers_always _ _ _ (λ f a r q h. search (rules, tests))) in (
      step.2,
      ap (λ z. z.now) c.unwrap_or.ensures ∙ line _ _ _ _ step.0 step.1.1 step.2 cut.1 c.strip_suffix.result c.in-Some.line refl c.strip_suffix.ensures.cases,
      rest _ _ _ _ step.0 step.1.1 step.2 cut.1,
    )

pub loop-line-preserved : goal.loop-line-preserved
loop-line-preserved c =
    let a = added_line (goal.at.loop-line-preserved c).After-add_line in
    let e = c.in_ok-add_line.ensures in record {
      answer = read_on _ _ _ _ _ a.0 c.loop-line.invariant.state a.1 a.2 _ _ e.answer e.ids ∙ c.loop-line.invariant.answer;
      state = e.state ∙ c.loop-line.invariant.state;
    }

pub returns-in_err-add_line : goal.returns-in_err-add_line
returns-in_err-add_line c =
    let a = added_line (goal.at.returns-in_err-add_line c).After-add_line in
    let e : ids_in c.args.text.now ≡ Err c.in_err-add_line.field-0.0 =
    sym c.loop-line.invariant.answer ∙ read_stops _ _ _ _ _ a.0 c.loop-line.invariant.state a.1 a.2 _ c.in_err-add_line.ensures.answer in
    let p = err_from_is_err_and c.from_residual.result c.from_residual.ensures.1 in
    let v = refused c.args.text.now c.from_residual.result _ _ e p.1 p.2 in
    record { value = v; law = lawful c.args.text.now c.from_residual.result v }

pub returns-clause-law : goal.returns-clause-law
returns-clause-law c =
    let e : ids_in c.args.text.now ≡ Ok (ids_of c.loop-line.ids) = sym c.loop-line.invariant.answer ∙ read_ends _ _ c.in-None.ensures.steps.0 in
    lawful c.args.text.now (Ok c.loop-line.ids) (e, c.loop-line.invariant.state)
