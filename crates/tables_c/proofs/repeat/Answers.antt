use Rattle.std.proofs.Common.{ℕ, ◌+◌, [], ◌∷◌, ◌++◌, Some, sym, ap, ◌∙◌, rules, of_calls}
use Rattle.std.proofs.lemmas.List.{length_push}
use Rattle.std.proofs.lemmas.Fn.{FoldsTo-push}
use Rattle.tables_c.proofs.Sums.{last_push}
use Rattle.tables_c.proofs.repeat.Goals as goal

pub loop-preserved : goal.loop-preserved
loop-preserved g c =
    let given = c.loop.invariant.1.0 in
    let x = c.round-last.result in
    let step : goal.F-step g c.loop.round x c.round-last.new.self = search (rules, of_calls) in (
      search (rules, of_calls),
      (
        given ++ x ∷ [],
        FoldsTo-push (goal.F-step g) c.args.round given c.loop.round x c.round-last.new.self c.loop.invariant.1.1 step,
        length_push given x ∙ ap (λ (n : ℕ). n + 1) c.loop.invariant.1.2,
        sym (last_push given (Some 0) x),
      ),
    )
