use Rattle.std.proofs.Common.{ap, ◌∙◌, rules, tests, unwrap_or}
use Rattle.std.proofs.lemmas.Iterator.{YieldsList-from_map, YieldsList-from_slice}
use Rattle.std.proofs.lemmas.Iterator.Consumers.{reduce_from_yields_List}
use Rattle.printing.specs.Greatest.{number_or}
use Rattle.printing.proofs.columns.max_of.Goals as goal

pub returns : goal.returns
returns g c = λ f acts.
    c.unwrap_or.ensures
    ∙ ap (λ o. unwrap_or o c.args.least) (reduce_from_yields_List _ c.map.result _ c.max.ensures.ran (YieldsList-from_map _ (number_or c.args.least f) (YieldsList-from_slice c.args.records.now cc) c.map.ensures.closure (λ x b q k. search (rules, tests))))
