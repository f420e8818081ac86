use Rattle.std.proofs.Common.{refl, rules, ◌∙◌, arith}
use Rattle.std.proofs.lemmas.Iterator.{YieldsList-from_range}
use Rattle.std.proofs.lemmas.Iterator.Consumers.{fold_from_yields_List}
use Rattle.tables_c.specs.Walk.{plus, table_sum}
use Rattle.tables_c.proofs.Sums.{fold_range}
use Rattle.tables_c.proofs.sum_tables.Goals as goal

pub returns : goal.returns
returns c =
    let add = table_sum c.args.tables.now.bytes.now c.args.tables.now.records.now in
    fold_from_yields_List _ (λ a k. plus a (add k)) 0 _ c.fold.ensures.ran (YieldsList-from_range 0 c.args.count c.args.count refl (omega arith)) (λ a x b q k. search rules)
    ∙ fold_range add c.args.count
