use Rattle.std.proofs.Common.{rules, ◌∙◌}
use Rattle.std.proofs.lemmas.Iterator.Consumers.{YieldsList-from_first, fold_from_yields_List}
use Rattle.tables.specs.declared.segments.SegmentIdsIter.{SegmentIdsIter}
use Rattle.tables.specs.Question.{numbers_in}
use Rattle.tables_c.specs.Walk.{plus}
use Rattle.tables_c.proofs.Sums.{fold_numbers}
use Rattle.tables_c.proofs.sum_numbers.Goals as goal

pub returns : goal.returns
returns c =
    let bytes = c.args.segments.bytes.now in
    fold_from_yields_List _ plus 0 _ c.fold.ensures.ran (YieldsList-from_first (λ n. n) (λ (s : SegmentIdsIter). numbers_in s.bytes.now) (numbers_in bytes) (cc)) (λ a x b q k. search rules)
    ∙ fold_numbers bytes
