use Rattle.std.proofs.Common.{ltb, rules, tests}
use Rattle.std.proofs.lemmas.Iterator.Adapters.{YieldsList-from_rev_slice}
use Rattle.std.proofs.lemmas.Iterator.Search.{find_from_yields_List}
use Rattle.dtype.specs.declared.lines.Line.{Line}
use Rattle.dtype.proofs.Checking.{parent_row}
use Rattle.dtype.proofs.order.parent_of.Goals as goal

pub returns : goal.returns
returns c =
    parent_row c.args.depth c.args.earlier.now c.find.result
    (find_from_yields_List (λ (l : Line). ltb l.depth c.args.depth) _ _ c.find.result c.find.ensures.ran (YieldsList-from_rev_slice c.args.earlier.now cc) (λ x b q k. search (rules, tests)))
