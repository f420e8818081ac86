use Rattle.std.proofs.Common.{drop, ltb, ap, ◌∙◌, rules, tests}
use Rattle.std.proofs.lemmas.List.{take_rest}
use Rattle.std.proofs.lemmas.List.Folds.{length-prefix_len}
use Rattle.std.proofs.lemmas.Iterator.{YieldsList-from_slice}
use Rattle.std.proofs.lemmas.Iterator.Consumers.{count_from_yields_List}
use Rattle.std.proofs.lemmas.Iterator.Search.{YieldsList-from_take_while}
use Rattle.dtype.specs.declared.lines.Line.{Line}
use Rattle.dtype.proofs.ChildLines.{prefix_rows}
use Rattle.dtype.proofs.nodes.Node.after.Goals as goal

pub returns : goal.returns
returns c =
    take_rest c.args.self.later.now c.count-below.result
    ∙ ap (λ n. drop n c.args.self.later.now)
    (count_from_yields_List c.take_while.result c.count-below.result c.count-below.ensures.ran
    (YieldsList-from_take_while _ (λ (l : Line). ltb c.args.self.line.depth l.depth) (YieldsList-from_slice c.args.self.later.now cc) c.take_while.ensures.closure c.take_while.ensures.done (λ x b q k. search (rules, tests)))
    ∙ length-prefix_len (λ (l : Line). ltb c.args.self.line.depth l.depth) c.args.self.later.now
    ∙ prefix_rows c.args.self.line.depth c.args.self.later.now)
