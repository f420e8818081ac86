use Rattle.std.proofs.Common.{◌≡◌, [], vec_items, slice_index_or, ap, ◌∙◌, rules, tests}
use Rattle.std.proofs.lemmas.List.{nil_from_length}
use Rattle.tables.specs.declared.records.Table.{Table}
use Rattle.printing.specs.Label.{label_at}
use Rattle.printing.proofs.Maxima.{greatest_of_map, nothing}
use Rattle.printing.proofs.labels.Labels.widest.Goals as goal

pub returns-then-self-eq0 : goal.returns-then-self-eq0
returns-then-self-eq0 c =
    let none : vec_items c.args.self.now.known ≡ [] = nil_from_length _ (search (rules, tests)) in
    nothing _ (λ (t : Table). ap (λ ls. (slice_index_or ls t.encoding c.args.self.now.unknown).width) none ∙ c.if-self-eq0.true) c.args.records.now

pub returns : goal.returns
returns c =
    let width = λ (t : Table). (label_at c.args.self.now t.encoding).width in
    c.max_of.ensures width (λ x r q k. search (rules, tests)) ∙ greatest_of_map width c.args.records.now
