use Rattle.std.proofs.Common.{◌≤◌, length, ap, ◌∙◌, arith}
use Rattle.std.proofs.lemmas.List.{take_all}
use Rattle.printing.specs.Greatest.{greatest}
use Rattle.printing.proofs.Maxima.{more, same}
use Rattle.printing.proofs.columns.greatest_of.Goals as goal
use Rattle.printing.proofs.columns.greatest_of.Goals.{in-Some, in_default}

pub loop-slot-preserved : goal.loop-slot-preserved
loop-slot-preserved c =
    let records = c.args.records.now in
    let i = c.loop-slot.slot-index in
    let lt = c.loop-slot-test.true in
    let inv = c.loop-slot.invariant in
    elim c.match-slot.branch [
      | in-Some w ↦ (
        ap (λ g. g.depth) w.greatest-is ∙ w.with-greatest.ensures.depth ∙ more (λ t. t.depth) records i _ _ lt w.in-Some.is inv.0,
        ap (λ g. g.place) w.greatest-is ∙ w.with-greatest.ensures.place ∙ more (λ t. t.place) records i _ _ lt w.in-Some.is inv.1,
        ap (λ g. g.encoding) w.greatest-is ∙ w.with-greatest.ensures.encoding ∙ more (λ t. t.encoding) records i _ _ lt w.in-Some.is inv.2,
        ap (λ g. g.rows) w.greatest-is ∙ w.with-greatest.ensures.rows ∙ more (λ t. t.rows) records i _ _ lt w.in-Some.is inv.3,
      )
      | in_default w ↦ (
        ap (λ g. g.depth) w.greatest-is ∙ same (λ t. t.depth) records i _ lt w.in_default.is inv.0,
        ap (λ g. g.place) w.greatest-is ∙ same (λ t. t.place) records i _ lt w.in_default.is inv.1,
        ap (λ g. g.encoding) w.greatest-is ∙ same (λ t. t.encoding) records i _ lt w.in_default.is inv.2,
        ap (λ g. g.rows) w.greatest-is ∙ same (λ t. t.rows) records i _ lt w.in_default.is inv.3,
      )
    ]

pub returns : goal.returns
returns c =
    let all : length c.args.records.now ≤ c.loop-slot.slot-index = omega arith in
    let e = take_all c.loop-slot.slot-index c.args.records.now all in
    record {
      depth = c.loop-slot.invariant.0 ∙ ap (greatest (λ t. t.depth)) e;
      place = c.loop-slot.invariant.1 ∙ ap (greatest (λ t. t.place)) e;
      encoding = c.loop-slot.invariant.2 ∙ ap (greatest (λ t. t.encoding)) e;
      rows = c.loop-slot.invariant.3 ∙ ap (greatest (λ t. t.rows)) e;
    }
