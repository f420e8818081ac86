use Rattle.std.proofs.Common.{◌≡◌, refl, rules, ◌∙◌}
use Rattle.tables_c.specs.Walk.{tables_sum}
use Rattle.tables_c.proofs.Sums.{last_same}
use Rattle.tables_c.proofs.walk_often.Goals as goal

pub returns-in-Ok : goal.returns-in-Ok
returns-in-Ok c =
    last_same _ (λ p. (p.0.now.bytes.now ≡ c.args.bytes.now) × (p.0.now.records.now ≡ c.verify.new.records) × (p.1.now ≡ c.in-Ok.count)) (tables_sum c.args.bytes.now c.verify.new.records c.in-Ok.count) (λ p r q i s. search rules) c.args.rounds c.repeat.result _ _ c.repeat.ensures.0 (refl, refl, refl) c.repeat.ensures.2 c.repeat.ensures.3 c.repeat.ensures.4
    ∙ search rules
