use Rattle.std.proofs.Common.{◌≡◌, length, refl, rules}
use Rattle.tables_c.specs.Tell.{told_of}
use Rattle.tables_c.proofs.Sums.{last_same}
use Rattle.tables_c.proofs.verify_often.Goals as goal

pub returns : goal.returns
returns c =
    let room = length c.args.records.now in
    last_same _ (λ p. (p.0.now ≡ c.args.bytes.now) × (length p.1.now ≡ room)) (told_of c.args.bytes.now room) (λ p r q i s. search rules) c.args.rounds c.repeat.result _ _ c.repeat.ensures.0 (refl, refl) c.repeat.ensures.2 c.repeat.ensures.3 c.repeat.ensures.4
