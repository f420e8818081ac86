use Rattle.std.proofs.Common.{◌≡◌, ℕ, ◌<◌, ◌≤◌, List, ◌∷◌, length, sym, ap, ◌∙◌, arith}
use Rattle.tables.specs.Question.{numbers_in}
use Rattle.tables.proofs.Numbers.{first_number}
use Rattle.tables.proofs.segments.SegmentIdsIterIterator.next.Goals as goal

-- the first number, and the others
cut : (c : goal.After-from_le_bytes) → numbers_in c.args.self.now.bytes.now ≡ c.from_le_bytes.result ∷ numbers_in c.in_ok-first.others.now
cut c =
    let parts = c.in_ok-first.ensures.cases in
    let enough : 4 ≤ length c.args.self.now.bytes.now = omega (arith, parts.2) in
    first_number c.args.self.now.bytes.now c.in_ok-first.first.now c.in_ok-first.others.now parts.0 parts.1 enough ∙ ap (λ (n : ℕ). n ∷ numbers_in c.in_ok-first.others.now) (sym c.from_le_bytes.ensures)

pub returns-clause-steps : goal.returns-clause-steps
returns-clause-steps c = cut c

pub returns-clause-goes : goal.returns-clause-goes
returns-clause-goes c =
    let shorter : length (numbers_in c.in_ok-first.others.now) < length (numbers_in c.args.self.now.bytes.now) = fewer _ _ _ (cut c) in
    record { on = λ _. (tt, tt, shorter); keeps = tt; rests = λ _. tt }
  where
    fewer : (xs ys : List ℕ) (x : ℕ) → xs ≡ x ∷ ys → length ys < length xs
    fewer xs ys x e = rw e (omega arith)
