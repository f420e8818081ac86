use Rattle.std.proofs.Common.{ℕ, ◌+◌, ◌-◌, ◌/◌, Err, sym, ap, ◌∙◌, subst, arith}
use Rattle.std.proofs.lemmas.Result.{err_from_is_err_and}
use Rattle.tables.specs.declared.faults.Missing.{Missing}
use Rattle.tables.proofs.Halving.{Between, no_table_there, no_such_child, at_first, not_empty, met_none, row_missing, hit, lower_half, upper_half}
use Rattle.tables.proofs.Kinship.{child_is}
use Rattle.tables.proofs.answers.Tables.child.Goals as goal

pub returns-in_err-table : goal.returns-in_err-table
returns-in_err-table g c =
    let p = err_from_is_err_and c.from_residual.result c.from_residual.ensures.1 in
    λ b T h. child_is T c.args.number c.args.k _ (p.1 ∙ ap (λ (q : Missing). Err q) p.2 ∙ no_table_there b T c.args.self.now.records.now c.args.number c.args.k h c.in_err-table.field-0.0 (sym c.in_err-table.ensures.value))

pub returns-then-k-table : goal.returns-then-k-table
returns-then-k-table g c = λ b T h. child_is T c.args.number c.args.k _ (no_such_child b T c.args.self.now.records.now c.args.number c.args.k h c.in_ok-table.table (sym c.in_ok-table.ensures.value) c.if-k-table.true)

pub loop-low-init : goal.loop-low-init
loop-low-init g c = (omega arith, λ b T h. at_first b T c.args.self.now.records.now c.args.number c.args.k h c.in_ok-table.table (sym c.in_ok-table.ensures.value) c.if-k-table.false)

pub returns-in_err-found : goal.returns-in_err-found
returns-in_err-found g c =
    let p = err_from_is_err_and c.from_residual-in_err-found.result c.from_residual-in_err-found.ensures.1 in
    λ b T h. child_is T c.args.number c.args.k _ (p.1 ∙ absurd (met_none b T c.args.self.now.records.now c.args.number c.args.k h c.loop-low.low c.loop-low.high (c.loop-low.low + (c.loop-low.high - c.loop-low.low) / 2) (c.loop-low.invariant.1 b T h) (omega arith) (omega arith) c.in_err-found.field-0.0 (c.in_err-found.ensures.tree b T h)))

pub returns-in_err-sibling : goal.returns-in_err-sibling
returns-in_err-sibling g c =
    let p = err_from_is_err_and c.from_residual-in_err-sibling.result c.from_residual-in_err-sibling.ensures.1 in
    λ b T h. child_is T c.args.number c.args.k _ (p.1 ∙ absurd (row_missing b T c.args.self.now.records.now c.args.number c.args.k h c.loop-low.low c.loop-low.high (c.loop-low.low + (c.loop-low.high - c.loop-low.low) / 2) (c.loop-low.invariant.1 b T h) (omega arith) (omega arith) c.in_ok-found.found (c.in_ok-found.ensures.tree b T h) c.in_err-sibling.field-0.0 (sym c.in_err-sibling.ensures.value)))

pub returns-then-sibling-k : goal.returns-then-sibling-k
returns-then-sibling-k g c = λ b T h. child_is T c.args.number c.args.k _ (hit b T c.args.self.now.records.now c.args.number c.args.k h c.loop-low.low c.loop-low.high (c.loop-low.low + (c.loop-low.high - c.loop-low.low) / 2) (c.loop-low.invariant.1 b T h) (omega arith) (omega arith) c.in_ok-found.found (c.in_ok-found.ensures.tree b T h) c.in_ok-sibling.sibling (sym c.in_ok-sibling.ensures.value) c.if-sibling-k.true)

pub loop-low-preserved-then-k-sibling : goal.loop-low-preserved-then-k-sibling
loop-low-preserved-then-k-sibling g c = (omega arith, λ b T h. lower_half b T c.args.self.now.records.now c.args.number c.args.k h c.loop-low.low c.loop-low.high (c.loop-low.low + (c.loop-low.high - c.loop-low.low) / 2) (c.loop-low.invariant.1 b T h) (omega arith) (omega arith) c.in_ok-found.found (c.in_ok-found.ensures.tree b T h) c.in_ok-sibling.sibling (sym c.in_ok-sibling.ensures.value) c.if-k-sibling.true)

pub loop-low-preserved : goal.loop-low-preserved
loop-low-preserved g c = (
  c.loop-low.invariant.0,
  λ b T h. subst (λ (low : ℕ). Between b T c.args.self.now.records.now c.args.number c.args.k h low c.loop-low.high) (sym c.after-low.ensures)
      (upper_half b T c.args.self.now.records.now c.args.number c.args.k h c.loop-low.low c.loop-low.high (c.loop-low.low + (c.loop-low.high - c.loop-low.low) / 2) (c.loop-low.invariant.1 b T h) (omega arith) (omega arith) c.in_ok-found.found (c.in_ok-found.ensures.tree b T h) c.in_ok-sibling.sibling (sym c.in_ok-sibling.ensures.value) (omega arith)),
)

pub returns : goal.returns
returns g c = λ b T h. child_is T c.args.number c.args.k _ (absurd (not_empty b T c.args.self.now.records.now c.args.number c.args.k h c.loop-low.low c.loop-low.high (c.loop-low.invariant.1 b T h) (omega arith)))
