use Rattle.std.proofs.Common.{ℕ, ◌<◌, ◌≤◌, Ok, Err, sym, arith}
use Rattle.std.proofs.lemmas.Result.{err_from_is_err_and}
use Rattle.tables.specs.declared.faults.Missing.TheVariants as missing
use Rattle.tables.proofs.Siblings.{over, too_far, climb_start, no_row, climb_end, climb_on, no_loop}
use Rattle.tables.proofs.answers.Tables.child_over.Goals as goal

pub returns-in_default-clause-tree : goal.returns-in_default-clause-tree
returns-in_default-clause-tree g c = λ b T h. over b T c.args.self.now.records.now c.args.number c.args.below h (Err missing.Table) (too_far b T c.args.self.now.records.now c.args.number c.args.below h (Err missing.Table) (not_small c.args.below c.in_default.ensures))
  where
    not_small : (x : ℕ) → (x < 4294967296 → ⊥) → 4294967296 ≤ x
    not_small x few = omega arith

pub loop-table-init : goal.loop-table-init
loop-table-init g c = let node = c.in-Ok.ensures.1 in rw node (omega arith, λ b T h. climb_start b T c.args.self.now.records.now c.args.number c.args.below h)

pub returns-in_err-table : goal.returns-in_err-table
returns-in_err-table g c =
    let p = err_from_is_err_and c.from_residual.result c.from_residual.ensures.1 in
    rw p.1 (record { bound = tt; tree = λ b T h. over b T c.args.self.now.records.now c.args.number c.args.below h (Err p.0) (no_row b T c.args.self.now.records.now c.args.number c.args.below h c.loop-table.node (c.loop-table.invariant.1 b T h) c.in_err-table.field-0.0 (Err p.0) (sym c.in_err-table.ensures.value)) })

pub returns-then-table-number : goal.returns-then-table-number
returns-then-table-number g c =
    record { bound = c.loop-table.invariant.0; tree = λ b T h. over b T c.args.self.now.records.now c.args.number c.args.below h (Ok c.loop-table.node) (climb_end b T c.args.self.now.records.now c.args.number c.args.below h c.loop-table.node (c.loop-table.invariant.1 b T h) c.in_ok-table.table (sym c.in_ok-table.ensures.value) c.if-table-number.true) }

pub returns-then-table-node : goal.returns-then-table-node
returns-then-table-node g c =
    record { bound = tt; tree = λ b T h. over b T c.args.self.now.records.now c.args.number c.args.below h (Err missing.Table) (no_loop b T c.args.self.now.records.now c.args.number c.args.below h c.loop-table.node (c.loop-table.invariant.1 b T h) c.in_ok-table.table (sym c.in_ok-table.ensures.value) (Err missing.Table) c.if-table-number.false c.if-table-node.true) }

pub loop-table-preserved : goal.loop-table-preserved
loop-table-preserved g c =
    (omega arith, λ b T h. climb_on b T c.args.self.now.records.now c.args.number c.args.below h c.loop-table.node (c.loop-table.invariant.1 b T h) c.in_ok-table.table (sym c.in_ok-table.ensures.value) c.if-table-number.false)
