use Rattle.std.proofs.Common.{◌≡◌, suc, ◌+◌, ◌-◌, ◌*◌, ◌<◌, [], ◌++◌, length, Ok, Err, sym, refl, ap, ◌∙◌, append-nil, arith, length-set, rules}
use Rattle.std.proofs.lemmas.Result.{err_from_is_err_and}
use Rattle.tables.specs.declared.faults.Fault.{Fault}
use Rattle.tables.specs.declared.faults.Fault.TheVariants.{TooManyTables, NoRecord}
use Rattle.tables.specs.declared.reads.Bytes.{Bytes}
use Rattle.tables.specs.Read.{forward, vector, entry}
use Rattle.tables.specs.Step.{child}
use Rattle.tables.proofs.Visiting.{fails, no_vtable, no_more_tables, no_room, no_fields, no_children, no_segments, is_found, left_all, left_none, left_more, no_place, no_child, more_recorded, own_recorded, more_count, own_count, below_count, row, adds, failed, added, same_visit}
use Rattle.tables.proofs.visit.Visit.+visit.Goals as goal

pub table-returns-in_err-raw-clause-adds : goal.table-returns-in_err-raw-clause-adds
table-returns-in_err-raw-clause-adds g t c =
    let s = c.args.self.now in
    let p = err_from_is_err_and c.from_residual.result c.from_residual.ensures.1 in
    let e = c.in_err-raw.field-0.0 in
    fails _ _ _ _ _ _ e (no_vtable s.bytes.bytes.now s.most (length s.records.now) c.args.spot c.args.place s.count c.args.levels e c.in_err-raw.ensures) (p.1 ∙ ap (λ (x : Fault). Err x) p.2)

pub table-returns-then-self-clause-adds : goal.table-returns-then-self-clause-adds
table-returns-then-self-clause-adds g t c =
    let s = c.args.self.now in
    let level : c.args.levels ≡ suc c.in-Some.below = omega (arith, c.in-Some.ensures) in
    rw level (fails _ _ _ _ _ _ TooManyTables (no_more_tables s.bytes.bytes.now s.most (length s.records.now) c.args.spot c.args.place s.count c.in-Some.below c.in_ok-raw.raw.vtable c.in_ok-raw.ensures.0 c.if-self.true) refl)

pub table-returns-then-self-2-clause-adds : goal.table-returns-then-self-2-clause-adds
table-returns-then-self-2-clause-adds g t c =
    let s = c.args.self.now in
    let level : c.args.levels ≡ suc c.in-Some.below = omega (arith, c.in-Some.ensures) in
    rw level (fails _ _ _ _ _ _ NoRecord (no_room s.bytes.bytes.now s.most (length s.records.now) c.args.spot c.args.place s.count c.in-Some.below c.in_ok-raw.raw.vtable c.in_ok-raw.ensures.0 c.if-self.false c.if-self-2.true) refl)

pub table-returns-in_err-fields-clause-adds : goal.table-returns-in_err-fields-clause-adds
table-returns-in_err-fields-clause-adds g t c =
    let s = c.args.self.now in
    let level : c.args.levels ≡ suc c.in-Some.below = omega (arith, c.in-Some.ensures) in
    let p = err_from_is_err_and c.from_residual-in_err-fields.result c.from_residual-in_err-fields.ensures.1 in
    let e = c.in_err-fields.field-0.0 in
    rw level (fails _ _ _ _ _ _ e (no_fields s.bytes.bytes.now s.most (length s.records.now) c.args.spot c.args.place s.count c.in-Some.below c.in_ok-raw.raw.vtable c.in_ok-raw.ensures.0 c.if-self.false c.if-self-2.false e (rw (← c.in_ok-raw.ensures.1, ← c.in_ok-raw.ensures.2) (sym c.in_err-fields.ensures.value))) (p.1 ∙ ap (λ (x : Fault). Err x) p.2))

pub table-returns-in_err-below-clause-adds : goal.table-returns-in_err-below-clause-adds
table-returns-in_err-below-clause-adds g t c =
    let s = c.args.self.now in
    let level : c.args.levels ≡ suc c.in-Some.below = omega (arith, c.in-Some.ensures) in
    let f = c.in_ok-fields.fields in
    let p = err_from_is_err_and c.from_residual-in_err-below.result c.from_residual-in_err-below.ensures.1 in
    let e = c.in_err-below.field-0.0 in
    rw level (fails _ _ _ _ _ _ e (no_children s.bytes.bytes.now s.most (length s.records.now) c.args.spot c.args.place s.count c.in-Some.below c.in_ok-raw.raw.vtable c.in_ok-raw.ensures.0 c.if-self.false c.if-self-2.false f (rw (← c.in_ok-raw.ensures.1, ← c.in_ok-raw.ensures.2) (sym c.in_ok-fields.ensures.value)) e (failed _ _ _ _ _ e c.in_err-below.ensures.adds)) (p.1 ∙ ap (λ (x : Fault). Err x) p.2))

pub table-returns-in_err-segments-clause-adds : goal.table-returns-in_err-segments-clause-adds
table-returns-in_err-segments-clause-adds g t c =
    let s = c.args.self.now in
    let level : c.args.levels ≡ suc c.in-Some.below = omega (arith, c.in-Some.ensures) in
    let f = c.in_ok-fields.fields in
    let n = c.below.new.self in
    let p = err_from_is_err_and c.from_residual-in_err-segments.result c.from_residual-in_err-segments.ensures.1 in
    let e = c.in_err-segments.field-0.0 in
    let kids = added _ _ _ _ _ _ c.in_ok-below.ensures.adds in
    let none : vector 4 s.bytes.bytes.now c.args.place (entry s.bytes.bytes.now c.in_ok-raw.raw.vtable 12) ≡ Err e = rw (← c.in_ok-raw.ensures.1, ← c.in_ok-raw.ensures.2) (sym c.in_err-segments.ensures.value) in
    rw level (fails _ _ _ _ _ _ e (no_segments s.bytes.bytes.now s.most (length s.records.now) c.args.spot c.args.place s.count c.in-Some.below c.in_ok-raw.raw.vtable c.in_ok-raw.ensures.0 c.if-self.false c.if-self-2.false f (rw (← c.in_ok-raw.ensures.1, ← c.in_ok-raw.ensures.2) (sym c.in_ok-fields.ensures.value)) kids.0 kids.1 e none) (p.1 ∙ ap (λ (x : Fault). Err x) p.2))

pub table-returns-clause-adds : goal.table-returns-clause-adds
table-returns-clause-adds g t c =
    let s = c.args.self.now in
    let level : c.args.levels ≡ suc c.in-Some.below = omega (arith, c.in-Some.ensures) in
    let f = c.in_ok-fields.fields in
    let n = c.below.new.self in
    let kids = added _ _ _ _ _ _ c.in_ok-below.ensures.adds in
    let below : n.count - s.count - 1 ≡ length kids.0 = below_count (length kids.0) n.count s.count kids.2 in
    let some : vector 4 s.bytes.bytes.now c.args.place (entry s.bytes.bytes.now c.in_ok-raw.raw.vtable 12) ≡ Ok c.in_ok-segments.segments = rw (← c.in_ok-raw.ensures.1, ← c.in_ok-raw.ensures.2) (sym c.in_ok-segments.ensures.value) in
    rw level (adds _ _ _ _ _ _ _ (is_found s.bytes.bytes.now s.most (length s.records.now) c.args.spot c.args.place s.count c.in-Some.below c.in_ok-raw.raw.vtable c.in_ok-raw.ensures.0 c.if-self.false c.if-self-2.false f (rw (← c.in_ok-raw.ensures.1, ← c.in_ok-raw.ensures.2) (sym c.in_ok-fields.ensures.value)) kids.0 kids.1 c.in_ok-segments.segments some) refl (own_count (length kids.0) n.count s.count kids.2) (simp length-set kids.3) (rw below (own_recorded s.records.now n.records.now s.count n.count (row c.args.spot c.args.place f c.in_ok-segments.segments (length kids.0)) kids.0 c.if-self-2.false (omega arith) kids.4)))

pub children-loop-index-init : goal.children-loop-index-init
children-loop-index-init g t c =
    record { same = record { bytes = refl; most = refl; room = refl; named = refl }; within = c.requires.within; found = ([], omega arith, sym (append-nil _), left_all _ _ _ _ _) }

pub children-returns-in_err-place-clause-adds : goal.children-returns-in_err-place-clause-adds
children-returns-in_err-place-clause-adds g t c =
    let s = c.args.self.now in
    let kid = child c.args.levels s.bytes.bytes.now s.most (length s.records.now) c.args.parent c.args.depth in
    let i = c.loop-index.invariant in
    let l = c.loop-index in
    let p = err_from_is_err_and c.from_residual.result c.from_residual.ensures.1 in
    let e = c.in_err-place.field-0.0 in
    let place : forward s.bytes.bytes.now (c.args.offsets.from + 4 * l.index) ≡ Err e = sym c.in_err-place.ensures in
    fails _ _ _ _ _ _ e (no_place kid s.bytes.bytes.now c.args.offsets.from c.args.offsets.count s.count l.index i.found.0 i.found.3 c.loop-index-test.true e place) (p.1 ∙ ap (λ (x : Fault). Err x) p.2)

pub children-returns-in_err-table-clause-adds : goal.children-returns-in_err-table-clause-adds
children-returns-in_err-table-clause-adds g t c =
    let s = c.args.self.now in
    let kid = child c.args.levels s.bytes.bytes.now s.most (length s.records.now) c.args.parent c.args.depth in
    let i = c.loop-index.invariant in
    let l = c.loop-index in
    let p = err_from_is_err_and c.from_residual-in_err-table.result c.from_residual-in_err-table.ensures.1 in
    let e = c.in_err-table.field-0.0 in
    let place : forward s.bytes.bytes.now (c.args.offsets.from + 4 * l.index) ≡ Ok c.in_ok-place.place = sym c.in_ok-place.ensures in
    let none = same_visit c.args.levels l.self.bytes.bytes.now s.bytes.bytes.now l.self.most s.most (length l.self.records.now) (length s.records.now) _ c.in_ok-place.place l.self.count (s.count + length i.found.0) _ (ap (λ (z : Bytes). z.bytes.now) i.same.bytes) i.same.most i.same.room i.found.1 (failed _ _ _ _ _ e c.in_err-table.ensures.adds) in
    fails _ _ _ _ _ _ e (no_child kid s.bytes.bytes.now c.args.offsets.from c.args.offsets.count s.count l.index i.found.0 i.found.3 c.loop-index-test.true c.in_ok-place.place place e none) (p.1 ∙ ap (λ (x : Fault). Err x) p.2)

pub children-loop-index-preserved : goal.children-loop-index-preserved
children-loop-index-preserved g t c =
    let s = c.args.self.now in
    let kid = child c.args.levels s.bytes.bytes.now s.most (length s.records.now) c.args.parent c.args.depth in
    let i = c.loop-index.invariant in
    let l = c.loop-index in
    let place : forward s.bytes.bytes.now (c.args.offsets.from + 4 * l.index) ≡ Ok c.in_ok-place.place = sym c.in_ok-place.ensures in
    let first = added _ _ _ _ _ _ c.in_ok-table.ensures.adds in
    let kin = same_visit c.args.levels l.self.bytes.bytes.now s.bytes.bytes.now l.self.most s.most (length l.self.records.now) (length s.records.now) _ c.in_ok-place.place l.self.count (s.count + length i.found.0) _ (ap (λ (z : Bytes). z.bytes.now) i.same.bytes) i.same.most i.same.room i.found.1 first.1 in
    let n = c.table.new.self in
    let count : n.count ≡ s.count + length (i.found.0 ++ first.0) = more_count i.found.0 first.0 s.count l.self.count n.count i.found.1 first.2 in
    record {
      same = record {
        bytes = c.in_ok-table.ensures.same.bytes ∙ i.same.bytes;
        most = c.in_ok-table.ensures.same.most ∙ i.same.most;
        room = c.in_ok-table.ensures.same.room ∙ i.same.room;
        named = c.in_ok-table.ensures.same.named ∙ i.same.named;
      };
      within = first.3;
      found = (
        i.found.0 ++ first.0,
        count,
        more_recorded s.records.now l.self.records.now n.records.now s.count l.self.count n.count i.found.0 first.0 i.found.2 first.4,
        left_more kid s.bytes.bytes.now c.args.offsets.from c.args.offsets.count s.count l.index i.found.0 i.found.3 c.loop-index-test.true c.in_ok-place.place place first.0 kin,
      );
    }

pub children-returns-clause-adds : goal.children-returns-clause-adds
children-returns-clause-adds g t c =
    let s = c.args.self.now in
    let kid = child c.args.levels s.bytes.bytes.now s.most (length s.records.now) c.args.parent c.args.depth in
    let i = c.loop-index.invariant in
    let l = c.loop-index in
    adds _ _ _ _ _ _ i.found.0 (left_none kid s.bytes.bytes.now c.args.offsets.from c.args.offsets.count s.count l.index i.found.0 i.found.3 c.loop-index-test.false) refl i.found.1 i.within i.found.2

pub table-offset_bounds-self-number : goal.table-offset_bounds-self-number
table-offset_bounds-self-number g t c =
    let inside : c.args.self.now.count < length c.below.new.self.records.now = omega (arith, c.in_ok-below.ensures.same.room) in search rules
