use Rattle.std.proofs.Common.{◌-◌, arith, refl}
use Rattle.replay.proofs.Repeats.{repeated_nothing, repeated_more, begins_more, part_within}
use Rattle.replay.proofs.parts.repeat_from.Goals as goal

pub overflow_mul-room : goal.overflow_mul-room
overflow_mul-room c =
    let last = c.loop-stands.invariant in
    let within = part_within c.args.from c.loop-stands.stands c.min-more.result (c.len-end.result - c.args.from) _ _ (omega arith) (omega arith) (omega arith) last.grown in
    omega arith

pub overflow_add-from : goal.overflow_add-from
overflow_add-from c =
    let last = c.loop-stands.invariant in
    let within = part_within c.args.from c.loop-stands.stands c.min-more.result (c.len-end.result - c.args.from) _ _ (omega arith) (omega arith) (omega arith) last.grown in
    omega arith

pub extend_from_within-requires-clause-in_bounds : goal.extend_from_within-requires-clause-in_bounds
extend_from_within-requires-clause-in_bounds c =
    let last = c.loop-stands.invariant in
    let within = part_within c.args.from c.loop-stands.stands c.min-more.result (c.len-end.result - c.args.from) _ _ (omega arith) (omega arith) (omega arith) last.grown in
    omega arith

pub loop-stands-preserved : goal.loop-stands-preserved
loop-stands-preserved c =
    let last = c.loop-stands.invariant in
    let added = c.in_ok-extend_from_within.ensures.items in
    record {
      grown = repeated_more _ _ _ _ _ _ _ _ (omega arith) (omega arith) refl (omega arith) last.grown added;
      begins = begins_more _ _ _ _ last.begins added;
      once = omega arith;
      most = omega arith;
    }

pub returns-else-from-end-clause-ok : goal.returns-else-from-end-clause-ok
returns-else-from-end-clause-ok c = repeated_nothing _ _ _ (omega arith)
