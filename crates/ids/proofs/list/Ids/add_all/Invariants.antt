use Rattle.std.proofs.Common.{◌≡◌, ◌++◌}
use Rattle.ids.specs.Value.{ids_of, is_open}
use Rattle.ids.specs.Add.{added_all}
use Rattle.ids.specs.Guard.{held, before, open_through}
use Rattle.ids.proofs.list.Ids.add_all.Given as goal

-- Adding the ids that are left gives the answer and the list. The list of before is kept.
abbrev pub invariant-loop-id : goal.invariant-loop-id
invariant-loop-id l = record {
  answer : added_all (held l.guard) (open_through l.guard) l.id-iterator ≡ added_all (ids_of l.fn.self) (is_open l.fn.self) (ids_of l.other);
  ids : held l.guard ++ l.id-iterator ≡ ids_of l.fn.self ++ ids_of l.other;
  before : before l.guard ≡ ids_of l.fn.self;
  state : open_through l.guard ≡ is_open l.fn.self;
  named : l.guard.ids.ghost_name ≡ l.initial.guard.ids.ghost_name;
}
