use Rattle.std.proofs.Common.{◌≡◌, ℕ, List, length, Some}
use denote.Param.Always.{always_mut}
use Rattle.std.specs.List.{FoldsTo, last_or}
use Rattle.tables_c.proofs.repeat.Given as goal

abbrev pub invariant-loop : goal.invariant-loop
invariant-loop g l =
    always_mut g.F.FnMut l.round
    × ((given : List ℕ) × FoldsTo (goal.F-step g) l.initial.round given l.round × (length given ≡ l.counter) × (Some l.last ≡ last_or (Some 0) given))
