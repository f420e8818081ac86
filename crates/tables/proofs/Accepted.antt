-- Bytes are accepted exactly when a layout stands at the root within limits and records, and the records then hold it.
use Rattle.std.proofs.Common.{◌≡◌, ℕ, zero, suc, ◌+◌, ◌-◌, ◌≤◌, true, ◌&&◌, leb, List, [], ◌∷◌, ◌++◌, map, length, replicate, None, Ok, Err, Option, Result, sym, refl, ap, ◌∙◌, subst, arith}
use Rattle.std.proofs.lemmas.Bool.{leb-true, le-leb, and_parts, and_from}
use Rattle.tables.specs.declared.faults.Fault.{Fault}
use Rattle.tables.specs.declared.faults.Fault.TheVariants.{TooLong, BadLimit}
use Rattle.tables.specs.declared.faults.Missing.TheVariants as missing
use Rattle.tables.specs.declared.records.Limits.{Limits}
use Rattle.tables.specs.declared.records.Table.{Table}
use Rattle.tables.specs.declared.records.Record.{Record}
use Rattle.tables.specs.Outcome.{◌>>=◌}
use Rattle.tables.specs.Answer.{table_at}
use Rattle.tables.specs.Read.{forward}
use Rattle.tables.specs.Format.{Layout, Root, Stands, size, height}
use Rattle.tables.specs.Listing.{row_at, InRange, Verified}
use Rattle.tables.specs.Step.{Kept, Adds, child}
use Rattle.tables.specs.Visit.{visit, children, visited, top, found, recorded, counted, fresh}
use Rattle.tables.proofs.Binds.{bind_ok, need_ok}
use Rattle.tables.proofs.Reading.{same_ok, never_ok, need_is, forward_ok, forward_is}
use Rattle.tables.proofs.Trees.{sound, complete_visit, only}
use Rattle.tables.proofs.Visiting.{added, one_child}

-- what the records hold, number by number
no_record : (M : Type 0) (m k : ℕ) → table_at {M = M} (replicate m None) k ≡ Err missing.Table
no_record M zero k = refl
no_record M (suc m) zero = refl
no_record M (suc m) (suc k) = no_record M m k

pub records_hold : (M : Type 0) (rows : List Table) (m k : ℕ) → table_at {M = M} (map fresh rows ++ replicate m None) k ≡ row_at rows k
records_hold M [] m k = no_record M m k
records_hold M (row ∷ rows) m zero = refl
records_hold M (row ∷ rows) m (suc k) = records_hold M rows m k

in_range : (limits : Limits) (b : List ℕ) → leb (length b) 1048576 ≡ true
    → (leb 1 limits.levels && leb limits.levels 64 && leb 1 limits.tables && leb limits.tables 4096) ≡ true → InRange limits b
in_range limits b p q =
    let c = and_parts _ _ q in
    let d = and_parts _ _ c.0 in
    let e = and_parts _ _ d.0 in
    (leb-true _ _ p, leb-true _ _ e.0, leb-true _ _ e.1, leb-true _ _ d.1, leb-true _ _ c.1)

ranged : (limits : Limits) (b : List ℕ) (room : ℕ) → InRange limits b → found limits b room ≡ visited limits.levels b limits.tables room
ranged limits b room i =
    need_is (leb (length b) 1048576) TooLong _ (le-leb _ _ i.0)
    ∙ need_is (leb 1 limits.levels && leb limits.levels 64 && leb 1 limits.tables && leb limits.tables 4096) BadLimit _
    (and_from _ _ (and_from _ _ (and_from _ _ (le-leb _ _ i.1) (le-leb _ _ i.2)) (le-leb _ _ i.3)) (le-leb _ _ i.4))

-- a layout at the root, within limits, is visited
is_found : (levels : ℕ) (b : List ℕ) (most room : ℕ) (T : Layout) → 1 ≤ levels → Root b T → height T ≤ levels → size T ≤ most → size T ≤ room → (rows : List Table) × (visited levels b most room ≡ Ok rows)
is_found levels b most room T one root h m r =
    let e : suc (levels - 1) ≡ levels = omega arith in
    let v = complete_visit b most room T (levels - 1) top root.0 0 root.2 (subst (λ (l : ℕ). height T ≤ l) (sym e) h) (omega arith) (omega arith) in (
      v.0,
      ap (λ (z : Result ℕ Fault). z >>= (λ t. visit levels b most room top t 0)) (forward_is b 0 root.0 root.1)
          ∙ subst (λ (l : ℕ). visit l b most room top root.0 0 ≡ Ok v.0) e v.1,
    )

module _ (M : Type 0) (limits : Limits) (b : List ℕ) (room : ℕ) where
  outcome : (v : Result (List Table) Fault) → found limits b room ≡ v → Verified {M = M} limits b room (counted v) (recorded v room)
  outcome (Ok rows) e =
      let long = need_ok (leb (length b) 1048576) TooLong _ rows e in
      let lim = need_ok (leb 1 limits.levels && leb limits.levels 64 && leb 1 limits.tables && leb limits.tables 4096) BadLimit _ rows long.1 in
      let t = bind_ok (forward b 0) _ rows lim.1 in
      let f = sound b limits.tables room limits.levels top t.0 0 rows t.2 in
      let root : Root b f.0 = (t.0, forward_ok b 0 t.0 t.1, f.1) in (
        in_range limits b long.0 lim.0,
        (
          f.0,
          root,
          (f.4, omega_in f.5, omega_in f.6),
          f.3,
          (root, few_tables f.5 (in_range limits b long.0 lim.0).4, (rows, f.2, records_hold M rows (room - length rows))),
          (λ U r. let same : r.0 ≡ t.0 = same_ok (sym (forward_is b 0 r.0 r.1) ∙ t.1) in only b U f.0 t.0 (subst (Stands U b) same r.2) f.1),
        ),
      )
    where
      omega_in : {x y : ℕ} → 0 + x ≤ y → x ≤ y
      omega_in le = omega arith

      few_tables : {x y : ℕ} → 0 + x ≤ y → y ≤ 4096 → x ≤ 4096
      few_tables le m = omega arith
  outcome (Err x) e = λ i T root w.
      let f = is_found limits.levels b limits.tables room T i.1 root w.0 w.1 w.2 in
      never_ok (sym e ∙ ranged limits b room i ∙ f.1)

  pub verified : (r : Result ℕ Fault) (records : List (Option (Record M))) → r ≡ counted (found limits b room) → records ≡ recorded (found limits b room) room → Verified limits b room r records
  verified r records p q =
      subst (λ (r : Result ℕ Fault). Verified limits b room r records) (sym p)
      (subst (λ (records : List (Option (Record M))). Verified limits b room (counted (found limits b room)) records) (sym q) (outcome (found limits b room) refl))

-- what the visit of the root leaves is what is found
pub whole : {M : Type 0} (limits : Limits) (b : List ℕ) (room m : ℕ) (before after : List (Option (Record M))) (u : Unit {0}) → InRange limits b
    → Adds (children (child limits.levels b limits.tables room 0 1) b 0 1 0 0) 0 before (Ok u) m after → (Ok m ≡ counted (found limits b room)) × Kept (found limits b room) after
whole limits b room m before after u i a =
    let rows = added (children (child limits.levels b limits.tables room 0 1) b 0 1 0 0) 0 m before after u a in
    let is : found limits b room ≡ Ok rows.0 = ranged limits b room i ∙ sym (one_child limits.levels b limits.tables room) ∙ rows.1 in
    let count : m ≡ length rows.0 = (let p = rows.2 in omega arith) in
    rw (is, ← count) (refl, rows.4)
