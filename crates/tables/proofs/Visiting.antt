-- The visit of a table, step by step: which fault comes first, which tables are found, and what the records hold.
use Rattle.std.proofs.Common.{◌≡◌, ℕ, zero, suc, ◌+◌, ◌-◌, ◌*◌, ◌<◌, ◌≤◌, List, [], ◌∷◌, ◌++◌, map, length, take, set, get_or, None, Ok, Err, Option, Result, sym, refl, ap, ◌∙◌, append_assoc, append-nil, arith, length-append}
use Rattle.std.proofs.lemmas.Bool.{lt-ltb, le-ltb}
use Rattle.std.proofs.lemmas.List.{take_more, set_at, map-append, length-take-le}
use Rattle.std.proofs.Math.Seq.{take-set-lt}
use Rattle.tables.specs.declared.faults.Fault.{Fault}
use Rattle.tables.specs.declared.faults.Fault.TheVariants.{TooManyTables, NoRecord}
use Rattle.tables.specs.declared.records.Part.{Part}
use Rattle.tables.specs.declared.records.Table.{Table}
use Rattle.tables.specs.declared.records.Record.{Record}
use Rattle.tables.specs.declared.reads.Vtable.{Vtable}
use Rattle.tables.specs.declared.visit.Fields.{Fields}
use Rattle.tables.specs.declared.visit.Spot.{Spot}
use Rattle.tables.specs.Outcome.{◌>>=◌}
use Rattle.tables.specs.Read.{vtable, entry, scalar, vector, forward}
use Rattle.tables.specs.Step.{fields, child, Adds}
use Rattle.tables.specs.Visit.{visit, children, visited, top, fresh}
use Rattle.tables.proofs.Binds.{bind_assoc, bind_same, no_more}

abbrev pub row : Spot → ℕ → Fields → Part → ℕ → Table
row w t f s k = record { rows = f.rows; metadata = f.metadata; segments = s; place = t; parent = w.parent; depth = w.depth; index = w.index; children = f.children.count; below = k; encoding = f.encoding }

regroup : (e r : Result ℕ Fault) (m k : Result Part Fault) (rest : Fields → Result (List Table) Fault)
    → e >>= (λ e. r >>= (λ r. m >>= (λ m. k >>= (λ k. rest (record { encoding = e; rows = r; metadata = m; children = k })))))
    ≡ (e >>= (λ e. r >>= (λ r. m >>= (λ m. k >>= (λ k. Ok (record { encoding = e; rows = r; metadata = m; children = k })))))) >>= rest
regroup (Err x) r m k rest = refl
regroup (Ok e) (Err x) m k rest = refl
regroup (Ok e) (Ok r) (Err x) k rest = refl
regroup (Ok e) (Ok r) (Ok m) (Err x) rest = refl
regroup (Ok e) (Ok r) (Ok m) (Ok k) rest = refl

-- the table at place t, met at w with number n
module _ (b : List ℕ) (most room : ℕ) (w : Spot) (t n : ℕ) where
  pub no_vtable : (l : ℕ) (e : Fault) → vtable b t ≡ Err e → visit l b most room w t n ≡ Err e
  no_vtable zero e p = rw p refl
  no_vtable (suc l) e p = rw p refl

  module _ (l : ℕ) (v : Vtable) (p : vtable b t ≡ Ok v) where
    pub no_more_tables : most ≤ n → visit (suc l) b most room w t n ≡ Err TooManyTables
    no_more_tables le = rw (p, le-ltb n most le) refl

    pub no_room : n < most → room ≤ n → visit (suc l) b most room w t n ≡ Err NoRecord
    no_room lt le = rw (p, lt-ltb n most lt, le-ltb n room le) refl

    module _ (enough : n < most) (fits : n < room) where
      -- its fields, its children, its segments
      in_turn : visit (suc l) b most room w t n ≡ fields b v t >>= (λ f. children (child l b most room n (w.depth + 1)) b f.children.from f.children.count 0 (n + 1) >>= (λ rs. vector 4 b t (entry b v 12) >>= (λ s. Ok (row w t f s (length rs) ∷ rs))))
      in_turn = rw (p, lt-ltb n most enough, lt-ltb n room fits)
          (regroup (scalar 2 b t (entry b v 4)) (scalar 8 b t (entry b v 6)) (vector 1 b t (entry b v 8)) (vector 4 b t (entry b v 10))
          (λ f. children (child l b most room n (w.depth + 1)) b f.children.from f.children.count 0 (n + 1) >>= (λ rs. vector 4 b t (entry b v 12) >>= (λ s. Ok (row w t f s (length rs) ∷ rs)))))

      pub no_fields : (e : Fault) → fields b v t ≡ Err e → visit (suc l) b most room w t n ≡ Err e
      no_fields e q = in_turn ∙ ap (λ (z : Result Fields Fault). z >>= (λ f. children (child l b most room n (w.depth + 1)) b f.children.from f.children.count 0 (n + 1) >>= (λ rs. vector 4 b t (entry b v 12) >>= (λ s. Ok (row w t f s (length rs) ∷ rs))))) q

      module _ (f : Fields) (q : fields b v t ≡ Ok f) where
        below_fields : visit (suc l) b most room w t n ≡ children (child l b most room n (w.depth + 1)) b f.children.from f.children.count 0 (n + 1) >>= (λ rs. vector 4 b t (entry b v 12) >>= (λ s. Ok (row w t f s (length rs) ∷ rs)))
        below_fields = in_turn ∙ ap (λ (z : Result Fields Fault). z >>= (λ f. children (child l b most room n (w.depth + 1)) b f.children.from f.children.count 0 (n + 1) >>= (λ rs. vector 4 b t (entry b v 12) >>= (λ s. Ok (row w t f s (length rs) ∷ rs))))) q

        pub no_children : (e : Fault) → children (child l b most room n (w.depth + 1)) b f.children.from f.children.count 0 (n + 1) ≡ Err e → visit (suc l) b most room w t n ≡ Err e
        no_children e c = below_fields ∙ ap (λ (z : Result (List Table) Fault). z >>= (λ rs. vector 4 b t (entry b v 12) >>= (λ s. Ok (row w t f s (length rs) ∷ rs)))) c

        module _ (rs : List Table) (c : children (child l b most room n (w.depth + 1)) b f.children.from f.children.count 0 (n + 1) ≡ Ok rs) where
          behind : visit (suc l) b most room w t n ≡ vector 4 b t (entry b v 12) >>= (λ s. Ok (row w t f s (length rs) ∷ rs))
          behind = below_fields ∙ ap (λ (z : Result (List Table) Fault). z >>= (λ rs. vector 4 b t (entry b v 12) >>= (λ s. Ok (row w t f s (length rs) ∷ rs)))) c

          pub no_segments : (e : Fault) → vector 4 b t (entry b v 12) ≡ Err e → visit (suc l) b most room w t n ≡ Err e
          no_segments e s = behind ∙ ap (λ (z : Result Part Fault). z >>= (λ s. Ok (row w t f s (length rs) ∷ rs))) s

          pub is_found : (s : Part) → vector 4 b t (entry b v 12) ≡ Ok s → visit (suc l) b most room w t n ≡ Ok (row w t f s (length rs) ∷ rs)
          is_found s e = behind ∙ ap (λ (z : Result Part Fault). z >>= (λ s. Ok (row w t f s (length rs) ∷ rs))) e

-- one child after another
children_more : (kid : ℕ → ℕ → ℕ → Result (List Table) Fault) (b : List ℕ) (p c i n : ℕ) → 0 < c
    → children kid b p c i n ≡ forward b p >>= (λ t. kid i t n >>= (λ first. children kid b (p + 4) (c - 1) (i + 1) (n + length first) >>= (λ os. Ok (first ++ os))))
children_more kid b p zero i n lt = let no' : ⊥ = omega arith in elim no' [ ]
children_more kid b p (suc c) i n lt = let e : suc c - 1 ≡ c = omega arith in rw e refl

only_these : (m : Result (List Table) Fault) → m ≡ m >>= (λ os. Ok ([] ++ os))
only_these (Ok rs) = refl
only_these (Err e) = refl

-- `count` children from place p on, the first of which has number n
module _ (kid : ℕ → ℕ → ℕ → Result (List Table) Fault) (b : List ℕ) (p count n : ℕ) where
  -- once i of them are visited and `found` are the tables so far, the others decide
  pub record Left (i : ℕ) (found : List Table) : Type 0 where
    pub decides : children kid b p count 0 n ≡ children kid b (p + 4 * i) (count - i) i (n + length found) >>= (λ os. Ok (found ++ os))

  pub left_all : Left 0 []
  left_all =
      let at : p + 4 * 0 ≡ p = omega arith in
      let all : count - 0 ≡ count = omega arith in
      let first : n + 0 ≡ n = omega arith in
      record { decides = rw (at, all, first) (only_these (children kid b p count 0 n)) }

  module _ (i : ℕ) (found : List Table) (left : Left i found) where
    pub left_none : count ≤ i → children kid b p count 0 n ≡ Ok found
    left_none le =
        let z : count - i ≡ 0 = omega arith in
        left.decides ∙ rw z (ap (λ (rs : List Table). Ok rs) (append-nil found))

    module _ (more : i < count) where
      next : children kid b p count 0 n ≡ (forward b (p + 4 * i) >>= (λ t. kid i t (n + length found) >>= (λ first. children kid b (p + 4 * i + 4) (count - i - 1) (i + 1) (n + length found + length first) >>= (λ os. Ok (first ++ os))))) >>= (λ os. Ok (found ++ os))
      next = left.decides ∙ ap (λ (z : Result (List Table) Fault). z >>= (λ os. Ok (found ++ os))) (children_more kid b (p + 4 * i) (count - i) i (n + length found) (omega arith))

      pub no_place : (e : Fault) → forward b (p + 4 * i) ≡ Err e → children kid b p count 0 n ≡ Err e
      no_place e q = next ∙ rw q refl

      module _ (t : ℕ) (q : forward b (p + 4 * i) ≡ Ok t) where
        pub no_child : (e : Fault) → kid i t (n + length found) ≡ Err e → children kid b p count 0 n ≡ Err e
        no_child e k = next ∙ rw (q, k) refl

        pub left_more : (first : List Table) → kid i t (n + length found) ≡ Ok first → Left (i + 1) (found ++ first)
        left_more first k =
            let at : p + 4 * i + 4 ≡ p + 4 * (i + 1) = omega arith in
            let fewer : count - i - 1 ≡ count - (i + 1) = omega arith in
            let number : n + length found + length first ≡ n + length (found ++ first) = (let l = length-append found first in omega arith) in
            record {
              decides = next ∙ rw (q, k, at, fewer, number)
                  (bind_assoc (children kid b (p + 4 * (i + 1)) (count - (i + 1)) (i + 1) (n + length (found ++ first))) (λ os. Ok (first ++ os)) (λ os. Ok (found ++ os))
                  ∙ bind_same (children kid b (p + 4 * (i + 1)) (count - (i + 1)) (i + 1) (n + length (found ++ first))) _ _ (λ os. ap (λ (rs : List Table). Ok rs) (sym (append_assoc found first os))));
            }

-- the records behind those of before
module _ {M : Type 0} where
  pub more_recorded : (before now after : List (Option (Record M))) (k m n : ℕ) (found first : List Table) → take m now ≡ take k before ++ map fresh found → take n after ≡ take m now ++ map fresh first
      → take n after ≡ take k before ++ map fresh (found ++ first)
  more_recorded before now after k m n found first p q =
      q ∙ ap (λ (z : List (Option (Record M))). z ++ map fresh first) p ∙ append_assoc (take k before) (map fresh found) (map fresh first)
      ∙ ap (λ (z : List (Option (Record M))). take k before ++ z) (sym (map-append fresh found first))

  pub own_recorded : (before now : List (Option (Record M))) (n m : ℕ) (own : Table) (found : List Table) → n < length before → n < m → take m now ≡ take (n + 1) before ++ map fresh found
      → take m (set now n (fresh own)) ≡ take n before ++ map fresh (own ∷ found)
  own_recorded before now n m own found lt more p =
      take-set-lt m now n (fresh own) more
      ∙ ap (λ (z : List (Option (Record M))). set z n (fresh own)) (p ∙ ap (λ (z : List (Option (Record M))). z ++ map fresh found) (take_more before n None lt) ∙ append_assoc (take n before) (get_or before n None ∷ []) (map fresh found))
      ∙ set_at (take n before) (get_or before n None) (map fresh found) (fresh own) n (length-take-le n before (omega arith))

-- a visit that is over
module _ {M : Type 0} (v : Result (List Table) Fault) (n m : ℕ) (before after : List (Option (Record M))) (r : Result (Unit {0}) Fault) where
  pub fails : (e : Fault) → v ≡ Err e → r ≡ Err e → Adds v n before r m after
  fails e p q = rw p q

  pub adds : (rows : List Table) → v ≡ Ok rows → r ≡ Ok tt → m ≡ n + length rows → m ≤ length after → take m after ≡ take n before ++ map fresh rows → Adds v n before r m after
  adds rows p q count le kept = rw p (q, count, le, kept)

pub failed : {M : Type 0} (v : Result (List Table) Fault) (n m : ℕ) (before after : List (Option (Record M))) (e : Fault) → Adds v n before (Err e) m after → v ≡ Err e
failed (Ok rows) n m before after e a = let z : ◌≡◌ {A = ℕ} 0 1 = (let p = a.0 in cc) in absurd (no_more z)
failed (Err x) n m before after e a = cc

pub added : {M : Type 0} (v : Result (List Table) Fault) (n m : ℕ) (before after : List (Option (Record M))) (u : Unit {0}) → Adds v n before (Ok u) m after
    → (rows : List Table) × (v ≡ Ok rows) × (m ≡ n + length rows) × (m ≤ length after) × (take m after ≡ take n before ++ map fresh rows)
added (Ok rows) n m before after u a = (rows, refl, a.1, a.2, a.3)
added (Err x) n m before after u a = let z : ◌≡◌ {A = ℕ} 0 1 = (let p : ◌≡◌ {A = Result (Unit {0}) Fault} (Ok u) (Err x) = a in cc) in absurd (no_more z)

pub same_visit : (l : ℕ) (b c : List ℕ) (most other room space : ℕ) (w : Spot) (t n m : ℕ) (v : Result (List Table) Fault) → b ≡ c → most ≡ other → room ≡ space → n ≡ m
    → visit l b most room w t n ≡ v → visit l c other space w t m ≡ v
same_visit l b c most other room space w t n m v p q r s h = rw (← p, ← q, ← r, ← s) h

-- how many tables are met
pub more_count : (found first : List Table) (k m n : ℕ) → m ≡ k + length found → n ≡ m + length first → n ≡ k + length (found ++ first)
more_count found first k m n p q = let l = length-append found first in omega arith

pub own_count : (k m n : ℕ) → m ≡ n + 1 + k → m ≡ n + suc k
own_count k m n p = omega arith

pub below_count : (k m n : ℕ) → m ≡ n + 1 + k → m - n - 1 ≡ k
below_count k m n p = omega arith

-- the root is the one child of the offset at place 0
pub one_child : (levels : ℕ) (b : List ℕ) (most room : ℕ) → children (child levels b most room 0 1) b 0 1 0 0 ≡ visited levels b most room
one_child levels b most room = bind_same (forward b 0) _ _ (λ t. alone (visit levels b most room top t 0))
  where
    alone : (m : Result (List Table) Fault) → m >>= (λ first. Ok (first ++ [])) ≡ m
    alone (Ok rs) = ap (λ (z : List Table). Ok z) (append-nil rs)
    alone (Err e) = refl
