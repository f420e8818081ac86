-- The visit finds a layout exactly where one stands within the limits, and there is no other.
use Rattle.std.proofs.Common.{◌≡◌, ℕ, zero, suc, ◌+◌, ◌-◌, ◌*◌, ◌<◌, ◌≤◌, ltb, List, [], ◌∷◌, ◌++◌, length, Ok, Result, sym, refl, ap, ◌∙◌, subst, inl, inr, arith, length-append}
use Rattle.std.proofs.lemmas.Bool.{ltb-true, lt-ltb}
use Rattle.tables.specs.declared.faults.Fault.{Fault}
use Rattle.tables.specs.declared.faults.Fault.TheVariants.{TooManyTables, NoRecord}
use Rattle.tables.specs.declared.reads.Vtable.{Vtable}
use Rattle.tables.specs.declared.records.Part.{Part}
use Rattle.tables.specs.declared.records.Table.{Table}
use Rattle.tables.specs.declared.visit.Spot.{Spot}
use Rattle.tables.specs.Outcome.{◌>>=◌, ◌>>◌, need}
use Rattle.tables.specs.Answer.{part_of}
use Rattle.tables.specs.Read.{forward, vtable, entry, scalar, vector}
use Rattle.tables.specs.Format.{Vector, numbers, Layout, Layouts, Stands, StandAll, size, sizes, height, heights}
use Rattle.tables.specs.Listing.{many, Lists, ListAll}
use Rattle.tables.specs.Visit.{visit, children, below}
use Rattle.tables.proofs.Binds.{bind_ok, need_ok}
use Rattle.tables.proofs.Reading.{same_ok, never_ok, need_is, forward_ok, forward_is, vtable_ok, vtable_is, scalar_ok, scalar_is, vector_ok, vector_is}

one_more : (h l : ℕ) → h ≤ l → suc h ≤ suc l
one_more h l le = omega arith

with_root : (n k m : ℕ) → n + 1 + k ≤ m → n + suc k ≤ m
with_root n k m le = omega arith

up_to : (n m : ℕ) → n < m → n + 1 ≤ m
up_to n m lt = omega arith

-- a vector's elements lie inside
part_inside : (w : ℕ) (b : List ℕ) (t : ℕ) (v : Vtable) (i : ℕ) (p : Part) → Vector w b t v i p → p.from + p.count * w ≤ length b
part_inside w b t v i p (inl a) = let f : p.from ≡ 0 = ap (λ (p : Part). p.from) a.1 in let c : p.count ≡ 0 = ap (λ (p : Part). p.count) a.1 in rw (f, c) (omega arith)
part_inside w b t v i p (inr s) = let le = s.6 in rw s.5 le

module _ (b : List ℕ) (most room : ℕ) where
  -- what is said of the tables that were found
  abbrev pub Found : ℕ → Spot → ℕ → ℕ → List Table → Type 0
  Found l w t n rows =
      (T : Layout) × Stands T b t × Lists T b w n rows × (length rows ≡ size T) × (height T ≤ l) × (n + size T ≤ most) × (n + size T ≤ room)

  abbrev FoundAll : ℕ → Spot → ℕ → ℕ → ℕ → ℕ → ℕ → List Table → Type 0
  FoundAll l w n p count i c rows =
      (ks : Layouts) × StandAll ks b p count × ListAll ks b w n i c rows × (length rows ≡ sizes ks) × (heights ks ≤ l) × (c + sizes ks ≤ most) × (c + sizes ks ≤ room) × (many ks ≡ count)

  children_sound : (l : ℕ) (w : Spot) (n : ℕ) → ((w : Spot) (t c : ℕ) (rows : List Table) → visit l b most room w t c ≡ Ok rows → Found l w t c rows)
      → (count p i c : ℕ) (rows : List Table) → c ≤ most → c ≤ room → children (λ i. visit l b most room (below w n i)) b p count i c ≡ Ok rows → FoundAll l w n p count i c rows
  children_sound l w n one zero p i c rows m r e = (Layouts.none, refl, sym (same_ok e), ap length (sym (same_ok e)), omega arith, omega arith, omega arith, refl)
  children_sound l w n one (suc count) p i c rows m r e =
      let t = bind_ok (forward b p) _ rows e in
      let f = bind_ok (visit l b most room (below w n i) t.0 c) _ rows t.2 in
      let o = bind_ok (children (λ i. visit l b most room (below w n i)) b (p + 4) count (i + 1) (c + length f.0)) _ rows f.2 in
      let a = one (below w n i) t.0 c f.0 f.1 in
      let len : length f.0 ≡ size a.0 = a.3 in
      let m' : c + length f.0 ≤ most = (let x = a.5 in omega arith) in
      let r' : c + length f.0 ≤ room = (let x = a.6 in omega arith) in
      let z = children_sound l w n one count (p + 4) (i + 1) (c + length f.0) o.0 m' r' o.1 in
      let joined : f.0 ++ o.0 ≡ rows = same_ok o.2 in
      let lo = z.3 in
      let zm : c + length f.0 + sizes z.0 ≤ most = z.5 in
      let zr : c + length f.0 + sizes z.0 ≤ room = z.6 in (
        Layouts.◌with◌ a.0 z.0,
        (count, t.0, refl, forward_ok b p t.0 t.1, a.1, z.1),
        (f.0, o.0, sym joined, a.2, subst (λ (k : ℕ). ListAll z.0 b w n (i + 1) (c + k) o.0) len z.2),
        ap length (sym joined) ∙ length-append f.0 o.0 ∙ omega arith,
        (let h1 = a.4 in let h2 = z.4 in omega arith),
        omega arith,
        omega arith,
        ap suc z.7,
      )

  pub sound : (l : ℕ) (w : Spot) (t n : ℕ) (rows : List Table) → visit l b most room w t n ≡ Ok rows → Found l w t n rows
  sound zero w t n rows e = absurd (never_ok (bind_ok (vtable b t) _ rows e).2)
  sound (suc l) w t n rows e =
      let v = bind_ok (vtable b t) _ rows e in
      let m = need_ok (ltb n most) TooManyTables _ rows v.2 in
      let r = need_ok (ltb n room) NoRecord _ rows m.1 in
      let en = bind_ok (scalar 2 b t (entry b v.0 4)) _ rows r.1 in
      let ro = bind_ok (scalar 8 b t (entry b v.0 6)) _ rows en.2 in
      let me = bind_ok (vector 1 b t (entry b v.0 8)) _ rows ro.2 in
      let k = bind_ok (vector 4 b t (entry b v.0 10)) _ rows me.2 in
      let kids = bind_ok (children (λ i. visit l b most room (below w n i)) b k.0.from k.0.count 0 (n + 1)) _ rows k.2 in
      let se = bind_ok (vector 4 b t (entry b v.0 12)) _ rows kids.2 in
      let nm : n < most = ltb-true n most m.0 in
      let nr : n < room = ltb-true n room r.0 in
      let vt = vtable_ok b t v.0 v.1 in
      let z = children_sound l w n (sound l) k.0.count k.0.from 0 (n + 1) kids.0 (up_to n most nm) (up_to n room nr) kids.1 in
      let vm = vector_ok b t v.0 vt 8 refl 1 me.0 me.1 in
      let vk = vector_ok b t v.0 vt 10 refl 4 k.0 k.1 in
      let vs = vector_ok b t v.0 vt 12 refl 4 se.0 se.1 in
      let T = Layout.layout en.0 ro.0 (part_of 1 b me.0) z.0 (numbers b se.0.from se.0.count) in
      let st : Stands T b t = (
        v.0,
        vt,
        scalar_ok b t v.0 vt 4 refl 2 en.0 en.1,
        scalar_ok b t v.0 vt 6 refl 8 ro.0 ro.1,
        (me.0, vm, refl),
        (k.0, vk, z.1),
        (se.0, vs, refl),
      ) in
      let row : Table = record { rows = ro.0; metadata = me.0; segments = se.0; place = t; parent = w.parent; depth = w.depth; index = w.index; children = k.0.count; below = length kids.0; encoding = en.0 } in
      let le = z.3 in (
        T,
        st,
        (row, kids.0, sym (same_ok se.2), (st, refl, refl, part_inside 1 b t v.0 8 me.0 vm, refl, part_inside 4 b t v.0 12 se.0 vs, refl, sym z.7, le), (refl, refl, refl), z.2),
        ap length (sym (same_ok se.2)) ∙ ap suc le,
        one_more _ l z.4,
        with_root n _ most z.5,
        with_root n _ room z.6,
      )

has_height : (T : Layout) → 0 < height T
has_height (Layout.layout e r m ks s) = omega arith

module _ (b : List ℕ) (most room : ℕ) where
  -- a layout that stands within the limits is found
  abbrev Visited : ℕ → Spot → ℕ → ℕ → ℕ → Type 0
  Visited l w t n len = (rows : List Table) × (visit l b most room w t n ≡ Ok rows) × (length rows ≡ len)

  mutual
    pub complete_visit : (T : Layout) (l : ℕ) (w : Spot) (t n : ℕ) → Stands T b t → height T ≤ suc l → n + size T ≤ most → n + size T ≤ room → Visited (suc l) w t n (size T)
    complete_visit (Layout.layout e r m ks s) l w t n st h m' r' =
        let v = st.0 in
        let vt = st.1 in
        let me = st.4 in
        let k = st.5 in
        let se = st.6 in
        let kids = complete_children ks l w n k.0.from k.0.count 0 (n + 1) k.2 (omega arith) (omega arith) (omega arith) in
        let row : Table = record { rows = r; metadata = me.0; segments = se.0; place = t; parent = w.parent; depth = w.depth; index = w.index; children = k.0.count; below = length kids.0; encoding = e } in (
          row ∷ kids.0,
          ap (λ (z : Result Vtable Fault). z >>= (λ v. after_vtable v)) (vtable_is b t v vt)
              ∙ need_is (ltb n most) TooManyTables _ (lt-ltb n most (omega arith)) ∙ need_is (ltb n room) NoRecord _ (lt-ltb n room (omega arith))
              ∙ ap (λ (z : Result ℕ Fault). z >>= after_encoding v) (scalar_is b t v vt 4 refl 2 e st.2)
              ∙ ap (λ (z : Result ℕ Fault). z >>= after_rows v e) (scalar_is b t v vt 6 refl 8 r st.3)
              ∙ ap (λ (z : Result Part Fault). z >>= after_metadata v e r) (vector_is b t v vt 8 refl 1 me.0 me.1)
              ∙ ap (λ (z : Result Part Fault). z >>= after_offsets v e r me.0) (vector_is b t v vt 10 refl 4 k.0 k.1)
              ∙ ap (λ (z : Result (List Table) Fault). z >>= after_kids v e r me.0 k.0) kids.1
              ∙ ap (λ (z : Result Part Fault). z >>= (λ p. Ok (record { rows = r; metadata = me.0; segments = p; place = t; parent = w.parent; depth = w.depth; index = w.index; children = k.0.count; below = length kids.0; encoding = e } ∷ kids.0))) (vector_is b t v vt 12 refl 4 se.0 se.1),
          ap suc kids.2,
        )
      where
        after_kids : Vtable → ℕ → ℕ → Part → Part → List Table → Result (List Table) Fault
        after_kids v e r m k kids = vector 4 b t (entry b v 12) >>= (λ p. Ok (record { rows = r; metadata = m; segments = p; place = t; parent = w.parent; depth = w.depth; index = w.index; children = k.count; below = length kids; encoding = e } ∷ kids))

        after_offsets : Vtable → ℕ → ℕ → Part → Part → Result (List Table) Fault
        after_offsets v e r m k = children (λ i. visit l b most room (below w n i)) b k.from k.count 0 (n + 1) >>= after_kids v e r m k

        after_metadata : Vtable → ℕ → ℕ → Part → Result (List Table) Fault
        after_metadata v e r m = vector 4 b t (entry b v 10) >>= after_offsets v e r m

        after_rows : Vtable → ℕ → ℕ → Result (List Table) Fault
        after_rows v e r = vector 1 b t (entry b v 8) >>= after_metadata v e r

        after_encoding : Vtable → ℕ → Result (List Table) Fault
        after_encoding v e = scalar 8 b t (entry b v 6) >>= after_rows v e

        after_vtable : Vtable → Result (List Table) Fault
        after_vtable v = need (ltb n most) TooManyTables >> (need (ltb n room) NoRecord >> (scalar 2 b t (entry b v 4) >>= after_encoding v))

    complete_children : (ks : Layouts) (l : ℕ) (w : Spot) (n p count i c : ℕ) → StandAll ks b p count → heights ks ≤ l → c + sizes ks ≤ most → c + sizes ks ≤ room
        → (rows : List Table) × (children (λ i. visit l b most room (below w n i)) b p count i c ≡ Ok rows) × (length rows ≡ sizes ks)
    complete_children Layouts.none l w n p count i c st h m r = ([], ap (λ (z : ℕ). children (λ i. visit l b most room (below w n i)) b p z i c) st, refl)
    complete_children (Layouts.◌with◌ k ks) l w n p count i c st h m r =
        let hk = has_height k in
        let e : suc (l - 1) ≡ l = omega arith in
        let first = complete_visit k (l - 1) (below w n i) st.1 c st.4 (omega arith) (omega arith) (omega arith) in
        let v : visit l b most room (below w n i) st.1 c ≡ Ok first.0 = subst (λ (l : ℕ). visit l b most room (below w n i) st.1 c ≡ Ok first.0) e first.1 in
        let len : length first.0 ≡ size k = first.2 in
        let others = complete_children ks l w n (p + 4) st.0 (i + 1) (c + length first.0) st.5 (omega arith) (omega arith) (omega arith) in
        let lo = others.2 in (
          first.0 ++ others.0,
          ap (λ (z : ℕ). children (λ i. visit l b most room (below w n i)) b p z i c) st.2
              ∙ ap (λ (z : Result ℕ Fault). z >>= (λ t. visit l b most room (below w n i) t c >>= more)) (forward_is b p st.1 st.3)
              ∙ ap (λ (z : Result (List Table) Fault). z >>= more) v
              ∙ ap (λ (z : Result (List Table) Fault). z >>= (λ os. Ok (first.0 ++ os))) others.1,
          length-append first.0 others.0 ∙ omega arith,
        )
      where
        more : List Table → Result (List Table) Fault
        more first = children (λ i. visit l b most room (below w n i)) b (p + 4) st.0 (i + 1) (c + length first) >>= (λ os. Ok (first ++ os))

no_count : (c n : ℕ) → c ≡ 0 → c ≡ suc n → ⊥
no_count c n e f = omega arith

same_count : (c n m : ℕ) → c ≡ suc n → c ≡ suc m → n ≡ m
same_count c n m e f = omega arith

-- no two layouts stand at one place
module _ (b : List ℕ) where
  mutual
    pub only : (T U : Layout) (t : ℕ) → Stands T b t → Stands U b t → T ≡ U
    only (Layout.layout e r m ks s) (Layout.layout e' r' m' ks' s') t x y =
        let v : x.0 ≡ y.0 = same_ok (sym (vtable_is b t x.0 x.1) ∙ vtable_is b t y.0 y.1) in
        let ee : e ≡ e' = same_ok (sym (scalar_is b t x.0 x.1 4 refl 2 e x.2) ∙ ap (λ (v : Vtable). scalar 2 b t (entry b v 4)) v ∙ scalar_is b t y.0 y.1 4 refl 2 e' y.2) in
        let rr : r ≡ r' = same_ok (sym (scalar_is b t x.0 x.1 6 refl 8 r x.3) ∙ ap (λ (v : Vtable). scalar 8 b t (entry b v 6)) v ∙ scalar_is b t y.0 y.1 6 refl 8 r' y.3) in
        let pm : x.4.0 ≡ y.4.0 = same_ok (sym (vector_is b t x.0 x.1 8 refl 1 x.4.0 x.4.1) ∙ ap (λ (v : Vtable). vector 1 b t (entry b v 8)) v ∙ vector_is b t y.0 y.1 8 refl 1 y.4.0 y.4.1) in
        let pk : x.5.0 ≡ y.5.0 = same_ok (sym (vector_is b t x.0 x.1 10 refl 4 x.5.0 x.5.1) ∙ ap (λ (v : Vtable). vector 4 b t (entry b v 10)) v ∙ vector_is b t y.0 y.1 10 refl 4 y.5.0 y.5.1) in
        let ps : x.6.0 ≡ y.6.0 = same_ok (sym (vector_is b t x.0 x.1 12 refl 4 x.6.0 x.6.1) ∙ ap (λ (v : Vtable). vector 4 b t (entry b v 12)) v ∙ vector_is b t y.0 y.1 12 refl 4 y.6.0 y.6.1) in
        let mm : m ≡ m' = x.4.2 ∙ ap (λ (p : Part). part_of 1 b p) pm ∙ sym y.4.2 in
        let ss : s ≡ s' = x.6.2 ∙ ap (λ (p : Part). numbers b p.from p.count) ps ∙ sym y.6.2 in
        let kk : ks ≡ ks' = only_all ks ks' x.5.0.from x.5.0.count x.5.2 (subst (λ (p : Part). StandAll ks' b p.from p.count) (sym pk) y.5.2) in
        ap (λ (e : ℕ). Layout.layout e r m ks s) ee ∙ ap (λ (r : ℕ). Layout.layout e' r m ks s) rr ∙ ap (λ (m : List ℕ). Layout.layout e' r' m ks s) mm
        ∙ ap (λ (ks : Layouts). Layout.layout e' r' m' ks s) kk ∙ ap (λ (s : List ℕ). Layout.layout e' r' m' ks' s) ss

    only_all : (ks us : Layouts) (p count : ℕ) → StandAll ks b p count → StandAll us b p count → ks ≡ us
    only_all Layouts.none Layouts.none p count x y = refl
    only_all Layouts.none (Layouts.◌with◌ u us) p count x y = absurd (no_count count y.0 x y.2)
    only_all (Layouts.◌with◌ k ks) Layouts.none p count x y = absurd (no_count count x.0 y x.2)
    only_all (Layouts.◌with◌ k ks) (Layouts.◌with◌ u us) p count x y =
        let n : y.0 ≡ x.0 = same_count count y.0 x.0 y.2 x.2 in
        let t : y.1 ≡ x.1 = same_ok (sym (forward_is b p y.1 y.3) ∙ forward_is b p x.1 x.3) in
        let first : k ≡ u = only k u x.1 x.4 (subst (λ (t : ℕ). Stands u b t) t y.4) in
        let others : ks ≡ us = only_all ks us (p + 4) x.0 x.5 (subst (λ (n : ℕ). StandAll us b (p + 4) n) n y.5) in
        ap (λ (k : Layout). Layouts.◌with◌ k ks) first ∙ ap (λ (ks : Layouts). Layouts.◌with◌ u ks) others
