-- The record of each number tells of the layout of that number.
use Rattle.std.proofs.Common.{◌≡◌, ℕ, zero, suc, ◌+◌, ◌-◌, ◌*◌, ◌/◌, ◌<◌, ◌≤◌, ltb, leb, List, [], ◌∷◌, ◌++◌, length, get_or, take, drop, Some, None, Ok, Err, Option, Result, sym, refl, ap, ◌∙◌, subst, inl, inr, append_assoc, append-nil, arith, length-append, Bor, MatchResult, w32}
use Rattle.std.proofs.lemmas.List.{length-take, length-drop}
use Rattle.std.specs.Int.{from_le_bytes}
use Rattle.std.specs.Simd.{first_chunks}
use Rattle.std.proofs.lemmas.Result.{MatchResult-weaker}
use Rattle.std.proofs.lemmas.Bool.{cases_lt, cond-true, cond-false, lt-ltb, le-ltb, le-leb}
use Rattle.tables.specs.declared.faults.Missing.{Missing}
use Rattle.tables.specs.declared.faults.Missing.TheVariants as missing
use Rattle.tables.specs.declared.records.Part.{Part}
use Rattle.tables.specs.declared.records.Table.{Table}
use Rattle.tables.specs.declared.records.Record.{Record}
use Rattle.tables.specs.declared.segments.SegmentIds.{SegmentIds}
use Rattle.tables.specs.declared.visit.Spot.{Spot}
use Rattle.tables.specs.Answer.{part_of, number_at, table_at, metadata_in, metadata_at, segments_in, segments_at}
use Rattle.tables.specs.Read.{little}
use Rattle.tables.specs.Format.{Layout, Layouts, numbers, size, sizes}
use Rattle.tables.specs.Listing.{Tells, MetAt, Lists, ListAll, row_at, Holds}
use Rattle.tables.specs.Question.{layout_at, layouts_at, spot_at, spots_at, TellsOf, metadata_of, segments_of, numbers_in}
use Rattle.tables.specs.Visit.{below, top}
use Rattle.tables.proofs.Binds.{no_more}
use Rattle.tables.proofs.Littles.{little_take, little_drop, numbers_take, numbers_drop}

-- rows by their places
pub row_skip : (pre xs : List Table) (z : ℕ) → row_at (pre ++ xs) (length pre + z) ≡ row_at xs z
row_skip [] xs z = let e : 0 + z ≡ z = omega arith in ap (row_at xs) e
row_skip (r ∷ pre) xs z = let e : suc (length pre) + z ≡ suc (length pre + z) = omega arith in ap (row_at (r ∷ (pre ++ xs))) e ∙ row_skip pre xs z

pub row_front : (mid suf : List Table) (z : ℕ) → z < length mid → row_at (mid ++ suf) z ≡ row_at mid z
row_front [] suf z lt = let no' : ⊥ = omega arith in elim no' [ ]
row_front (r ∷ mid) suf zero lt = refl
row_front (r ∷ mid) suf (suc z) lt = row_front mid suf z (omega arith)

row_past : (rows : List Table) (x : ℕ) → length rows ≤ x → row_at rows x ≡ Err missing.Table
row_past [] x le = refl
row_past (r ∷ rows) zero le = let no' : ⊥ = omega arith in elim no' [ ]
row_past (r ∷ rows) (suc x) le = row_past rows x (omega arith)

pub never_some : {x : Layout} → ◌≡◌ {A = Option Layout} None (Some x) → ⊥
never_some e = let z : ◌≡◌ {A = ℕ} 0 1 = cc in no_more z

pub same_some : {x y : Layout} → ◌≡◌ {A = Option Layout} (Some x) (Some y) → x ≡ y
same_some e = cc

-- as many rows as tables
mutual
  pub lists_length : (T : Layout) (b : List ℕ) (w : Spot) (n : ℕ) (rows : List Table) → Lists T b w n rows → length rows ≡ size T
  lists_length (Layout.layout e r m ks s) b w n rows ls = ap length ls.2 ∙ ap suc (all_length ks b w n 0 (n + 1) ls.1 ls.5)

  all_length : (ks : Layouts) (b : List ℕ) (w : Spot) (n i c : ℕ) (rows : List Table) → ListAll ks b w n i c rows → length rows ≡ sizes ks
  all_length Layouts.none b w n i c rows ls = ap length ls
  all_length (Layouts.◌with◌ k ks) b w n i c rows ls =
      let f = lists_length k b (below w n i) c ls.0 ls.3 in
      let o = all_length ks b w n (i + 1) (c + size k) ls.1 ls.4 in
      ap length ls.2 ∙ length-append ls.0 ls.1 ∙ omega arith

-- the rows of the layout of number n + x stand together
abbrev pub PartOf : List ℕ → List Table → ℕ → ℕ → Layout → Spot → Type 0
PartOf b rows n x S at = (pre : List Table) × (mid : List Table) × (suf : List Table) × (w : Spot) × (rows ≡ pre ++ (mid ++ suf)) × (length pre ≡ x) × Lists S b w (n + x) mid × (w ≡ at)

mutual
  pub sub : (T : Layout) (b : List ℕ) (w : Spot) (n : ℕ) (rows : List Table) (x : ℕ) (S : Layout) → Lists T b w n rows → layout_at T x ≡ Some S → PartOf b rows n x S (spot_at T w n x)
  sub (Layout.layout e r m ks s) b w n rows zero S ls p =
      let z : n ≡ n + 0 = omega arith in
      ([], rows, [], w, sym (append-nil rows), refl, subst (λ (S : Layout). Lists S b w (n + 0) rows) (same_some p) (subst (λ (n : ℕ). Lists (Layout.layout e r m ks s) b w n rows) z ls), refl)
  sub (Layout.layout e r m ks s) b w n rows (suc x) S ls p =
      let k = sub_all ks b w n 0 (n + 1) ls.1 x S ls.5 p in
      let z : n + 1 + x ≡ n + suc x = omega arith in
      (ls.0 ∷ k.0, k.1, k.2, k.3, ls.2 ∙ ap (λ (l : List Table). ls.0 ∷ l) k.4, ap suc k.5, subst (λ (n : ℕ). Lists S b k.3 n k.1) z k.6, k.7)

  sub_all : (ks : Layouts) (b : List ℕ) (w : Spot) (n i c : ℕ) (rows : List Table) (x : ℕ) (S : Layout) → ListAll ks b w n i c rows → layouts_at ks x ≡ Some S → PartOf b rows c x S (spots_at ks w n i c x)
  sub_all Layouts.none b w n i c rows x S ls p = absurd (never_some p)
  sub_all (Layouts.◌with◌ k ks) b w n i c rows x S ls p =
      elim (cases_lt x (size k)) [
        | inl lt ↦
            (let f = sub k b (below w n i) c ls.0 x S ls.3 (sym (cond-true (ltb x (size k)) _ _ (lt-ltb x (size k) lt)) ∙ p) in (
              f.0,
              f.1,
              f.2 ++ ls.1,
              f.3,
              ls.2 ∙ ap (λ (l : List Table). l ++ ls.1) f.4 ∙ append_assoc f.0 (f.1 ++ f.2) ls.1 ∙ ap (λ (l : List Table). f.0 ++ l) (append_assoc f.1 f.2 ls.1),
              f.5,
              f.6,
              f.7 ∙ sym (cond-true (ltb x (size k)) _ _ (lt-ltb x (size k) lt)),
            ))
        | inr le ↦
            (let o = sub_all ks b w n (i + 1) (c + size k) ls.1 (x - size k) S ls.4 (sym (cond-false (ltb x (size k)) _ _ (le-ltb x (size k) le)) ∙ p) in
            let len = lists_length k b (below w n i) c ls.0 ls.3 in
            let here : c + size k + (x - size k) ≡ c + x = whole_way c (size k) x le in (
              ls.0 ++ o.0,
              o.1,
              o.2,
              o.3,
              ls.2 ∙ ap (λ (l : List Table). ls.0 ++ l) o.4 ∙ sym (append_assoc ls.0 o.0 (o.1 ++ o.2)),
              length-append ls.0 o.0 ∙ up_to_here (length ls.0) (length o.0) (size k) x len o.5 le,
              subst (λ (n : ℕ). Lists S b o.3 n o.1) here o.6,
              o.7 ∙ sym (cond-false (ltb x (size k)) _ _ (le-ltb x (size k) le)),
            ))
      ]
    where
      whole_way : (c s x : ℕ) → s ≤ x → c + s + (x - s) ≡ c + x
      whole_way c s x le = omega arith

      up_to_here : (a o s x : ℕ) → a ≡ s → o ≡ x - s → s ≤ x → a + o ≡ x
      up_to_here a o s x p q le = omega arith

-- a number that names no layout lies past the last
mutual
  none_past : (T : Layout) (x : ℕ) → layout_at T x ≡ None → size T ≤ x
  none_past (Layout.layout e r m ks s) zero p = absurd (never_some (sym p))
  none_past (Layout.layout e r m ks s) (suc x) p = let le = none_past_all ks x p in omega arith

  none_past_all : (ks : Layouts) (x : ℕ) → layouts_at ks x ≡ None → sizes ks ≤ x
  none_past_all Layouts.none x p = omega arith
  none_past_all (Layouts.◌with◌ k ks) x p =
      elim (cases_lt x (size k)) [
        | inl lt ↦ absurd (past_not (none_past k x (sym (cond-true (ltb x (size k)) _ _ (lt-ltb x (size k) lt)) ∙ p)) lt)
        | inr le ↦ past_both (none_past_all ks (x - size k) (sym (cond-false (ltb x (size k)) _ _ (le-ltb x (size k) le)) ∙ p)) le
      ]
    where
      past_not : {s x : ℕ} → s ≤ x → x < s → ⊥
      past_not p q = omega arith

      past_both : {s o x : ℕ} → o ≤ x - s → s ≤ x → s + o ≤ x
      past_both p q = omega arith

-- the record of a number tells of its layout
first_row : (S : Layout) (b : List ℕ) (w : Spot) (n : ℕ) (mid suf : List Table) → Lists S b w n mid → (row : Table) × (row_at (mid ++ suf) 0 ≡ Ok row) × Tells S b row × MetAt w row
first_row (Layout.layout e r m ks s) b w n mid suf ls = (ls.0, ap (λ (l : List Table). row_at (l ++ suf) 0) ls.2, ls.3, ls.4)

module _ {M : Type 0} (b : List ℕ) (T : Layout) (records : List (Option (Record M))) (n : ℕ) (holds : Holds b T records) where
  rows : List Table
  rows = holds.2.0

  told_at : (o : Option Layout) → layout_at T n ≡ o → TellsOf o (spot_at T top 0 n) b (table_at records n)
  unfolding rows
  told_at None e = holds.2.2 n ∙ row_past rows n (subst (λ (l : ℕ). l ≤ n) (sym (lists_length T b top 0 rows holds.2.1)) (none_past T n e))
  told_at (Some S) e =
      let p = sub T b top 0 rows n S holds.2.1 e in
      let f = first_row S b p.3 (0 + n) p.1 p.2 p.6 in
      let z : n ≡ length p.0 + 0 = (let l = p.5 in omega arith) in
      (f.0, holds.2.2 n ∙ ap (λ (l : List Table). row_at l n) p.4 ∙ ap (row_at (p.0 ++ (p.1 ++ p.2))) z ∙ row_skip p.0 (p.1 ++ p.2) 0 ∙ f.1, f.2, subst (λ (w : Spot). MetAt w f.0) p.7 f.3)

  pub told : TellsOf (layout_at T n) (spot_at T top 0 n) b (table_at records n)
  told = told_at (layout_at T n) refl

  metadata_told : (o : Option Layout) → TellsOf o (spot_at T top 0 n) b (table_at records n) → metadata_at b records n ≡ metadata_of o
  metadata_told None t = ap (metadata_in b) t
  metadata_told (Some (Layout.layout e r m ks s)) t =
      let q = t.2 in
      ap (metadata_in b) t.1 ∙ cond-true (leb (t.0.metadata.from + t.0.metadata.count * 1) (length b)) _ _ (le-leb _ _ q.3) ∙ ap (λ (l : List ℕ). Ok l) q.4

  pub metadata_is : metadata_at b records n ≡ metadata_of (layout_at T n)
  metadata_is = metadata_told (layout_at T n) told

-- numbers in a part of the bytes are those in the bytes
pub part_numbers : (b : List ℕ) (p : Part) → p.from + p.count * 4 ≤ length b → numbers_in (part_of 4 b p) ≡ numbers b p.from p.count
part_numbers b p le =
    let len : length (part_of 4 b p) ≡ p.count * 4 = length-take (p.count * 4) (drop p.from b) ∙ (let d = length-drop p.from b in omega arith) in
    let count : length (part_of 4 b p) / 4 ≡ p.count = omega arith in
    let at : p.from + 0 ≡ p.from = omega arith in
    ap (numbers (part_of 4 b p) 0) count ∙ numbers_take p.count (p.count * 4) (drop p.from b) 0 (omega arith) ∙ numbers_drop p.count p.from b 0 ∙ ap (λ (f : ℕ). numbers b f p.count) at

abbrev pub read : Result (List ℕ) Missing → Result (List ℕ) Missing
read (Ok l) = Ok (numbers_in l)
read (Err e) = Err e

module _ {M : Type 0} (b : List ℕ) (T : Layout) (records : List (Option (Record M))) (n : ℕ) (holds : Holds b T records) where
  segments_told : (o : Option Layout) → TellsOf o (spot_at T top 0 n) b (table_at records n) → read (segments_at b records n) ≡ segments_of o
  segments_told None t = ap (λ (r : Result Table Missing). read (segments_in b r)) t
  segments_told (Some (Layout.layout e r m ks s)) t =
      let q = t.2 in
      ap (λ (r : Result Table Missing). read (segments_in b r)) t.1
      ∙ ap read (cond-true (leb (t.0.segments.from + t.0.segments.count * 4) (length b)) _ _ (le-leb _ _ q.5))
      ∙ ap (λ (l : List ℕ). Ok l) (part_numbers b t.0.segments q.5 ∙ q.6)

  pub segments_is : read (segments_at b records n) ≡ segments_of (layout_at T n)
  segments_is = segments_told (layout_at T n) (told b T records n holds)

-- what an answer of records tells of the tree that they hold
pub tells_of : {M : Type 0} (records : List (Option (Record M))) (n : ℕ) (r : Result Table Missing) → r ≡ table_at records n
    → (b : List ℕ) (T : Layout) → Holds b T records → TellsOf (layout_at T n) (spot_at T top 0 n) b r
tells_of records n r e b T holds = subst (TellsOf (layout_at T n) (spot_at T top 0 n) b) (sym e) (told b T records n holds)

pub tells_metadata : {M : Type 0} (b : List ℕ) (records : List (Option (Record M))) (n : ℕ) (r : Result (Bor (List ℕ)) Missing)
    → MatchResult r (λ s. metadata_at b records n ≡ Ok s.now) (λ e. metadata_at b records n ≡ Err e)
    → (T : Layout) → Holds b T records → MatchResult r (λ s. metadata_of (layout_at T n) ≡ Ok s.now) (λ e. metadata_of (layout_at T n) ≡ Err e)
tells_metadata b records n r v T holds = let is = sym (metadata_is b T records n holds) in MatchResult-weaker r v (λ s p. is ∙ p) (λ e p. is ∙ p)

pub tells_segments : {M : Type 0} (b : List ℕ) (records : List (Option (Record M))) (n : ℕ) (r : Result SegmentIds Missing)
    → MatchResult r (λ s. segments_at b records n ≡ Ok s.bytes.now) (λ e. segments_at b records n ≡ Err e)
    → (T : Layout) → Holds b T records → MatchResult r (λ s. segments_of (layout_at T n) ≡ Ok (numbers_in s.bytes.now)) (λ e. segments_of (layout_at T n) ≡ Err e)
tells_segments b records n r v T holds = let is = sym (segments_is b T records n holds) in MatchResult-weaker r v (λ s p. is ∙ ap read p) (λ e p. is ∙ ap read p)

-- the first number, and those behind it
first_little : (b : List ℕ) → from_le_bytes w32 (take 4 b) ≡ little 4 b 0
first_little b =
    let same : from_le_bytes w32 (take 4 b) ≡ little 4 (take 4 b) 0 = omega arith in
    same ∙ little_take 4 4 b 0 (omega arith)

pub first_number : (b first others : List ℕ) → first ≡ take 4 b → others ≡ drop 4 b → 4 ≤ length b → numbers_in b ≡ from_le_bytes w32 first ∷ numbers_in others
first_number b first others p q le =
    let len = length-drop 4 b in
    let count : length b / 4 ≡ suc (length (drop 4 b) / 4) = omega arith in
    let at : 4 + 0 ≡ 4 = refl in
    rw (p, q, count, first_little b, numbers_drop (length (drop 4 b) / 4) 4 b 0) refl

-- the k-th chunk of four bytes holds the k-th number
chunk_number : (n k : ℕ) (b : List ℕ) (d : List ℕ) → k < n → from_le_bytes w32 (get_or (first_chunks 4 n b) k d) ≡ little 4 b (4 * k)
chunk_number zero k b d lt = let no' : ⊥ = omega arith in elim no' [ ]
chunk_number (suc n) zero b d lt = first_little b
chunk_number (suc n) (suc k) b d lt =
    let at : 4 + 4 * k ≡ 4 * suc k = omega arith in
    chunk_number n k (drop 4 b) d (omega arith) ∙ little_drop 4 4 b (4 * k) ∙ ap (little 4 b) at

pub number_is : (b : List ℕ) (k : ℕ) (chunk : List ℕ) → k < length b / 4 → chunk ≡ get_or (first_chunks 4 (length b / 4) b) k chunk → Some (from_le_bytes w32 chunk) ≡ number_at b k
number_is b k chunk lt e =
    ap (λ (n : ℕ). Some n) (ap (from_le_bytes w32) e ∙ chunk_number (length b / 4) k b chunk lt) ∙ sym (cond-true (ltb k (length b / 4)) _ _ (lt-ltb k (length b / 4) lt))
