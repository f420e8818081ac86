-- A line that is printed is read back, and a line that is read was printed so.
use Rattle.std.proofs.Common.{◌≡◌, ℕ, suc, ◌+◌, ◌≤◌, List, [], ◌∷◌, ◌++◌, map, length, take, drop, Some, None, decimal, Option, sym, refl, ap, ◌∙◌, subst, arith}
use Rattle.std.proofs.ByRecursion.{All-append}
use Rattle.std.proofs.lemmas.List.{append_assoc, length-map, length-append, take_at, drop_at, drop_all}
use Rattle.std.specs.List.{flat_map, AllByRecursion as All}
use Rattle.kinds.specs.declared.Kind.{Kind}
use Rattle.kinds.specs.declared.Nullability.{Nullability}
use Rattle.dtype.specs.Row.{Row}
use Rattle.kinds.specs.Word.{kind_named, mark_named}
use Rattle.dtype.specs.Form.{◌>>=◌, place, lines_of, OneLine, depth_of, without_tab, last_field, fields_of, form_of, forms_of}
use Rattle.dtype.specs.Tree.{printed_row, printed_rows}
use Rattle.kinds.specs.Word.{kind_word, mark_word}
use Rattle.kinds.proofs.Words.{same_some}
use Rattle.dtype.proofs.Places.{Free, bind_some, place_append, free_none, none_free, place_some}
use Rattle.kinds.proofs.Words.{kind_word_lem, word_kind, mark_word_lem, word_mark}
use Rattle.dtype.proofs.Words.{Clean, clean_tab, clean_end, clean_both, clean_kind, clean_mark, clean_decimal, depth_decimal, decimal_depth}
use Rattle.dtype.proofs.Breaks.{each_one_line, joined_lines, lines_append, form_ended}

-- A field up to a tab, read by `read`, and what is made of the rest: `fields_of` is three of these and `name_then`.
abbrev cut : {A B : Type 0} → (List ℕ → Option A) → (A → List ℕ → Option B) → List ℕ → Option B
cut read then s = do
  n ← place 9 s
  x ← read (take n s)
  then x (drop (n + 1) s)

abbrev name_then : ℕ → Kind → Nullability → List ℕ → Option Row
name_then d k m s = do
  name ← last_field s
  Some (record { depth = d; kind = k; nullability = m; name = name })

module _ {A B : Type 0} (read : List ℕ → Option A) (then : A → List ℕ → Option B) where
  -- a field that can be read, with a tab behind it
  cut_field : (w rest : List ℕ) (x : A) → Free 9 w → read w ≡ Some x → cut read then (w ++ (9 ∷ rest)) ≡ then x rest
  cut_field w rest x f e =
      ap (λ (o : Option ℕ). ◌>>=◌ o (λ n. ◌>>=◌ (read (take n (w ++ (9 ∷ rest)))) (λ y. then y (drop (n + 1) (w ++ (9 ∷ rest)))))) (place_append 9 w rest f)
      ∙ ap (λ (o : Option A). ◌>>=◌ o (λ y. then y (drop (length w + 1) (w ++ (9 ∷ rest))))) (ap read (take_at w (9 ∷ rest) (length w) refl) ∙ e)
      ∙ ap (then x) (ap (drop (length w + 1)) (sym (append_assoc w (9 ∷ []) rest)) ∙ drop_at (w ++ (9 ∷ [])) rest (length w + 1) (length-append w (9 ∷ [])))

  -- where fields are read, the first ends at a tab
  cut_some : (s : List ℕ) (y : B) → cut read then s ≡ Some y → (w : List ℕ) × (x : A) × (rest : List ℕ) × (s ≡ w ++ (9 ∷ rest)) × Free 9 w × (read w ≡ Some x) × (then x rest ≡ Some y)
  cut_some s y e =
      let n = bind_some (place 9 s) _ y e in
      let x = bind_some (read (take n.0 s)) _ y n.2 in
      let at = place_some 9 s n.0 n.1 in
      (take n.0 s, x.0, drop (n.0 + 1) s, at.1, at.2, x.1, x.2)

-- a name is the last field just where no tab stands in it
last_field_lem : (s : List ℕ) → Free 9 s → last_field s ≡ Some s
last_field_lem s f = ap (without_tab s) (free_none 9 s f)

field_last : (s name : List ℕ) → last_field s ≡ Some name → (s ≡ name) × Free 9 s
field_last s name e = split (place 9 s) refl e
  where
    split : (o : Option ℕ) → place 9 s ≡ o → without_tab s o ≡ Some name → (s ≡ name) × Free 9 s
    split None p h = (same_some h, none_free 9 s p)
    split (Some n) p h = absurd (cc)

-- A line without its 0A.
abbrev pub printed_fields : Row → List ℕ
printed_fields r = decimal r.depth ++ (9 ∷ (kind_word r.kind ++ (9 ∷ (mark_word r.nullability ++ (9 ∷ r.name)))))

pub fields_row : (r : Row) → printed_row r ≡ printed_fields r ++ (10 ∷ [])
fields_row r =
    sym (append_assoc (decimal r.depth) (9 ∷ (kind_word r.kind ++ (9 ∷ (mark_word r.nullability ++ (9 ∷ r.name))))) (10 ∷ [])
    ∙ ap (λ z. decimal r.depth ++ (9 ∷ z)) (append_assoc (kind_word r.kind) (9 ∷ (mark_word r.nullability ++ (9 ∷ r.name))) (10 ∷ [])
    ∙ ap (λ z. kind_word r.kind ++ (9 ∷ z)) (append_assoc (mark_word r.nullability) (9 ∷ r.name) (10 ∷ []))))

-- a row that can be printed: it is not too deep, and its name is clean
abbrev pub Printable : Row → Type 0
Printable r = (r.depth ≤ 15) × Clean r.name

-- 0A stands in no field
printed_free : (r : Row) → Printable r → Free 10 (printed_fields r)
printed_free r p =
    put (decimal r.depth) _ (clean_decimal r.depth p.0) (put (kind_word r.kind) _ (clean_kind r.kind) (put (mark_word r.nullability) _ (clean_mark r.nullability) (clean_end r.name p.1)))
  where
    put : (w rest : List ℕ) → Clean w → Free 10 rest → Free 10 (w ++ (9 ∷ rest))
    put w rest c f = All-append (λ (b : ℕ). b ≡ 10 → ⊥) w (9 ∷ rest) (clean_end w c) ((λ e. omega arith), f)

-- the fields that are printed are read back
pub fields_printed : (r : Row) → Printable r → fields_of (printed_fields r) ≡ Some r
fields_printed r p =
    cut_field depth_of (λ d. cut kind_named (λ k. cut mark_named (λ m. name_then d k m))) (decimal r.depth) _ r.depth
    (clean_tab (decimal r.depth) (clean_decimal r.depth p.0)) (depth_decimal r.depth p.0)
    ∙ cut_field kind_named (λ k. cut mark_named (λ m. name_then r.depth k m)) (kind_word r.kind) _ r.kind
    (clean_tab (kind_word r.kind) (clean_kind r.kind)) (kind_word_lem r.kind)
    ∙ cut_field mark_named (λ m. name_then r.depth r.kind m) (mark_word r.nullability) _ r.nullability
    (clean_tab (mark_word r.nullability) (clean_mark r.nullability)) (mark_word_lem r.nullability)
    ∙ ap (λ (o : Option (List ℕ)). ◌>>=◌ o (λ name. Some (record { depth = r.depth; kind = r.kind; nullability = r.nullability; name = name }))) (last_field_lem r.name (clean_tab r.name p.1))

-- a line that is printed is read back
pub form_printed : (r : Row) → r.depth ≤ 15 → Clean r.name → form_of (printed_row r) ≡ Some r
form_printed r le c =
    ap form_of (fields_row r)
    ∙ form_ended (printed_fields r ++ (10 ∷ [])) (length (printed_fields r)) (place_append 10 (printed_fields r) [] (printed_free r (le, c)))
    ∙ ap fields_of (take_at (printed_fields r) (10 ∷ []) (length (printed_fields r)) refl)
    ∙ fields_printed r (le, c)

-- What a line without its 0A says, as its fields.
abbrev pub Says : List ℕ → Row → Type 0
Says s r = (w : List ℕ) × (depth_of w ≡ Some r.depth) × (s ≡ w ++ (9 ∷ (kind_word r.kind ++ (9 ∷ (mark_word r.nullability ++ (9 ∷ r.name)))))) × Free 9 r.name

name_some : (d : ℕ) (k : Kind) (m : Nullability) (s : List ℕ) (r : Row) → name_then d k m s ≡ Some r → (d ≡ r.depth) × (k ≡ r.kind) × (m ≡ r.nullability) × (s ≡ r.name) × Free 9 r.name
name_some d k m s r e =
    let n = bind_some (last_field s) (λ name. Some (record { depth = d; kind = k; nullability = m; name = name })) r e in
    let row : record { depth = d; kind = k; nullability = m; name = n.0 } ≡ r = same_some n.2 in
    let f = field_last s n.0 n.1 in
    let name : s ≡ r.name = f.0 ∙ ap (λ (r : Row). r.name) row in
    (ap (λ (r : Row). r.depth) row, ap (λ (r : Row). r.kind) row, ap (λ (r : Row). r.nullability) row, name, subst (Free 9) name f.1)

pub fields_some : (s : List ℕ) (r : Row) → fields_of s ≡ Some r → Says s r
fields_some s r e =
    let a = cut_some depth_of (λ d. cut kind_named (λ k. cut mark_named (λ m. name_then d k m))) s r e in
    let b = cut_some kind_named (λ k. cut mark_named (λ m. name_then a.1 k m)) a.2 r a.6 in
    let c = cut_some mark_named (λ m. name_then a.1 b.1 m) b.2 r b.6 in
    let n = name_some a.1 b.1 c.1 c.2 r c.6 in
    let marked : b.2 ≡ mark_word r.nullability ++ (9 ∷ r.name) = field b.2 c.0 _ c.2 _ c.3 (word_mark c.0 c.1 c.5 ∙ ap mark_word n.2) n.3 in
    let kept : a.2 ≡ kind_word r.kind ++ (9 ∷ (mark_word r.nullability ++ (9 ∷ r.name))) = field a.2 b.0 _ b.2 _ b.3 (word_kind b.0 b.1 b.5 ∙ ap kind_word n.1) marked in
    (a.0, a.5 ∙ ap (λ (d : ℕ). Some d) n.0, field s a.0 _ a.2 _ a.3 refl kept, n.4)
  where
    field : (s v w t u : List ℕ) → s ≡ v ++ (9 ∷ t) → v ≡ w → t ≡ u → s ≡ w ++ (9 ∷ u)
    field s v w t u e p q = cc

-- fields that are read were printed so
pub printed_fields_lem : (s : List ℕ) (r : Row) → fields_of s ≡ Some r → r.depth ≤ 15 → s ≡ printed_fields r
printed_fields_lem s r e le =
    let f = fields_some s r e in
    f.2 ∙ ap (λ w. w ++ (9 ∷ (kind_word r.kind ++ (9 ∷ (mark_word r.nullability ++ (9 ∷ r.name)))))) (decimal_depth f.0 r.depth f.1 le)

pub clean_fields : (s : List ℕ) (r : Row) → Free 10 s → fields_of s ≡ Some r → Clean r.name
clean_fields s r free e =
    let f = fields_some s r e in
    clean_both r.name f.3 (rest (mark_word r.nullability) r.name (rest (kind_word r.kind) _ (rest f.0 _ (subst (Free 10) f.2 free))))
  where
    rest : (w s : List ℕ) → Free 10 (w ++ (9 ∷ s)) → Free 10 s
    rest [] s h = h.1
    rest (x ∷ w) s h = rest w s h.1

-- a line that is read was printed so
pub printed_form : (l : List ℕ) (r : Row) → OneLine l → form_of l ≡ Some r → r.depth ≤ 15 → l ≡ printed_row r
printed_form l r one e le =
    let n = bind_some (place 10 l) (λ n. fields_of (take n l)) r e in
    let at = place_some 10 l n.0 n.1 in
    let end : drop (n.0 + 1) l ≡ [] = drop_all (n.0 + 1) l (whole (length l) n.0 (one n.0 n.1)) in
    at.1 ∙ both (printed_fields_lem (take n.0 l) r n.2 le) end ∙ sym (fields_row r)
  where
    whole : (k n : ℕ) → k ≡ suc n → k ≤ n + 1
    whole k n e = omega arith

    both : {v w s t : List ℕ} → v ≡ w → s ≡ t → v ++ (10 ∷ s) ≡ w ++ (10 ∷ t)
    both p q = cc

pub clean_form : (l : List ℕ) (r : Row) → form_of l ≡ Some r → Clean r.name
clean_form l r e =
    let n = bind_some (place 10 l) (λ n. fields_of (take n l)) r e in
    clean_fields (take n.0 l) r (place_some 10 l n.0 n.1).2 n.2

-- the lines of rows that are printed
pub lines_printed : (rs : List Row) → All Printable rs → lines_of (printed_rows rs) ≡ map printed_row rs
lines_printed [] h = refl
lines_printed (r ∷ rs) h =
    ap (λ z. lines_of (z ++ printed_rows rs)) (fields_row r)
    ∙ lines_append (printed_fields r) (printed_rows rs) (printed_free r h.0)
    ∙ ap (λ z. z ∷ lines_of (printed_rows rs)) (sym (fields_row r))
    ∙ ap (λ z. printed_row r ∷ z) (lines_printed rs h.1)

pub length_lines_printed : (rs : List Row) → All Printable rs → length (lines_of (printed_rows rs)) ≡ length rs
length_lines_printed rs h = ap length (lines_printed rs h) ∙ length-map rs printed_row

-- rows that are printed are read back
pub forms_printed : (rs : List Row) → All Printable rs → forms_of (printed_rows rs) ≡ map Some rs
forms_printed rs h = ap (map form_of) (lines_printed rs h) ∙ each rs h
  where
    each : (rs : List Row) → All Printable rs → map form_of (map printed_row rs) ≡ map Some rs
    each [] h = refl
    each (r ∷ rs) h = ap (λ z. z ∷ map form_of (map printed_row rs)) (form_printed r h.0.0 h.0.1) ∙ ap (λ z. Some r ∷ z) (each rs h.1)

-- rows that are read have clean names, and were printed so if none is too deep
pub clean_forms : (text : List ℕ) (rs : List Row) → forms_of text ≡ map Some rs → All (λ r. Clean r.name) rs
clean_forms text rs e = each (lines_of text) rs e
  where
    each : (ls : List (List ℕ)) (rs : List Row) → map form_of ls ≡ map Some rs → All (λ r. Clean r.name) rs
    each [] [] e = tt
    each [] (r ∷ rs) e = absurd (cc)
    each (l ∷ ls) [] e = absurd (cc)
    each (l ∷ ls) (r ∷ rs) e = (clean_form l r (cc), each ls rs (cc))

pub printed_forms : (text : List ℕ) (rs : List Row) → forms_of text ≡ map Some rs → All (λ r. r.depth ≤ 15) rs → (text ≡ printed_rows rs) × All (λ r. Clean r.name) rs
printed_forms text rs e h = (sym (joined_lines text) ∙ each (lines_of text) rs (each_one_line text) e h, clean_forms text rs e)
  where
    each : (ls : List (List ℕ)) (rs : List Row) → All OneLine ls → map form_of ls ≡ map Some rs → All (λ r. r.depth ≤ 15) rs → flat_map (λ l. l) ls ≡ printed_rows rs
    each [] [] one e h = refl
    each [] (r ∷ rs) one e h = absurd (cc)
    each (l ∷ ls) [] one e h = absurd (cc)
    each (l ∷ ls) (r ∷ rs) one e h =
        ap (λ z. z ++ flat_map (λ l. l) ls) (printed_form l r one.0 (cc) h.0)
        ∙ ap (λ z. printed_row r ++ z) (each ls rs one.1 (cc) h.1)
