-- A text is accepted exactly when it is the printed form of a tree within the limits.
use Rattle.std.proofs.Common.{◌≡◌, ℕ, suc, ◌+◌, ◌<◌, ◌≤◌, Bool, true, false, cond, ◌&&◌, leb, List, [], ◌∷◌, map, length, Some, None, Option, sym, refl, ap, ◌∙◌, subst, arith}
use Rattle.std.proofs.lemmas.List.{length-map}
use Rattle.std.proofs.ByRecursion.{All-append}
use Rattle.std.proofs.lemmas.Bool.{le-leb, leb-true, cond-true}
use Rattle.std.specs.List.{AllByRecursion as All}
use Rattle.kinds.specs.declared.Kind.{Kind}
use Rattle.kinds.specs.declared.Kind.TheVariants as kind
use Rattle.dtype.specs.declared.faults.Fault.{Fault}
use Rattle.dtype.specs.declared.faults.Fault.TheVariants as fault
use Rattle.dtype.specs.declared.lines.Line.{Line}
use Rattle.dtype.specs.Row.{Row, rows_of}
use Rattle.dtype.specs.Tree.{Tree, Children, Within, Formed, FormedAll, Allowed, Fields, printed, printed_rows, rows, rows_below, height, heights, size}
use Rattle.dtype.specs.Form.{lines_of, forms_of}
use Rattle.dtype.specs.Order.{first_bad, first_fault, refusal_of}
use Rattle.dtype.specs.Use.{roots, first_tree, tree_at}
use Rattle.dtype.specs.Accepted.{Holds}
use Rattle.kinds.proofs.Words.{same_some, never_some}
use Rattle.dtype.proofs.Words.{Clean}
use Rattle.dtype.proofs.Printing.{Printable, forms_printed, length_lines_printed, clean_forms, printed_forms}
use Rattle.dtype.proofs.Roots.{length_rows, only_root, subtree_at}
use Rattle.dtype.proofs.Grown.{passes, tree_of_lem}

-- The names of children are clean, whatever the kind.
abbrev CleanNames : Children → Type 0
CleanNames Children.none = Unit {0}
CleanNames (Children.child name t cs) = Clean name × CleanNames cs

fields_clean : (cs : Children) → Fields cs → CleanNames cs
fields_clean Children.none f = tt
fields_clean (Children.child name t cs) f = (f.0.2, fields_clean cs f.1)

allowed_clean : (k : Kind) (cs : Children) → Allowed k cs → CleanNames cs
allowed_clean kind.List cs a = subst CleanNames (sym a.1) (tt, tt)
allowed_clean kind.Struct cs a = fields_clean cs a
allowed_clean kind.Bool cs a = subst CleanNames (sym a) tt
allowed_clean kind.Utf8 cs a = subst CleanNames (sym a) tt
allowed_clean kind.Binary cs a = subst CleanNames (sym a) tt
allowed_clean (kind.Primitive p) cs a = subst CleanNames (sym a) tt

-- The lines of a tree within the limits can be printed and read.
mutual
  printable : (t : Tree) (d : ℕ) (name : List ℕ) → Clean name → Formed t → d + height t ≤ 16 → All Printable (rows d name t)
  printable (Tree.node k n cs) d name c f h = ((omega arith, c), printable_below cs (suc d) (allowed_clean k cs f.0) f.1 (omega arith))

  printable_below : (cs : Children) (d : ℕ) → CleanNames cs → FormedAll cs → d + heights cs ≤ 16 → All Printable (rows_below d cs)
  printable_below Children.none d c f h = tt
  printable_below (Children.child name t cs) d c f h = All-append Printable (rows d name t) (rows_below d cs) (printable t d name c.0 f.0 (omega arith)) (printable_below cs d c.1 f.1 (omega arith))

within_printable : (t : Tree) → Within t → All Printable (rows 0 [] t)
within_printable t w = printable t 0 [] tt w.formed (omega (arith, w.levels))

forms_of_lem : (t : Tree) → Within t → forms_of (printed t) ≡ map Some (rows 0 [] t)
forms_of_lem t w = forms_printed (rows 0 [] t) (within_printable t w)

-- A tree has a line.
begins : (t : Tree) → first_fault (map Some (rows 0 [] t)) ≡ first_bad 1 [] (map Some (rows 0 [] t))
begins (Tree.node k n cs) = refl

limits : (text : List ℕ) → length text ≤ 65536 → length (lines_of text) ≤ 256 → (leb (length text) 65536 && leb (length (lines_of text)) 256) ≡ true
limits text p q = ap (λ b. b && leb (length (lines_of text)) 256) (le-leb _ _ p) ∙ le-leb _ _ q

-- The printed form of a tree within the limits is accepted.
pub accepts : (t : Tree) → Within t → refusal_of (printed t) ≡ None
accepts t w =
    cond-true _ _ _ (limits (printed t) w.bytes (omega (arith, length_lines_printed (rows 0 [] t) (within_printable t w), length_rows t 0 [], w.lines)))
    ∙ ap first_fault (forms_of_lem t w) ∙ begins t ∙ passes t w.formed w.levels

-- Two trees are not printed alike.
map_some : (xs ys : List Row) → map Some xs ≡ map Some ys → xs ≡ ys
map_some [] [] e = refl
map_some [] (y ∷ ys) e = cc
map_some (x ∷ xs) [] e = cc
map_some (x ∷ xs) (y ∷ ys) e = let rest = map_some xs ys (cc) in cc

pub printed_once : (t u : Tree) → Within t → Within u → printed t ≡ printed u → t ≡ u
printed_once t u v w e =
    let same : rows 0 [] t ≡ rows 0 [] u = map_some _ _ (sym (forms_of_lem t v) ∙ ap forms_of e ∙ forms_of_lem u w) in
    same_some (ap first_tree (sym (only_root t) ∙ ap roots same ∙ only_root u))

-- A refusal of none: the text is within the limits, and no line is bad.
split : (a b : Bool) (x : Option Fault) → cond (a && b) x (Some fault.Size) ≡ None → (a ≡ true) × (b ≡ true) × (x ≡ None)
split true true x e = (refl, refl, e)
split true false x e = absurd (cc)
split false b x e = absurd (cc)

some_line : (rs : List Row) → first_fault (map Some rs) ≡ None → (0 < length rs) × (first_bad 1 [] (map Some rs) ≡ None)
some_line [] e = absurd (cc)
some_line (r ∷ rs) e = (omega arith, e)

-- The lines of an accepted text are those of a tree within the limits, and the text is its printed form.
pub accepted : (text : List ℕ) (rs : List Row) → refusal_of text ≡ None → forms_of text ≡ map Some rs → (t : Tree) × Within t × (text ≡ printed t) × (rs ≡ rows 0 [] t)
accepted text rs e f =
    let (bytes, lines, good) = split (leb (length text) 65536) (leb (length (lines_of text)) 256) (first_fault (forms_of text)) e in
    let (some, fine) = some_line rs (sym (ap first_fault f) ∙ good) in
    let (t, is, formed, levels) = tree_of_lem rs some fine (clean_forms text rs f) in
    let low : All (λ r. r.depth ≤ 15) rs = subst (All (λ r. r.depth ≤ 15)) (sym is) (depths (rows 0 [] t) (printable t 0 [] tt formed (omega (arith, levels)))) in
    let text_is : text ≡ printed t = (printed_forms text rs f low).0 ∙ ap printed_rows is in
    let count : size t ≡ length (lines_of text) = sym (length_rows t 0 []) ∙ sym (ap length is) ∙ sym (length-map rs Some) ∙ sym (ap length f) ∙ length-map (lines_of text) _ in
    (t, record { formed = formed; levels = levels; lines = omega (arith, leb-true _ _ lines, count); bytes = omega (arith, leb-true _ _ bytes, ap length text_is) }, text_is, is)
  where
    depths : (rs : List Row) → All Printable rs → All (λ r. r.depth ≤ 15) rs
    depths [] a = tt
    depths (r ∷ rs) a = (a.0.0, depths rs a.1)

-- What reading promises of an accepted text, and of a refused one.
pub holds : (text : List ℕ) (lines : List Line) → refusal_of text ≡ None → forms_of text ≡ map Some (rows_of lines) → (t : Tree) × Holds text lines t
holds text lines e f =
    let (t, w, text_is, lines_are) = accepted text (rows_of lines) e f in (
      t,
      record {
        within = w;
        text_is = text_is;
        lines_are = lines_are;
        parts = λ n. ap (λ rs. tree_at rs (suc n)) lines_are ∙ subtree_at t n;
        only = λ u v p. printed_once u t v w (sym p ∙ text_is);
      },
    )

pub refused : (text : List ℕ) (x : Fault) → refusal_of text ≡ Some x → (t : Tree) → Within t → text ≡ printed t → ⊥
refused text x e t w p = never_some (sym (accepts t w) ∙ ap refusal_of (sym p) ∙ e)

-- What the lines that are kept are printed as is the text.
pub kept : (text : List ℕ) (lines : List Line) (t : Tree) → Holds text lines t → printed_rows (rows_of lines) ≡ text
kept text lines t h = ap printed_rows h.lines_are ∙ sym h.text_is
