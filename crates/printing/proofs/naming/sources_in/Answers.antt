use Rattle.std.proofs.Common.{◌≡◌, ℕ, ◌<◌, List, ◌∷◌, ◌++◌, length, get_or, Some, Option, sym, refl, ap, ◌∙◌, subst, arith, lit<, length-append, Bor, MatchOption}
use Rattle.std.specs.Str.Iter.{LacksByte}
use Rattle.std.proofs.lemmas.List.{get_or_at}
use Rattle.std.proofs.lemmas.Str.Pattern.{IsSplitOnceResult, NoCharPasses-char, contains_char, split_parts, split_after}
use Rattle.printing.specs.declared.naming.Sources.{Sources}
use Rattle.printing.specs.Naming.{Named, Unnamed}
use Rattle.printing.proofs.naming.sources_in.Goals as goal

-- The two parts of a line that is cut at its first tab.
parts : (line : List ℕ) (x : Bor (List ℕ) × Bor (List ℕ)) → IsSplitOnceResult 9 line (Some x) → (line ≡ x.0.now ++ (9 ∷ x.1.now)) × LacksByte 9 x.0.now
parts line x h = split_parts 9 line (Some x) h (lit< tt)

-- They are those of any other cut at a first tab.
only : (line : List ℕ) (x : Bor (List ℕ) × Bor (List ℕ)) (front rest : List ℕ)
    → IsSplitOnceResult 9 line (Some x) → line ≡ front ++ (9 ∷ rest) → LacksByte 9 front → (x.0.now ≡ front) × (x.1.now ≡ rest)
only line x front rest h e lacks = split_after 9 line front rest (Some x) h (lit< tt) e lacks

-- A line with a tab does not lack one.
has_tab : (line front rest : List ℕ) → line ≡ front ++ (9 ∷ rest) → LacksByte 9 line → ⊥
has_tab line front rest e lacks =
    let l : length line ≡ length (front ++ (9 ∷ rest)) = ap length e in
    let lt : length front < length line = omega (arith, simp length-append at l) in
    lacks (length front) lt (ap (λ (xs : List ℕ). get_or xs (length front) 0) e ∙ get_or_at front 9 rest 0 (length front) refl)

pub returns-in_default : goal.returns-in_default
returns-in_default c = (refl, λ k lt is. NoCharPasses-char 9 c.args.line.now k c.in_default.ensures.cases (lit< tt) lt is)

pub returns-in_err-dtype : goal.returns-in_err-dtype
returns-in_err-dtype c =
    let line = c.args.line.now in
    let rest = c.in-Some.rest.now in
    let p = parts line (c.in-Some.tables, c.in-Some.rest) c.in-Some.ensures.cases in
    let lacks : LacksByte 9 rest = λ k lt is. NoCharPasses-char 9 rest k c.in_err-dtype.ensures.cases (lit< tt) lt is in
    let P : Option Sources → Type 0 = λ r. MatchOption r (Unnamed line) (Named line) in
    subst P (sym c.from_residual.ensures) (record {
      not_one = has_tab line _ _ p.0;
      not_three = λ t d i n. has_tab rest d i (only line (c.in-Some.tables, c.in-Some.rest) t _ c.in-Some.ensures.cases n.whole n.first).1 lacks;
    })

pub returns-then-contains : goal.returns-then-contains
returns-then-contains c =
    let line = c.args.line.now in
    let rest = c.in-Some.rest.now in
    let ids = c.in_ok-dtype.ids.now in
    let p = parts line (c.in-Some.tables, c.in-Some.rest) c.in-Some.ensures.cases in
    let tab = (contains_char 9 ids c.contains.result c.contains.ensures.cases (lit< tt)).0 c.if-contains.true in
    record {
      not_one = has_tab line _ _ p.0;
      not_three = λ t d i n.
          let s = only line (c.in-Some.tables, c.in-Some.rest) t _ c.in-Some.ensures.cases n.whole n.first in
          let e : ids ≡ i = (only rest (c.in_ok-dtype.dtype, c.in_ok-dtype.ids) d i c.in_ok-dtype.ensures.cases s.1 n.second).1 in
          let l : length ids ≡ length i = ap length e in
          let lt : tab.0 < length i = omega (arith, tab.1) in
          n.third tab.0 lt (ap (λ (xs : List ℕ). get_or xs tab.0 0) (sym e) ∙ tab.2);
    }

pub returns : goal.returns
returns c =
    let p = parts c.args.line.now (c.in-Some.tables, c.in-Some.rest) c.in-Some.ensures.cases in
    let q = parts c.in-Some.rest.now (c.in_ok-dtype.dtype, c.in_ok-dtype.ids) c.in_ok-dtype.ensures.cases in
    let tab = (contains_char 9 c.in_ok-dtype.ids.now c.contains.result c.contains.ensures.cases (lit< tt)).1 in
    record {
      whole = p.0 ∙ ap (λ (xs : List ℕ). c.in-Some.tables.now ++ (9 ∷ xs)) q.0;
      first = p.1;
      second = q.1;
      third = λ k lt is. let t = tab k lt is in cc;
    }
