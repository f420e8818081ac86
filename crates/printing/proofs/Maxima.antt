-- The greatest number among the tables of records, as a maximum over the records finds it.
use Rattle.std.proofs.Common.{◌≡◌, ℕ, ◌+◌, ◌<◌, max, List, [], ◌∷◌, length, get_or, take, map, fold, Some, None, Option, unwrap_or, refl, sym, ap, ◌∙◌}
use native.Mathlib.Nat.{max-zero}
use Rattle.std.proofs.lemmas.List.Sums.{fold_more}
use Rattle.std.specs.List.{reduce}
use Rattle.std.specs.Ordering.{max_by_ordering, nat_cmp}
use Rattle.std.proofs.lemmas.List.Folds.{max_of_map}
use Rattle.tables.specs.declared.records.Table.{Table}
use Rattle.tables.specs.declared.records.Record.{Record}
use Rattle.printing.specs.Greatest.{number_of, greatest}

pub greatest_of_map : (f : Table → ℕ) (records : List (Option (Record ℕ)))
    → unwrap_or (reduce (λ p z. max_by_ordering (nat_cmp p z) p z) (map (number_of f) records)) 0 ≡ greatest f records
greatest_of_map f records = max_of_map (number_of f) records

-- One record more.
pub more : (f : Table → ℕ) (records : List (Option (Record ℕ))) (i n : ℕ) (slot : Option (Record ℕ))
    → i < length records → get_or records i None ≡ slot → n ≡ greatest f (take i records) → max n (number_of f slot) ≡ greatest f (take (i + 1) records)
more f records i n slot lt is inv =
    ap (λ m. max m (number_of f slot)) inv
    ∙ ap (λ s. max (greatest f (take i records)) (number_of f s)) (sym is)
    ∙ sym (fold_more (λ m s. max m (number_of f s)) 0 records i None lt)

-- One empty record more.
pub same : (f : Table → ℕ) (records : List (Option (Record ℕ))) (i n : ℕ)
    → i < length records → get_or records i None ≡ None → n ≡ greatest f (take i records) → n ≡ greatest f (take (i + 1) records)
same f records i n lt is inv = sym (max-zero n) ∙ more f records i n None lt is inv

-- A number that is 0 of every table.
pub nothing : (f : Table → ℕ) → ((t : Table) → f t ≡ 0) → (records : List (Option (Record ℕ))) → 0 ≡ greatest f records
nothing f zero [] = refl
nothing f zero (None ∷ records) = nothing f zero records
nothing f zero (Some r ∷ records) = nothing f zero records ∙ ap (λ n. fold (λ n r. max n (number_of f r)) n records) (sym (ap (max 0) (zero r.table)))
