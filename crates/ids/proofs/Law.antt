-- What the answer of the reader says of the text.
use Rattle.std.proofs.Common.{◌≡◌, ℕ, true, List, Ok, Err, Result, MatchResult}
use Rattle.ids.specs.declared.faults.ReadFault.{ReadFault}
use Rattle.ids.specs.declared.list.Ids.{Ids}
use Rattle.ids.specs.Value.{ids_of, is_open}
use Rattle.ids.specs.Lines.{ids_in}
use Rattle.ids.specs.File.{IsFile, Only, NoFile, WrongAt}
use Rattle.ids.proofs.Files.{accepted, only, none}
use Rattle.ids.proofs.Refusals.{wrong_at}

-- It is what reading line by line gives.
abbrev Value : List ℕ → Result Ids ReadFault → Type 0
Value t r = MatchResult r (λ s. (ids_in t ≡ Ok (ids_of s)) × (is_open s ≡ true)) (λ e. ids_in t ≡ Err e)

pub refused : (t : List ℕ) (r : Result Ids ReadFault) (e d : ReadFault) → ids_in t ≡ Err e → r ≡ Err d → d ≡ e → Value t r
refused t (Ok s) e d p q k = cc
refused t (Err x) e d p q k = cc

pub lawful : (t : List ℕ) (r : Result Ids ReadFault) → Value t r → MatchResult r (λ s. IsFile t (ids_of s) × Only t (ids_of s)) (λ e. NoFile t × WrongAt t e)
lawful t (Ok s) h = (accepted t (ids_of s) h.0, only t (ids_of s) h.0)
lawful t (Err e) h = (none t e h, wrong_at t e h)
