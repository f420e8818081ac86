-- What adding an id answers, and what the list holds then.
use Rattle.std.specs.Prelude.{ℕ, Bool, cond, ◌&&◌, List, [], ◌∷◌, ◌++◌, length, Ok, Err, Result, nat_le, nat_lt}
use Rattle.ids.specs.declared.faults.Fault.{Fault}
use Rattle.ids.specs.declared.faults.Fault.TheVariants.{Length, Full, Closed}

-- Does an id have 1 to 64 bytes?
abbrev pub fitting : List ℕ → Bool
fitting id = nat_le 1 (length id) && nat_le (length id) 64

-- The answer to adding an id to a list that is open or not: its length counts first, then that the list is closed, then that
-- it has 64 ids.
abbrev pub added : List (List ℕ) → Bool → List ℕ → Result (Unit {0}) Fault
added ids is_open id =
    cond (fitting id) (cond is_open (cond (nat_lt (length ids) 64) (Ok tt) (Err Full)) (Err Closed)) (Err Length)

-- The ids after that answer: the new one is the last, or nothing has changed.
abbrev pub joined : Result (Unit {0}) Fault → List (List ℕ) → List ℕ → List (List ℕ)
joined (Ok _) ids id = ids ++ id ∷ []
joined (Err _) ids id = ids

-- The first of two answers that is a refusal, or the second.
infixr 10 ◌then◌
abbrev pub ◌then◌ : Result (Unit {0}) Fault → Result (Unit {0}) Fault → Result (Unit {0}) Fault
◌then◌ (Ok _) next = next
◌then◌ (Err e) next = Err e

-- The answer to adding several ids, one after another: the first refusal.
abbrev pub added_all : List (List ℕ) → Bool → List (List ℕ) → Result (Unit {0}) Fault
added_all ids is_open [] = Ok tt
added_all ids is_open (id ∷ more) = added ids is_open id then added_all (ids ++ id ∷ []) is_open more

-- The ids after that answer: all the new ones are behind the others, or nothing has changed.
abbrev pub joined_all : Result (Unit {0}) Fault → List (List ℕ) → List (List ℕ) → List (List ℕ)
joined_all (Ok _) ids more = ids ++ more
joined_all (Err _) ids more = ids
