-- Steps in a row, regrouped.
use Rattle.std.proofs.Common.{◌≡◌, ℕ, Bool, true, false, Ok, Err, Result, refl, arith}
use Rattle.tables.specs.declared.faults.Fault.{Fault}
use Rattle.tables.specs.Outcome.{◌>>=◌, ◌>>◌, need}

pub no_more : ◌≡◌ {A = ℕ} 0 1 → ⊥
no_more z = omega arith

pub bind_assoc : {A B C : Type 0} (m : Result A Fault) (f : A → Result B Fault) (g : B → Result C Fault) → (m >>= f) >>= g ≡ m >>= (λ x. f x >>= g)
bind_assoc (Ok x) f g = refl
bind_assoc (Err e) f g = refl

pub bind_same : {A B : Type 0} (m : Result A Fault) (f g : A → Result B Fault) → ((x : A) → f x ≡ g x) → m >>= f ≡ m >>= g
bind_same (Ok x) f g h = h x
bind_same (Err e) f g h = refl

-- what went before an outcome that is no fault
pub bind_ok : {A B : Type 0} (m : Result A Fault) (f : A → Result B Fault) (y : B) → m >>= f ≡ Ok y → (x : A) × (m ≡ Ok x) × (f x ≡ Ok y)
bind_ok (Ok x) f y e = (x, refl, e)
bind_ok (Err x) f y e = let z : ◌≡◌ {A = ℕ} 0 1 = cc in absurd (no_more z)

pub need_ok : {B : Type 0} (c : Bool) (e : Fault) (x : Result B Fault) (y : B) → need c e >> x ≡ Ok y → (c ≡ true) × (x ≡ Ok y)
need_ok true e x y p = (refl, p)
need_ok false e x y p = let z : ◌≡◌ {A = ℕ} 0 1 = cc in absurd (no_more z)
