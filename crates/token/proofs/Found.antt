-- What `found` answers of a value that may be there. Assumes nothing.
use Rattle.std.proofs.Common.{◌≡◌, ℕ, Some, None, Ok, Err, Option, refl, ap, arith}
use Rattle.refusal.specs.Checks.{found}
use Rattle.refusal.specs.declared.Refusal.{Refusal}

pub found_ok : {X : Type 0} (o : Option X) (e : Refusal) (x : X) → Ok x ≡ found o e → o ≡ Some x
found_ok (Some y) e x p = let q : y ≡ x = cc in ap Some q
found_ok None e x p = absurd (let z : ◌≡◌ {A = ℕ} 0 1 = cc in omega arith)

pub found_err : {X : Type 0} (o : Option X) (e r : Refusal) → Err r ≡ found o e → (r ≡ e) × (o ≡ None)
found_err (Some y) e r p = absurd (let z : ◌≡◌ {A = ℕ} 0 1 = cc in omega arith)
found_err None e r p = ((cc), refl)
