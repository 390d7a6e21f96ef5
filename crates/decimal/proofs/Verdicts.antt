-- What an answer says of the test that it stands behind: was_some, was_none.
use Rattle.std.proofs.Common.{◌≡◌, ℕ, Bool, true, false, cond, Some, None, refl, arith}

pub was_some : (t : Bool) (m b : ℕ) → Some b ≡ cond t (Some m) None → (t ≡ true) × (b ≡ m)
was_some true m b e = (refl, cc)
was_some false m b e = let z : ◌≡◌ {A = ℕ} 0 1 = cc in absurd (omega arith)

pub was_none : (t : Bool) (m : ℕ) → None ≡ cond t (Some m) None → t ≡ false
was_none true m e = let z : ◌≡◌ {A = ℕ} 0 1 = cc in absurd (omega arith)
was_none false m e = refl
