-- Steps that came through: came, chosen. Assumes nothing.
use Rattle.std.proofs.Common.{◌≡◌, ℕ, Bool, true, false, cond, Some, None, Option, refl, arith}
use Rattle.fields.specs.Options.{and_then}

-- what a step that came through went on with
pub came : {X Y : Type 0} (o : Option X) (k : X → Option Y) (y : Y) → and_then o k ≡ Some y → (x : X) × (o ≡ Some x) × (k x ≡ Some y)
came None k y e = let z : ◌≡◌ {A = ℕ} 0 1 = cc in absurd (omega arith)
came (Some x) k y e = (x, refl, e)

pub chosen : {X : Type 0} (b : Bool) (x y : X) → cond b (Some x) None ≡ Some y → (b ≡ true) × (x ≡ y)
chosen true x y e = (refl, cc)
chosen false x y e = let z : ◌≡◌ {A = ℕ} 0 1 = cc in absurd (omega arith)
