-- Laws of values that carry a limit: so, where the test holds; made_so, what a value was made from; holds, a test that holds is true.
use Rattle.std.proofs.Common.{◌≡◌, ℕ, Bool, true, false, T, Some, refl, arith}
use Rattle.refusal.specs.Making.{where_so}

pub so : {X : Type 0} (b : Bool) (make : T b → X) (p : T b) → Some (make p) ≡ where_so b make
so true make p = refl
so false make p = absurd p

pub made_so : {X : Type 0} (b : Bool) (make : T b → X) (x : X) → where_so b make ≡ Some x → (p : T b) × (make p ≡ x)
made_so true make x e = (tt, (cc))
made_so false make x e = absurd (let z : ◌≡◌ {A = ℕ} 0 1 = cc in omega arith)

pub holds : (b : Bool) → T b → b ≡ true
holds true t = refl
holds false t = absurd t
