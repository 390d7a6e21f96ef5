-- Laws of checks: how what comes after a check moves inside it (and_then-provided, and_then-found, through), and what follows
-- from what checks come to (was_ok, was_err, provided_ok, checked_ok, checked_err).
use Rattle.std.proofs.Common.{◌≡◌, ℕ, Bool, true, false, cond, ◌⊎◌, List, [], ◌∷◌, Some, None, Ok, Err, Result, refl, ap, ◌∙◌, inl, inr, ⊎_elim, arith}
use Rattle.refusal.specs.declared.Refusal.{Refusal}
use Rattle.refusal.specs.Checks.{provided, and_then, found, Rule, checked, AllKept, FirstBroken}

pub and_then-provided : {X Y : Type 0} (b : Bool) (e : Refusal) (r : Result X Refusal) (f : X → Result Y Refusal) →
    and_then (provided b e r) f ≡ provided b e (and_then r f)
and_then-provided true e r f = refl
and_then-provided false e r f = refl

pub and_then-found : {X Y : Type 0} (b : Bool) (x : X) (e : Refusal) (f : X → Result Y Refusal) →
    and_then (found (cond b (Some x) None) e) f ≡ provided b e (f x)
and_then-found true x e f = refl
and_then-found false x e f = refl

-- what comes after checked rules comes after each of them
pub through : {X Y : Type 0} (rules : List Rule) (r : Result X Refusal) (f : X → Result Y Refusal) →
    and_then (checked rules r) f ≡ checked rules (and_then r f)
through [] r f = refl
through (p ∷ ps) r f = and_then-provided p.kept p.refusal (checked ps r) f ∙ ap (provided p.kept p.refusal) (through ps r f)

-- one check, by what it came to
pub was_ok : {X : Type 0} (b : Bool) (d : Refusal) (x y : X) → Ok y ≡ provided b d (Ok x) → (b ≡ true) × (y ≡ x)
was_ok true d x y e = (refl, cc)
was_ok false d x y e = let z : ◌≡◌ {A = ℕ} 0 1 = cc in absurd (omega arith)

pub was_err : {X : Type 0} (b : Bool) (d e : Refusal) (x : X) → Err e ≡ provided b d (Ok x) → (b ≡ false) × (e ≡ d)
was_err true d e x q = let z : ◌≡◌ {A = ℕ} 0 1 = cc in absurd (omega arith)
was_err false d e x q = (refl, cc)

-- a check that passed, with more behind it
pub provided_ok : {X : Type 0} (b : Bool) (e : Refusal) (r : Result X Refusal) (x : X) → provided b e r ≡ Ok x → (b ≡ true) × (r ≡ Ok x)
provided_ok true e r x p = (refl, p)
provided_ok false e r x p = absurd (let z : ◌≡◌ {A = ℕ} 0 1 = cc in omega arith)

-- rules that let a value through are all kept, and it is that value
pub checked_ok : {X : Type 0} (rules : List Rule) (x y : X) → checked rules (Ok x) ≡ Ok y → AllKept rules × (x ≡ y)
checked_ok [] x y p = (tt, cc)
checked_ok (q ∷ qs) x y p =
    let one = provided_ok q.kept q.refusal (checked qs (Ok x)) y p in
    let rest = checked_ok qs x y one.1 in
    ((one.0, rest.0), rest.1)

one_err : {X : Type 0} (b : Bool) (f e : Refusal) (r : Result X Refusal) → provided b f r ≡ Err e →
    ((b ≡ false) × (f ≡ e)) ⊎ ((b ≡ true) × (r ≡ Err e))
one_err true f e r p = inr (refl, p)
one_err false f e r p = inl (refl, cc)

-- rules that refuse, refuse for the first that is broken
pub checked_err : {X : Type 0} (rules : List Rule) (x : X) (e : Refusal) → checked rules (Ok x) ≡ Err e → FirstBroken rules e
checked_err [] x e p = absurd (let z : ◌≡◌ {A = ℕ} 0 1 = cc in omega arith)
checked_err (q ∷ qs) x e p =
    ⊎_elim
    (λ here. record { before = []; after = qs; split = λ i. record { refusal = here.1 i; kept = here.0 i } ∷ qs; upheld = tt })
    (λ later.
    let rest = checked_err qs x e later.1 in
    record { before = q ∷ rest.before; after = rest.after; split = ap (λ ps. q ∷ ps) rest.split; upheld = (later.0, rest.upheld) })
    (one_err q.kept q.refusal e (checked qs (Ok x)) p)
