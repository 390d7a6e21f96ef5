use Rattle.std.proofs.Common.{◌≡◌, ℕ, ◌-◌, ◌/◌, ◌^◌, ◌≤◌, Bool, cond, leb, Some, None, sym, ap, ◌∙◌, arith, leb-false, leb-true}
use native.Mathlib.Nat.{one-le-pow}
use Rattle.ff1.specs.Ff1.{byte_count, half_bytes}
use Rattle.ff1.specs.Sizes.{sizes_of}
use Rattle.ff1.specs.declared.rounds.Sizes.{Sizes}
use Rattle.ff1.proofs.Powers.{passed, failed, left_below, allowed_is}
use Rattle.ff1.proofs.sizing.sizes_of.Goals as goal

-- the power of the second half, where there is one
right_is : (r n v : ℕ) → Some v ≡ cond (leb (r ^ n) (2 ^ 63)) (Some (r ^ n)) None → (r ^ n ≤ 2 ^ 63) × (v ≡ r ^ n)
right_is r n v e =
    let p = passed (leb (r ^ n) (2 ^ 63)) (r ^ n) v (sym e) in (leb-true (r ^ n) (2 ^ 63) p.0, sym p.1)

pub returns-in_err-left : goal.returns-in_err-left
returns-in_err-left c =
    let r = c.args.radix in
    let n = c.args.digits in
    let right = right_is r (n - n / 2) _ c.in_ok-right.ensures in
    let none = failed (leb (r ^ (n / 2)) (2 ^ 63)) (r ^ (n / 2)) (sym c.in_err-left.ensures) in
    absurd (omega (arith, leb-false (r ^ (n / 2)) (2 ^ 63) none, left_below r n (omega arith) right.0))

pub overflow_sub-right : goal.overflow_sub-right
overflow_sub-right c =
    let r = c.args.radix in
    let n = c.args.digits in
    omega (arith, (right_is r (n - n / 2) _ c.in_ok-right.ensures).1, one-le-pow (n - n / 2) r (omega arith))

pub returns : goal.returns
unfolding half_bytes
returns c =
    let r = c.args.radix in
    let n = c.args.digits in
    let right = right_is r (n - n / 2) _ c.in_ok-right.ensures in
    let left = right_is r (n / 2) _ c.in_ok-left.ensures in
    let bytes = c.byte_count.ensures.value ∙ ap (λ (v : ℕ). byte_count 16 (v - 1)) right.1 in
    let sizes : ◌≡◌ {A = Sizes} (record { left = c.in_ok-left.left; right = c.in_ok-right.right; bytes = c.byte_count.result }) (sizes_of r n) =
    λ i. record { left = left.1 i; right = right.1 i; bytes = bytes i } in
    ap Some sizes ∙ sym (ap (λ (b : Bool). cond b (Some (sizes_of r n)) None) (allowed_is r n (omega arith) (omega arith) right.0))
