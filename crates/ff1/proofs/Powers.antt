-- Powers of a radix with a bound, and the sizes of halves.
use Rattle.std.proofs.Common.{◌≡◌, ℕ, zero, suc, ◌+◌, ◌-◌, ◌*◌, ◌/◌, ◌^◌, ◌<◌, ◌≤◌, Bool, true, false, cond, ◌&&◌, leb, Option, Some, None, IsSome, IfSome, MatchOption, ◌↔◌, sym, refl, ap, ◌∙◌, subst, ap₂, div-lt_iff_lt-mul, pow-suc, arith, le-leb, leb-false, leb-true}
use native.Mathlib.Nat.{pow-le-pow_right, one-le-pow}
use Rattle.ff1.specs.Ff1.{byte_count, half_bytes}
use Rattle.ff1.specs.Sizes.{sizes_of, allowed, Sized}

-- what a test that was passed or failed tells
pub passed : {X : Type 0} (b : Bool) (x y : X) → cond b (Some x) None ≡ Some y → (b ≡ true) × (x ≡ y)
passed true x y e = (refl, cc)
passed false x y e = absurd (let z : ◌≡◌ {A = ℕ} 0 1 = cc in omega arith)

pub failed : {X : Type 0} (b : Bool) (x : X) → cond b (Some x) None ≡ None → b ≡ false
failed true x e = absurd (let z : ◌≡◌ {A = ℕ} 0 1 = cc in omega arith)
failed false x e = refl

pub left_below : (r n : ℕ) → 2 ≤ r → r ^ (n - n / 2) ≤ 2 ^ 63 → r ^ (n / 2) ≤ 2 ^ 63
left_below r n h l =
    let grows : r ^ (n / 2) ≤ r ^ (n - n / 2) = pow-le-pow_right (let z : 0 < r = omega arith in z) (let z : n / 2 ≤ n - n / 2 = omega arith in z) in
    omega arith

-- ---- how many bytes a number takes

count_le : (k j n : ℕ) → n < 256 ^ j → byte_count k n ≤ j
unfolding byte_count
count_le zero j n h = omega arith
count_le (suc k) j zero h = omega arith
count_le (suc k) zero (suc n) h = absurd (omega arith)
count_le (suc k) (suc j) (suc n) h =
    let l : suc n < 256 ^ j * 256 = subst (λ (m : ℕ). suc n < m) (pow-suc 256 j) h in
    let r = count_le k j (suc n / 256) ((div-lt_iff_lt-mul (let z : 0 < 256 = omega arith in z)).1 l) in
    omega (arith, r)

-- so many bytes suffice
count_room : (k n : ℕ) → n < 256 ^ k → n < 256 ^ byte_count k n
unfolding byte_count
count_room zero n h = h
count_room (suc k) zero h = omega arith
count_room (suc k) (suc n) h =
    let l : suc n < 256 ^ k * 256 = subst (λ (m : ℕ). suc n < m) (pow-suc 256 k) h in
    let r = count_room k (suc n / 256) ((div-lt_iff_lt-mul (let z : 0 < 256 = omega arith in z)).1 l) in
    subst (λ (m : ℕ). suc n < m) (sym (pow-suc 256 (byte_count k (suc n / 256)))) ((div-lt_iff_lt-mul (let z : 0 < 256 = omega arith in z)).0 r)

count_zero : (k : ℕ) → byte_count k 0 ≡ 0
unfolding byte_count
count_zero zero = refl
count_zero (suc k) = refl

-- one more than the logarithm of a number is its count of bytes
count_log : (k m n : ℕ) → m < k → 256 ^ m ≤ n → n < 256 * 256 ^ m → byte_count k n ≡ m + 1
unfolding byte_count
count_log zero m n h lo hi = absurd (omega arith)
count_log (suc k) m zero h lo hi = absurd (omega (arith, one-le-pow m 256 (let z : 0 < 256 = omega arith in z)))
count_log (suc k) zero (suc n) h lo hi =
    let none : suc n / 256 ≡ 0 = omega arith in
    ap suc (ap (byte_count k) none ∙ count_zero k)
count_log (suc k) (suc m) (suc n) h lo hi =
    let p : 256 ^ suc m ≡ 256 ^ m * 256 = pow-suc 256 m in
    ap suc (count_log k m (suc n / 256) (omega arith) (omega (arith, p)) (omega (arith, p))) ∙ (omega arith)

log_below : (k n : ℕ) (b : Bool) → leb 8 k ≡ b → 256 ^ k ≤ n → n < 2 ^ 64 → k < 16
log_below k n true e lo h =
    let grows : 256 ^ 8 ≤ 256 ^ k = pow-le-pow_right (let z : 0 < 256 = omega arith in z) (leb-true 8 k e) in absurd (omega arith)
log_below k n false e lo h = omega (arith, leb-false 8 k e)

-- where P says of a logarithm that r is one more
pub log_count : (o : Option ℕ) (n r : ℕ) (P : ℕ → Type 0) → ((k : ℕ) → P k → r ≡ k + 1)
    → (IsSome o ↔ ((0 < n) × (2 ≤ 256))) → IfSome o (λ k. 256 ^ k ≤ n) → IfSome o (λ k. n < 256 * 256 ^ k)
    → MatchOption o (r ≡ 0) P → n < 2 ^ 64 → r ≡ byte_count 16 n
log_count None zero r P f v lo hi e h = e ∙ sym (count_zero 16)
log_count None (suc n) r P f v lo hi e h =
    let some = v.1 (omega arith, omega arith) in absurd (let z : ◌≡◌ {A = ℕ} 0 1 = cc in omega arith)
log_count (Some k) n r P f v lo hi e h = f k e ∙ sym (count_log 16 k n (log_below k n (leb 8 k) refl lo h) lo hi)

pub eight_bytes : (n : ℕ) → n < 2 ^ 64 → byte_count 16 n ≤ 8
eight_bytes n h = count_le 16 8 n (omega arith)

-- the sizes of halves that are allowed have room
pub sized : (r n : ℕ) → 2 ≤ r → r ^ (n - n / 2) ≤ 2 ^ 63 → Sized (sizes_of r n)
unfolding half_bytes
sized r n h l =
    let v : ℕ = r ^ (n - n / 2) in
    let u : ℕ = r ^ (n / 2) in
    let some_v : 1 ≤ v = one-le-pow (n - n / 2) r (omega arith) in
    let some_u : 1 ≤ u = one-le-pow (n / 2) r (omega arith) in
    let grows : u ≤ v = pow-le-pow_right (let z : 0 < r = omega arith in z) (let z : n / 2 ≤ n - n / 2 = omega arith in z) in
    let room : v - 1 < 256 ^ byte_count 16 (v - 1) = count_room 16 (v - 1) (omega arith) in
    record {
      some_left = some_u;
      some_right = some_v;
      left_fits = omega arith;
      right_fits = l;
      few = eight_bytes (v - 1) (omega arith);
      left_spelled = omega arith;
      right_spelled = omega arith;
    }

pub allowed_is : (r n : ℕ) → 2 ≤ r → r ≤ 65536 → r ^ (n - n / 2) ≤ 2 ^ 63 → allowed r n ≡ true
allowed_is r n h k l = ap₂ ◌&&◌ (ap₂ ◌&&◌ (le-leb 2 r h) (le-leb r 65536 k)) (le-leb (r ^ (n - n / 2)) (2 ^ 63) l)

pub both_true : (a b : Bool) → (a && b) ≡ true → (a ≡ true) × (b ≡ true)
both_true true b e = (refl, e)
both_true false b e = absurd (let z : ◌≡◌ {A = ℕ} 0 1 = cc in omega arith)

pub allowed_means : (r n : ℕ) → allowed r n ≡ true → (2 ≤ r) × (r ≤ 65536) × (r ^ (n - n / 2) ≤ 2 ^ 63)
allowed_means r n e =
    let p = both_true (leb 2 r && leb r 65536) (leb (r ^ (n - n / 2)) (2 ^ 63)) e in
    let q = both_true (leb 2 r) (leb r 65536) p.0 in
    (leb-true 2 r q.0, leb-true r 65536 q.1, leb-true (r ^ (n - n / 2)) (2 ^ 63) p.1)
