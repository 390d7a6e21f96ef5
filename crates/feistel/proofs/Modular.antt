-- Adding and taking away modulo m: add_back, sub_back.
use Rattle.std.proofs.Common.{◌≡◌, ℕ, ◌+◌, ◌-◌, ◌*◌, ◌/◌, ◌%◌, ◌<◌, ap, ◌∙◌, mod-lt, mod-eq_of_lt, add-mul, div-add-mod', arith}
use native.Mathlib.Nat.{mod-add-mod, add-mul-mod_self_right}

-- a + y and m - y % m more is a multiple of m more than a
around : (a y m : ℕ) → 0 < m → a + y + (m - y % m) ≡ a + (y / m + 1) * m
around a y m h = omega (arith, div-add-mod' y m, mod-lt y h, add-mul (y / m) 1 m)

pub add_back : (a y m : ℕ) → a < m → ((a + y) % m + (m - y % m)) % m ≡ a
add_back a y m h =
    mod-add-mod (a + y) m (m - y % m)
    ∙ ap (λ (n : ℕ). n % m) (around a y m (omega arith))
    ∙ add-mul-mod_self_right a (y / m + 1) m ∙ mod-eq_of_lt h

pub sub_back : (a y m : ℕ) → a < m → ((a + (m - y % m)) % m + y) % m ≡ a
sub_back a y m h =
    let e : a + (m - y % m) + y ≡ a + (y / m + 1) * m = omega (arith, around a y m (omega arith)) in
    mod-add-mod (a + (m - y % m)) m y ∙ ap (λ (n : ℕ). n % m) e ∙ add-mul-mod_self_right a (y / m + 1) m ∙ mod-eq_of_lt h
