-- The bits of a number, from the lowest on: bit, bits_of, and the bound bits_of_lt that values carry.
use Rattle.std.specs.Prelude.{ℕ, zero, suc, ◌+◌, ◌/◌, ◌%◌, ◌^◌, ◌<◌, Bool, true, false, cond, ◌==◌}
use Rattle.std.proofs.Math.Nat.{pow-zero}
use Rattle.std.proofs.Common.{pow-suc, arith}

-- whether bit i of n is set
unfoldable pub bit : ℕ → ℕ → Bool
bit n i = n / 2 ^ i % 2 == 1

-- the number whose bits below k are those of f
unfoldable pub bits_of : ℕ → (ℕ → Bool) → ℕ
bits_of zero f = 0
bits_of (suc k) f = bits_of k f + cond (f k) (2 ^ k) 0

pub bits_of_lt : (k : ℕ) (f : ℕ → Bool) → bits_of k f < 2 ^ k
unfolding bits_of
bits_of_lt zero f = omega (arith, pow-zero 2)
bits_of_lt (suc k) f =
    let l = bits_of_lt k f in
    let p = pow-suc 2 k in
    elim (f k) as (λ b. bits_of k f + cond b (2 ^ k) 0 < 2 ^ suc k) [ true ↦ omega (arith, l, p) | false ↦ omega (arith, l, p) ]
