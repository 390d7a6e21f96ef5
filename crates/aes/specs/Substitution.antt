-- The rule of the S-box in the words of FIPS 197, bit by bit: bit_at, Substituted, and the law SboxLaw over all bytes.
use Rattle.std.specs.Prelude.{◌≡◌, ℕ, ◌+◌, ◌/◌, ◌%◌, ◌^◌, ◌<◌}
use Rattle.aes.specs.Field.{mul, inverse, sbox}

abbrev pub bit_at : ℕ → ℕ → ℕ
bit_at n i = n / 2 ^ i % 2

-- s is what the byte x is substituted by: with b the inverse of x, or 0 for 0, each bit of s is the sum, modulo 2, of five bits of b
-- and one bit of 0x63
pub record Substituted (x s : ℕ) : Type 0 where
  pub byte : s < 256
  pub of_zero : x ≡ 0 → inverse x ≡ 0
  pub inverts : 0 < x → mul x (inverse x) ≡ 1
  pub bits : (i : ℕ) → i < 8
      → let b = inverse x in
      bit_at s i ≡ (bit_at b i + bit_at b ((i + 4) % 8) + bit_at b ((i + 5) % 8) + bit_at b ((i + 6) % 8) + bit_at b ((i + 7) % 8) + bit_at 0x63 i) % 2

abbrev pub SboxLaw : Type 0
SboxLaw = (x : ℕ) → x < 256 → Substituted x (sbox x)
