-- Products of blocks in the field with 2^128 elements, as SP 800-38D has them: a block stands for the polynomial over two elements whose
-- coefficients are its bits, the highest bit first, modulo x^128 + x^7 + x^2 + x + 1. times_x, product; the law Multiplies.
use Rattle.std.specs.Prelude.{◌≡◌, ℕ, zero, suc, ◌*◌, ◌/◌, ◌%◌, ◌^◌, bit_xor}

-- the product of a block with x: its bits move down by one, and a bit that falls out adds the polynomial
unfoldable pub times_x : ℕ → ℕ
times_x v = bit_xor (v / 2) (v % 2 * 0xe1000000000000000000000000000000)

-- z, added to the product of v with the low k bits of a block, the highest of them first
unfoldable pub product_from : (k block v z : ℕ) → ℕ
product_from zero block v z = z
product_from (suc k) block v z = product_from k block (times_x v) (bit_xor z (block / 2 ^ k % 2 * v))

unfoldable pub product : ℕ → ℕ → ℕ
product a b = product_from 128 a b 0

-- The product is that of a field: the block with the highest bit alone is one, sums of the first factor give sums, and so do those of the
-- second, and x may be taken out of the second.
pub record Multiplies : Type 0 where
  pub one : (b : ℕ) → product (2 ^ 127) b ≡ b
  pub left_sum : (a c b : ℕ) → product (bit_xor a c) b ≡ bit_xor (product a b) (product c b)
  pub right_sum : (a b c : ℕ) → product a (bit_xor b c) ≡ bit_xor (product a b) (product a c)
  pub right_x : (a b : ℕ) → product a (times_x b) ≡ times_x (product a b)
