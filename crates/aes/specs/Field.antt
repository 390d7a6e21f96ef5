-- Bytes as elements of the field with 256 elements, as FIPS 197 has it: a byte stands for the polynomial over two elements whose
-- coefficients are its bits, and products are taken modulo x^8 + x^4 + x^3 + x + 1. xtime, mul, inverse; the affine map and the S-box.
use Rattle.std.specs.Prelude.{ℕ, zero, suc, ◌+◌, ◌*◌, ◌/◌, ◌%◌, bit_xor}

-- the product with the polynomial x
unfoldable pub xtime : ℕ → ℕ
xtime a = bit_xor (a * 2 % 256) (a / 128 * 0x1b)

-- the product of a with the low k bits of b
unfoldable pub mul_bits : (k a b : ℕ) → ℕ
mul_bits zero a b = 0
mul_bits (suc k) a b = bit_xor (b % 2 * a) (mul_bits k (xtime a) (b / 2))

unfoldable pub mul : ℕ → ℕ → ℕ
mul a b = mul_bits 8 a b

-- the product of the k squares a^2, a^4, a^8, ..
unfoldable pub squares : (k a : ℕ) → ℕ
squares zero a = 1
squares (suc k) a = let s = mul a a in mul s (squares k s)

-- a^254, which is the inverse of a, and 0 for 0
unfoldable pub inverse : ℕ → ℕ
inverse a = squares 7 a

-- the bits of a byte, turned left by k places
unfoldable pub turned_left : (k a : ℕ) → ℕ
turned_left zero a = a
turned_left (suc k) a = turned_left k (a * 2 % 256 + a / 128)

-- the affine map: a byte, added to itself turned left by one to four places, and to the constant 0x63
unfoldable pub affine : ℕ → ℕ
affine b = bit_xor b (bit_xor (turned_left 1 b) (bit_xor (turned_left 2 b) (bit_xor (turned_left 3 b) (bit_xor (turned_left 4 b) 0x63))))

-- the S-box: the inverse, then the affine map
unfoldable pub sbox : ℕ → ℕ
sbox a = affine (inverse a)
