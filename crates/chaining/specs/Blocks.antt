-- A cipher block, of sixteen bytes, as the number of 128 bits that it spells, highest byte first. aes_block, AES on such a number; block_of,
-- block_at and blocks_of, the blocks of a row of bytes; chained, a map applied to block after block.
use Rattle.std.specs.Prelude.{ℕ, ◌+◌, ◌*◌, ◌/◌, List, [], ◌∷◌, map, length, drop, bit_xor, slice_index}
use Rattle.std.specs.List.{range_with_len}
use Rattle.std.specs.Int.Digits.{number_from_digits}
use Rattle.spelling.specs.Spelling.{bytes_of}
use Rattle.aes.specs.Aes.{aes}

unfoldable pub aes_block : (key : List ℕ) (block : ℕ) → ℕ
aes_block key block = number_from_digits 256 (aes key (bytes_of 16 block))

-- the first sixteen bytes of a row, filled up with zeros
unfoldable pub block_of : List ℕ → ℕ
block_of xs = number_from_digits 256 (map (λ i. slice_index xs i) (range_with_len 0 16))

-- the block k of a row, counted from 0
unfoldable pub block_at : List ℕ → ℕ → ℕ
block_at xs k = block_of (drop (16 * k) xs)

-- a row cut into blocks, the last one filled up with zeros
unfoldable pub blocks_of : List ℕ → List ℕ
blocks_of xs = map (block_at xs) (range_with_len 0 ((length xs + 15) / 16))

-- each block is added to what came of those before it, and then goes through the map f
unfoldable pub chained : (f : ℕ → ℕ) (start : ℕ) → List ℕ → ℕ
chained f y [] = y
chained f y (x ∷ xs) = chained f (f (bit_xor y x)) xs
