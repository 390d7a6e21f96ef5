-- AES-128 of FIPS 197 on lists of bytes. A state is the sixteen bytes of a block, column by column: the byte in row r and column c
-- stands at r + 4 c. The steps of a round, the rounds, the key expansion, and aes, a block under a key.
use Rattle.std.specs.Prelude.{ℕ, zero, suc, ◌+◌, ◌*◌, ◌/◌, ◌%◌, List, [], map, bit_xor, slice_index, slice_index_or}
use Rattle.std.specs.List.{range_with_len}
use Rattle.aes.specs.Field.{xtime, sbox}

-- sixteen bytes, each by its place
abbrev pub bytes16 : (ℕ → ℕ) → List ℕ
bytes16 f = map f (range_with_len 0 16)

-- each byte is substituted
unfoldable pub sub_bytes : List ℕ → List ℕ
sub_bytes s = bytes16 (λ i. sbox (slice_index s i))

-- row r moves left by r columns
unfoldable pub shift_rows : List ℕ → List ℕ
shift_rows s = bytes16 (λ i. slice_index s ((i + 4 * (i % 4)) % 16))

-- the byte k rows below the place i in the same column, cyclically
abbrev pub below : List ℕ → ℕ → ℕ → ℕ
below s i k = slice_index s (i / 4 * 4 + (i + k) % 4)

-- each byte becomes its double, with three times the byte below it and the two further ones
unfoldable pub mix_columns : List ℕ → List ℕ
mix_columns s = bytes16 (λ i. bit_xor (bit_xor (xtime (slice_index s i)) (bit_xor (xtime (below s i 1)) (below s i 1))) (bit_xor (below s i 2) (below s i 3)))

unfoldable pub add_round_key : List ℕ → List ℕ → List ℕ
add_round_key s k = bytes16 (λ i. bit_xor (slice_index s i) (slice_index k i))

-- the state after n rounds, with the round keys ks
unfoldable pub rounds : ℕ → List (List ℕ) → List ℕ → List ℕ
rounds zero ks s = add_round_key s (slice_index_or ks 0 [])
rounds (suc n) ks s = add_round_key (mix_columns (shift_rows (sub_bytes (rounds n ks s)))) (slice_index_or ks (suc n) [])

-- nine rounds, and a tenth without mixing
unfoldable pub cipher : List (List ℕ) → List ℕ → List ℕ
cipher ks s = add_round_key (shift_rows (sub_bytes (rounds 9 ks s))) (slice_index_or ks 10 [])

-- the constant of the round key n + 1, the polynomial x^n
unfoldable pub round_constant : ℕ → ℕ
round_constant zero = 1
round_constant (suc n) = xtime (round_constant n)

-- the byte at a place of the round key after k. Each column is the one before it, added to the column of k at its place; before the
-- first column stands the last one of k, turned up by one row, substituted, and with the round constant c in its first row
unfoldable pub key_byte : ℕ → List ℕ → ℕ → ℕ
key_byte c k zero = bit_xor (slice_index k 0) (bit_xor (sbox (slice_index k 13)) c)
key_byte c k (suc zero) = bit_xor (slice_index k 1) (sbox (slice_index k 14))
key_byte c k (suc (suc zero)) = bit_xor (slice_index k 2) (sbox (slice_index k 15))
key_byte c k (suc (suc (suc zero))) = bit_xor (slice_index k 3) (sbox (slice_index k 12))
key_byte c k (suc (suc (suc (suc i)))) = bit_xor (slice_index k (suc (suc (suc (suc i))))) (key_byte c k i)

unfoldable pub next_key : ℕ → List ℕ → List ℕ
next_key c k = bytes16 (key_byte c k)

-- round key 0 is the key
unfoldable pub round_key : List ℕ → ℕ → List ℕ
round_key key zero = key
round_key key (suc n) = next_key (round_constant n) (round_key key n)

unfoldable pub schedule : List ℕ → List (List ℕ)
schedule key = map (round_key key) (range_with_len 0 11)

-- a block under a key
unfoldable pub aes : (key block : List ℕ) → List ℕ
aes key block = cipher (schedule key) block
