-- A state as four words of 32 bits, one for each column, its first row in the highest byte. The bytes of a word: top, second, third,
-- low, Bytes; word and packed, words from bytes; unpacked, the bytes of four words; what the steps on words come to: Mixed, Last,
-- Turned, full_round, last_round.
use Rattle.std.specs.Prelude.{◌≡◌, ℕ, zero, suc, ◌+◌, ◌*◌, ◌/◌, ◌%◌, List, [], ◌∷◌, bit_xor, slice_index}
use Rattle.aes.specs.Field.{xtime, sbox}
use Rattle.aes.specs.Aes.{sub_bytes, shift_rows, mix_columns, add_round_key}

abbrev pub top : ℕ → ℕ
top w = w / 16777216 % 256

abbrev pub second : ℕ → ℕ
second w = w / 65536 % 256

abbrev pub third : ℕ → ℕ
third w = w / 256 % 256

abbrev pub low : ℕ → ℕ
low w = w % 256

-- a, b, c, d are the bytes of the word w
pub record Bytes (w a b c d : ℕ) : Type 0 where
  pub is_top : top w ≡ a
  pub is_second : second w ≡ b
  pub is_third : third w ≡ c
  pub is_low : low w ≡ d

-- and turned down by r rows, the lowest of them to the top
abbrev pub TurnedDown : (r w a b c d : ℕ) → Type 0
TurnedDown zero w a b c d = Bytes w a b c d
TurnedDown (suc r) w a b c d = TurnedDown r w d a b c

-- the word of four bytes
abbrev pub word : ℕ → ℕ → ℕ → ℕ → ℕ
word a b c d = a * 16777216 + b * 65536 + c * 256 + d

-- the four words of sixteen bytes
abbrev pub packed : List ℕ → List ℕ
packed bs =
    word (slice_index bs 0) (slice_index bs 1) (slice_index bs 2) (slice_index bs 3) ∷ word (slice_index bs 4) (slice_index bs 5) (slice_index bs 6) (slice_index bs 7)
    ∷ word (slice_index bs 8) (slice_index bs 9) (slice_index bs 10) (slice_index bs 11) ∷ word (slice_index bs 12) (slice_index bs 13) (slice_index bs 14) (slice_index bs 15) ∷ []

-- the sixteen bytes of four words
abbrev pub unpacked : List ℕ → List ℕ
unpacked ws =
    top (slice_index ws 0) ∷ second (slice_index ws 0) ∷ third (slice_index ws 0) ∷ low (slice_index ws 0)
    ∷ top (slice_index ws 1) ∷ second (slice_index ws 1) ∷ third (slice_index ws 1) ∷ low (slice_index ws 1)
    ∷ top (slice_index ws 2) ∷ second (slice_index ws 2) ∷ third (slice_index ws 2) ∷ low (slice_index ws 2)
    ∷ top (slice_index ws 3) ∷ second (slice_index ws 3) ∷ third (slice_index ws 3) ∷ low (slice_index ws 3) ∷ []

-- a round, and the last round
unfoldable pub full_round : List ℕ → List ℕ → List ℕ
full_round s k = add_round_key (mix_columns (shift_rows (sub_bytes s))) k

unfoldable pub last_round : List ℕ → List ℕ → List ℕ
last_round s k = add_round_key (shift_rows (sub_bytes s)) k

-- a byte substituted, its double and its triple
unfoldable pub once : ℕ → ℕ
once x = sbox x

unfoldable pub twice : ℕ → ℕ
twice x = xtime (sbox x)

unfoldable pub thrice : ℕ → ℕ
thrice x = bit_xor (xtime (sbox x)) (sbox x)

-- the entry of the table for a byte: what it gives to the four rows of a mixed column when it stands in the first
unfoldable pub spread : ℕ → ℕ
spread x = word (twice x) (once x) (once x) (thrice x)

-- one byte of a mixed column, from four bytes before their substitution
abbrev pub mixed : ℕ → ℕ → ℕ → ℕ → ℕ
mixed a b c d = bit_xor (bit_xor (xtime (sbox a)) (bit_xor (xtime (sbox b)) (sbox b))) (bit_xor (sbox c) (sbox d))

-- w is the column of the bytes a, b, c, d, substituted, mixed and added to the word k
abbrev pub Mixed : (w a b c d k : ℕ) → Type 0
Mixed w a b c d k =
    Bytes w (bit_xor (mixed a b c d) (top k)) (bit_xor (mixed b c d a) (second k)) (bit_xor (mixed c d a b) (third k))
    (bit_xor (mixed d a b c) (low k))

-- w is the column of the bytes a, b, c, d, substituted and added to the word k
abbrev pub Last : (w a b c d k : ℕ) → Type 0
Last w a b c d k = Bytes w (bit_xor (sbox a) (top k)) (bit_xor (sbox b) (second k)) (bit_xor (sbox c) (third k)) (bit_xor (sbox d) (low k))

-- one row of each of the words at four places
abbrev pub diagonal : List ℕ → (i j k l : ℕ) → List ℕ
diagonal s i j k l = top (slice_index s i) ∷ second (slice_index s j) ∷ third (slice_index s k) ∷ low (slice_index s l) ∷ []

-- P makes the four words of r, each from one row of each of four words of s, moved on by one word each time, and a word of k
pub record ByColumns (P : List ℕ → ℕ → ℕ → Type 0) (s k r : List ℕ) : Type 0 where
  pub first : P (diagonal s 0 1 2 3) (slice_index k 0) (slice_index r 0)
  pub second : P (diagonal s 1 2 3 0) (slice_index k 1) (slice_index r 1)
  pub third : P (diagonal s 2 3 0 1) (slice_index k 2) (slice_index r 2)
  pub fourth : P (diagonal s 3 0 1 2) (slice_index k 3) (slice_index r 3)

-- w is the column v, turned up by one row, substituted, with the round constant c
abbrev pub Turned : (w v c : ℕ) → Type 0
Turned w v c = Bytes w (bit_xor (sbox (second v)) c) (sbox (third v)) (sbox (low v)) (sbox (top v))
