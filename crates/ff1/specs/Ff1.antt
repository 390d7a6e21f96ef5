-- FF1 of SP 800-38G over AES-128, on numbers of n digits in a radix: byte_count and half_bytes; head_block and round_bytes, what a round enciphers; prf, its CBC-MAC;
-- round_number, the round function; ff1 and ff1_back, the ten rounds and the ten rounds taken back.
-- A half takes at most twelve bytes here, so that the round number is cut from one block.
use Rattle.std.specs.Prelude.{ℕ, zero, suc, ◌+◌, ◌-◌, ◌*◌, ◌/◌, ◌%◌, ◌^◌, List, [], ◌∷◌, ◌++◌, length, replicate}
use Rattle.spelling.specs.Spelling.{bytes_of}
use Rattle.chaining.specs.Blocks.{aes_block, blocks_of, chained}
use Rattle.feistel.specs.Feistel.{forward, backward}

-- how many bytes x takes, of at most k
unfoldable pub byte_count : (k x : ℕ) → ℕ
byte_count zero x = 0
byte_count (suc k) zero = 0
byte_count (suc k) (suc x) = suc (byte_count k (suc x / 256))

-- how many bytes the second half of a number of n digits takes
unfoldable pub half_bytes : (radix n : ℕ) → ℕ
half_bytes radix n = byte_count 16 (radix ^ (n - n / 2) - 1)

-- the first block, for t bytes of tweak
unfoldable pub head_block : (radix n t : ℕ) → List ℕ
head_block radix n t = (1 ∷ 2 ∷ 1 ∷ []) ++ (bytes_of 3 radix ++ ((10 ∷ n / 2 % 256 ∷ []) ++ (bytes_of 4 n ++ bytes_of 4 t)))

-- zeros behind t bytes of tweak, so that with b + 1 further bytes the last block is full
abbrev pub filling : (b t : ℕ) → ℕ
filling b t = (16 - (t + b + 1) % 16) % 16

-- the bytes after it: the tweak, zeros, the number i of the round, and the half x in b bytes
unfoldable pub round_bytes : (b : ℕ) (tweak : List ℕ) (i x : ℕ) → List ℕ
round_bytes b tweak i x = tweak ++ (replicate (filling b (length tweak)) 0 ++ (bytes_of 1 i ++ bytes_of b x))

-- the CBC-MAC of whole blocks
unfoldable pub prf : (key bytes : List ℕ) → ℕ
prf key bytes = chained (aes_block key) 0 (blocks_of bytes)

-- how many bytes of it make the round number
abbrev pub drawn_bytes : (b : ℕ) → ℕ
drawn_bytes b = (b + 3) / 4 * 4 + 4

unfoldable pub round_number : (radix n : ℕ) (key tweak : List ℕ) (i x : ℕ) → ℕ
round_number radix n key tweak i x =
    let b = half_bytes radix n in
    prf key (head_block radix n (length tweak) ++ round_bytes b tweak i x) / 256 ^ (16 - drawn_bytes b)

unfoldable pub ff1 : (radix n : ℕ) (key tweak : List ℕ) (x : ℕ) → ℕ
ff1 radix n key tweak x = forward radix n (round_number radix n key tweak) x

unfoldable pub ff1_back : (radix n : ℕ) (key tweak : List ℕ) (x : ℕ) → ℕ
ff1_back radix n key tweak x = backward radix n (round_number radix n key tweak) x
