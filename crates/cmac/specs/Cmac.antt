-- CMAC of SP 800-38B over AES-128: doubled, the two subkeys, and cmac, the tag of a message.
use Rattle.std.specs.Prelude.{ℕ, ◌-◌, ◌*◌, ◌/◌, ◌%◌, ◌^◌, cond, List, [], ◌∷◌, ◌++◌, length, take, drop, ◌==◌, bit_xor}
use Rattle.spelling.specs.Spelling.{bytes_of}
use Rattle.chaining.specs.Blocks.{aes_block, block_of, blocks_of, chained}

-- a block shifted left by one bit; where a bit falls out, 0x87 is added
unfoldable pub doubled : ℕ → ℕ
doubled n = bit_xor (n * 2 % 2 ^ 128) (n / 2 ^ 127 * 0x87)

-- the subkey for a last block of sixteen bytes
unfoldable pub first_subkey : List ℕ → ℕ
first_subkey key = doubled (aes_block key 0)

-- the subkey for a shorter one
unfoldable pub second_subkey : List ℕ → ℕ
second_subkey key = doubled (first_subkey key)

-- how many bytes of a message of n bytes stand before its last block, which is empty only where the message is
abbrev pub before_last : ℕ → ℕ
before_last n = 16 * ((n - 1) / 16)

-- the last block with its subkey; one of fewer than sixteen bytes is filled up by one set bit and zeros
unfoldable pub last_block : (key rest : List ℕ) → ℕ
last_block key rest =
    cond (length rest == 16) (bit_xor (block_of rest) (first_subkey key)) (bit_xor (block_of (rest ++ (0x80 ∷ []))) (second_subkey key))

unfoldable pub cmac : (key message : List ℕ) → List ℕ
cmac key message =
    let n = before_last (length message) in
    bytes_of 16 (aes_block key (bit_xor (chained (aes_block key) 0 (blocks_of (take n message))) (last_block key (drop n message))))
