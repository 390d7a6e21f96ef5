-- GMAC of SP 800-38D over AES-128, with a nonce of 96 bits: hash_key, ghash, first_counter, and gmac, the tag of a message that is additional
-- data with no plaintext.
use Rattle.std.specs.Prelude.{ℕ, ◌*◌, ◌^◌, List, [], ◌∷◌, ◌++◌, length, bit_xor}
use Rattle.spelling.specs.Spelling.{bytes_of}
use Rattle.chaining.specs.Blocks.{aes_block, block_of, blocks_of, chained}
use Rattle.ghash.specs.Ghash.{product}

abbrev pub hash_key : List ℕ → ℕ
hash_key key = aes_block key 0

unfoldable pub ghash : (h : ℕ) → List ℕ → ℕ
ghash h blocks = chained (λ y. product y h) 0 blocks

-- the nonce and a counter that is 1
unfoldable pub first_counter : List ℕ → ℕ
first_counter nonce = block_of (nonce ++ (0 ∷ 0 ∷ 0 ∷ 1 ∷ []))

-- how many bits the message has, in the first half of a block, and no plaintext in the second
abbrev pub lengths : List ℕ → ℕ
lengths message = 8 * length message * 2 ^ 64

unfoldable pub gmac : (key nonce message : List ℕ) → List ℕ
gmac key nonce message =
    bytes_of 16 (bit_xor (aes_block key (first_counter nonce)) (ghash (hash_key key) (blocks_of message ++ (lengths message ∷ []))))
