-- What the operations come to when each works on what the one before it gave: repeated; and a lap of each, on blocks as numbers.
use Rattle.std.specs.Prelude.{ℕ, zero, suc, ◌%◌, ◌^◌, List, take, replicate}
use Rattle.spelling.specs.Spelling.{bytes_of}
use Rattle.aes.specs.Keyed.{key_of}
use Rattle.aes.specs.declared.state.Aes128.{Aes128}
use Rattle.chaining.specs.Blocks.{aes_block, block_of}
use Rattle.cipher.specs.declared.width.Width.TheVariants.{Further}
use Rattle.ff1.specs.Ciphering.{ff1_enciphered}
use Rattle.ff1.specs.declared.state.Ff1.{Ff1}

unfoldable pub repeated : ℕ → (ℕ → ℕ) → ℕ → ℕ
repeated zero f x = x
repeated (suc n) f x = repeated n f (f x)

abbrev pub block_lap : Aes128 → ℕ → ℕ
block_lap a n = aes_block (key_of a) n

-- a message of 64 zeros, under a nonce from the tag before, by what an authenticator makes of nonce and message
abbrev pub tag_lap : (List ℕ → List ℕ → List ℕ) → ℕ → ℕ
tag_lap tagged n = block_of (tagged (take 12 (bytes_of 16 n)) (replicate 64 0))

abbrev pub ff1_lap : Ff1 → ℕ → ℕ
ff1_lap f n = ff1_enciphered f Further (n % 2 ^ 59)
