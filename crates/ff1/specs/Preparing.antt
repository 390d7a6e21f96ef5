-- What is computed once for a key and a tweak: mask_of, the chain over all blocks of a round but the last, added to what the last one has of
-- the tweak; rounds_of, with the sizes of the halves; prepared_for, for both widths of a cipher.
use Rattle.std.specs.Prelude.{ℕ, ◌+◌, ◌*◌, ◌/◌, List, length, take, drop, bit_xor}
use Rattle.spelling.specs.Spelling.{bytes_of}
use Rattle.chaining.specs.Blocks.{aes_block, block_of, blocks_of, chained}
use Rattle.ff1.specs.Ff1.{half_bytes, head_block}
use Rattle.ff1.specs.Sizes.{sizes_of}
use Rattle.ff1.specs.declared.rounds.Rounds.{Rounds}
use Rattle.ff1.specs.declared.rounds.Prepared.{Prepared}

-- the bytes of the tweak that stand before the last block of a round
abbrev pub leading : (b t : ℕ) → ℕ
leading b t = (t + b) / 16 * 16

unfoldable pub mask_of : (radix n : ℕ) (key tweak : List ℕ) → ℕ
mask_of radix n key tweak =
    let k = leading (half_bytes radix n) (length tweak) in
    bit_xor (chained (aes_block key) (aes_block key (block_of (head_block radix n (length tweak)))) (blocks_of (take k tweak))) (block_of (drop k tweak))

abbrev pub rounds_of : (radix n : ℕ) (key tweak : List ℕ) → Rounds
rounds_of radix n key tweak = record { sizes = sizes_of radix n; mask = mask_of radix n key tweak }

-- the tweak is the MeterID
abbrev pub prepared_for : (key : List ℕ) (meter : ℕ) → Prepared
prepared_for key meter = record { first = rounds_of 2 57 key (bytes_of 8 meter); further = rounds_of 2 59 key (bytes_of 8 meter) }
