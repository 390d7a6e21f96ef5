-- Whether the definitions come to a vector's values: right_block, right_message, right_gmac, right_tags, numeral_there, numeral_back,
-- right_numeral, bits_there, bits_back, right_bits.
use Rattle.std.specs.Prelude.{ℕ, ◌%◌, ◌^◌, Bool, false, cond, ◌&&◌, ◌++◌, take, ◌==◌}
use Rattle.spelling.specs.Spelling.{bytes_of}
use Rattle.chaining.specs.Blocks.{aes_block, block_of}
use Rattle.cipher.specs.Widths.{bits}
use Rattle.cmac.specs.Cmac.{cmac}
use Rattle.gmac.specs.Gmac.{gmac}
use Rattle.ff1.specs.Ff1.{ff1, ff1_back}
use Rattle.ff1.specs.Sizes.{room_for}
use Rattle.vectors.specs.declared.blocks.BlockVector.{BlockVector}
use Rattle.vectors.specs.declared.tags.MessageVector.{MessageVector}
use Rattle.vectors.specs.declared.tags.GmacVector.{GmacVector}
use Rattle.vectors.specs.declared.tags.TagVector.{TagVector}
use Rattle.vectors.specs.declared.numerals.NumeralVector.{NumeralVector}
use Rattle.vectors.specs.declared.numerals.BitsVector.{BitsVector}

abbrev pub right_block : BlockVector → Bool
right_block v = aes_block (bytes_of 16 v.key) v.block == v.enciphered

abbrev pub right_message : MessageVector → Bool
right_message v = block_of (cmac (bytes_of 16 v.key) v.message.now) == v.tag

abbrev pub right_gmac : GmacVector → Bool
right_gmac v = block_of (gmac (bytes_of 16 v.key) v.nonce.now (take 64 v.message.now)) == v.tag

-- of a message the first 64 bytes count
abbrev pub right_tags : TagVector → Bool
right_tags v =
    (block_of (gmac (bytes_of 16 v.key) v.nonce.now (take 64 v.message.now)) == v.gmac)
    && block_of (cmac (bytes_of 16 v.key) (v.nonce.now ++ take 64 v.message.now)) == v.cmac

-- there is room for radix, length and tweak, and the value is right
abbrev pub numeral_there : NumeralVector → Bool
numeral_there v =
    cond (room_for v.radix v.digits v.tweak.now)
    (ff1 v.radix v.digits (bytes_of 16 v.key) v.tweak.now (v.plain % v.radix ^ v.digits) == v.enciphered) false

-- and so on the way back
abbrev pub numeral_back : NumeralVector → Bool
numeral_back v =
    cond (room_for v.radix v.digits v.tweak.now)
    (ff1_back v.radix v.digits (bytes_of 16 v.key) v.tweak.now (v.enciphered % v.radix ^ v.digits) == v.plain) false

abbrev pub right_numeral : NumeralVector → Bool
right_numeral v = numeral_there v && numeral_back v

-- a number of bits, enciphered and deciphered with the MeterID as the tweak
abbrev pub bits_there : BitsVector → ℕ
bits_there v = ff1 2 (bits v.width) (bytes_of 16 v.key) (bytes_of 8 v.meter) (v.plain % 2 ^ bits v.width)

abbrev pub bits_back : BitsVector → ℕ
bits_back v = ff1_back 2 (bits v.width) (bytes_of 16 v.key) (bytes_of 8 v.meter) (v.enciphered % 2 ^ bits v.width)

abbrev pub right_bits : BitsVector → Bool
right_bits v = bits_there v == v.enciphered && bits_back v == v.plain
