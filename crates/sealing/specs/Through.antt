-- The cipher over the blocks of a slip, one way for till and meter: map_by, which of two maps.
use Rattle.std.specs.Prelude.{ℕ}
use Rattle.cipher.specs.declared.width.Width.{Width}
use Rattle.sealing.specs.declared.through.Way.{Way}
use Rattle.sealing.specs.declared.through.Way.TheVariants.{Encipher, Decipher}

-- the first of two maps enciphers, the second deciphers
abbrev pub map_by : Way → (Width → ℕ → ℕ) → (Width → ℕ → ℕ) → Width → ℕ → ℕ
map_by Encipher enciphered deciphered = enciphered
map_by Decipher enciphered deciphered = deciphered
