-- How many bits an enciphered part has: bits.
use Rattle.std.specs.Prelude.{ℕ}
use Rattle.cipher.specs.declared.width.Width.{Width}
use Rattle.cipher.specs.declared.width.Width.TheVariants.{First, Further}

abbrev pub bits : Width → ℕ
bits First = 57
bits Further = 59
