-- FF1 as a cipher: ff1_for, the one for a key and a MeterID; its two maps, ff1_enciphered and ff1_deciphered, at radix 2, highest bit first.
use Rattle.std.specs.Prelude.{ℕ, List, refl}
use Rattle.spelling.specs.Spelling.{bytes_of}
use Rattle.aes.specs.Keyed.{aes_for, key_of}
use Rattle.cipher.specs.Widths.{bits}
use Rattle.cipher.specs.declared.width.Width.{Width}
use Rattle.ff1.specs.Ff1.{ff1, ff1_back}
use Rattle.ff1.specs.Preparing.{prepared_for}
use Rattle.ff1.specs.declared.state.Ff1.{Ff1}

abbrev pub ff1_for : List ℕ → ℕ → Ff1
ff1_for key meter = record { aes = aes_for key; meter = meter; prepared = prepared_for key meter; kept = refl }

abbrev pub ff1_enciphered : Ff1 → Width → ℕ → ℕ
ff1_enciphered c width x = ff1 2 (bits width) (key_of c.aes) (bytes_of 8 c.meter) x

abbrev pub ff1_deciphered : Ff1 → Width → ℕ → ℕ
ff1_deciphered c width x = ff1_back 2 (bits width) (key_of c.aes) (bytes_of 8 c.meter) x
