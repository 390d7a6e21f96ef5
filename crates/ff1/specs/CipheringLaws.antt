-- FF1 is a cipher: ff1_below and ff1_within, both maps keep a width; ff1_undone, deciphering undoes enciphering.
use Rattle.std.specs.Prelude.{◌≡◌, ℕ, ◌^◌, ◌<◌}
use Rattle.std.proofs.Common.{lit<}
use Rattle.spelling.specs.Spelling.{bytes_of}
use Rattle.aes.specs.Keyed.{key_of}
use Rattle.cipher.specs.Widths.{bits}
use Rattle.cipher.specs.declared.width.Width.{Width}
use Rattle.feistel.proofs.Undoing.{undoes_all, stays_all}
use Rattle.ff1.specs.Ff1.{round_number, ff1, ff1_back}
use Rattle.ff1.specs.Ciphering.{ff1_enciphered, ff1_deciphered}
use Rattle.ff1.specs.declared.state.Ff1.{Ff1}

pub ff1_below : (c : Ff1) (w : Width) (n : ℕ) → n < 2 ^ bits w → ff1_enciphered c w n < 2 ^ bits w
unfolding ff1
ff1_below c w n h = (stays_all 2 (bits w) (round_number 2 (bits w) (key_of c.aes) (bytes_of 8 c.meter)) n (lit< tt) h).0

pub ff1_within : (c : Ff1) (w : Width) (n : ℕ) → n < 2 ^ bits w → ff1_deciphered c w n < 2 ^ bits w
unfolding ff1_back
ff1_within c w n h = (stays_all 2 (bits w) (round_number 2 (bits w) (key_of c.aes) (bytes_of 8 c.meter)) n (lit< tt) h).1

pub ff1_undone : (c : Ff1) (w : Width) (n : ℕ) → n < 2 ^ bits w → ff1_deciphered c w (ff1_enciphered c w n) ≡ n
unfolding ff1 ff1_back
ff1_undone c w n h = undoes_all 2 (bits w) (round_number 2 (bits w) (key_of c.aes) (bytes_of 8 c.meter)) n (lit< tt) h
