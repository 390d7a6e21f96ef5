-- The clear cipher is a cipher: clear_below and clear_within, both maps keep a width; clear_undone, deciphering undoes enciphering.
use Rattle.std.specs.Prelude.{◌≡◌, ℕ, ◌^◌, ◌<◌, refl}
use Rattle.cipher.specs.Clearing.{as_is}
use Rattle.cipher.specs.Widths.{bits}
use Rattle.cipher.specs.declared.clear.Clear.{Clear}
use Rattle.cipher.specs.declared.width.Width.{Width}

pub clear_below : (c : Clear) (w : Width) (n : ℕ) → n < 2 ^ bits w → as_is c w n < 2 ^ bits w
clear_below c w n small = small

pub clear_within : (c : Clear) (w : Width) (n : ℕ) → n < 2 ^ bits w → as_is c w n < 2 ^ bits w
clear_within c w n small = small

pub clear_undone : (c : Clear) (w : Width) (n : ℕ) → n < 2 ^ bits w → as_is c w (as_is c w n) ≡ n
clear_undone c w n small = refl
