-- The clear cipher: as_is, the map that leaves every number as it is, and clear_for, the clear cipher for a key and a meter, which
-- is the clear cipher again.
use Rattle.std.specs.Prelude.{List, ℕ}
use Rattle.cipher.specs.declared.width.Width.{Width}
use Rattle.cipher.specs.declared.clear.Clear.{Clear}

abbrev pub as_is : Clear → Width → ℕ → ℕ
as_is c width n = n

abbrev pub clear_for : List ℕ → ℕ → Clear
clear_for key meter = record {}
