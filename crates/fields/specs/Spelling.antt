-- A number in so many bytes, highest byte first: spell.
use Rattle.std.specs.Prelude.{ℕ, zero, suc, ◌/◌, ◌^◌, List, [], ◌∷◌}
use Rattle.spelling.specs.Spelling.{bytes_of}

-- The first byte takes all that the bytes after it leave. So every number can be read back; it is a byte where the number
-- has room.
abbrev pub spell : ℕ → ℕ → List ℕ
spell zero n = []
spell (suc k) n = n / 256 ^ k ∷ bytes_of k n
