-- A field written over bytes: over.
use Rattle.std.specs.Prelude.{ℕ, ◌+◌, List, ◌++◌, length, take, drop}
use Rattle.fields.specs.Fields.{field, written}

-- from a place on, with the bytes before and after it as they are
abbrev pub over : ℕ → ℕ → List ℕ → List ℕ → List ℕ
over at tag v bytes = take at bytes ++ (written (field tag (length v)) v ++ drop (at + 3 + length v) bytes)
