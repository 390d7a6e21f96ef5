-- One step after another, where each may come to nothing: and_then.
use Rattle.std.specs.Prelude.{Some, None, Option}

-- the rest, from the value that is there
abbrev pub and_then : {X Y : Type 0} → Option X → (X → Option Y) → Option Y
and_then None rest = None
and_then (Some x) rest = rest x
