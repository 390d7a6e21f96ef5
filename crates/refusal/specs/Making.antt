-- Values that carry a limit: where_so, a value whose making leans on a test.
use Rattle.std.specs.Prelude.{Bool, true, false, T, Some, None, Option}

-- the value, where the test holds; else none
abbrev pub where_so : {X : Type 0} (b : Bool) → (T b → X) → Option X
where_so true make = Some (make tt)
where_so false make = None
