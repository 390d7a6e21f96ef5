-- Which lengths a write-behind layer may have, as a test: lengthable. It names no type of the crate, so that the type can
-- cite it.
use Rattle.std.specs.Prelude.{ℕ, Bool, ◌&&◌, nat_le, nat_lt}

-- 1 to 64
abbrev pub lengthable : ℕ → Bool
lengthable k = nat_lt 0 k && nat_le k 64
