-- Which marks a window may have: room (how many numbers below the highest have one), markable (no mark lies outside).
use Rattle.std.specs.Prelude.{ℕ, ◌-◌, ◌^◌, min, Bool, nat_lt}

-- the 126 numbers below the highest, and none below 1
abbrev pub room : ℕ → ℕ
room highest = min 126 (highest - 1)

abbrev pub markable : ℕ → ℕ → Bool
markable highest marks = nat_lt marks (2 ^ room highest)
