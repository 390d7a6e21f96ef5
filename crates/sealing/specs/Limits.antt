-- The limits of settings, as tests: within, some_open, allowed. Names no type of the crate, so that the types can cite it.
use Rattle.std.specs.Prelude.{ℕ, Bool, ◌&&◌, ◌||◌, List, nat_le, nat_lt, slice_index}

-- none of the four multipliers is above 10,000
abbrev pub within : List ℕ → Bool
within ms = nat_le (slice_index ms 0) 10000 && nat_le (slice_index ms 1) 10000 && nat_le (slice_index ms 2) 10000 && nat_le (slice_index ms 3) 10000

-- one of the four is not reserved
abbrev pub some_open : List ℕ → Bool
some_open ms = nat_lt 0 (slice_index ms 0) || nat_lt 0 (slice_index ms 1) || nat_lt 0 (slice_index ms 2) || nat_lt 0 (slice_index ms 3)

-- both, and a ceiling from 1 on
abbrev pub allowed : List ℕ → ℕ → Bool
allowed multipliers ceiling = within multipliers && some_open multipliers && nat_lt 0 ceiling
