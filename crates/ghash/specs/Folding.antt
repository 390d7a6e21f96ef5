-- The product with x, several times: times_xs, and times_x4, four times.
use Rattle.std.specs.Prelude.{ℕ, zero, suc}
use Rattle.ghash.specs.Ghash.{times_x}

unfoldable pub times_xs : (n v : ℕ) → ℕ
times_xs zero v = v
times_xs (suc n) v = times_x (times_xs n v)

abbrev pub times_x4 : ℕ → ℕ
times_x4 v = times_xs 4 v
