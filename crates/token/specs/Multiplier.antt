-- What a multiplier code of rate prices means: price_multiplier.
use Rattle.std.specs.Prelude.{ℕ, ◌^◌}

-- what a price is multiplied by, in thousandths of a minor unit
abbrev pub price_multiplier : ℕ → ℕ
price_multiplier code = 10 ^ code
