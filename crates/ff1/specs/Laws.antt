-- What FF1 keeps at every radix, length, key and tweak: the law Ff1Returns.
use Rattle.std.specs.Prelude.{◌≡◌, ℕ, ◌^◌, ◌<◌, List}
use Rattle.ff1.specs.Ff1.{ff1, ff1_back}

-- a number of n digits comes back, either way round, and stays among the numbers of n digits
pub record Returns (radix n : ℕ) (key tweak : List ℕ) (x : ℕ) : Type 0 where
  pub back : ff1_back radix n key tweak (ff1 radix n key tweak x) ≡ x
  pub forth : ff1 radix n key tweak (ff1_back radix n key tweak x) ≡ x
  pub below : ff1 radix n key tweak x < radix ^ n
  pub within : ff1_back radix n key tweak x < radix ^ n

abbrev pub Ff1Returns : Type 0
Ff1Returns = (radix n : ℕ) (key tweak : List ℕ) (x : ℕ) → 0 < radix → x < radix ^ n → Returns radix n key tweak x
