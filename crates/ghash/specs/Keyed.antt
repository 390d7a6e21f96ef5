-- A hash key with its products at hand: hash_for; times, the map on blocks that it means.
use Rattle.std.specs.Prelude.{ℕ, refl}
use Rattle.ghash.specs.Ghash.{product}
use Rattle.ghash.specs.Products.{products_of}
use Rattle.ghash.specs.declared.state.HashKey.{HashKey}

abbrev pub hash_for : ℕ → HashKey
hash_for key = record { key = key; products = products_of key; kept = refl }

abbrev pub times : HashKey → ℕ → ℕ
times h block = product block h.key
