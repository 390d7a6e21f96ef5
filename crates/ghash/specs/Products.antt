-- The products of a hash key with the sixteen values of four bits: products_of.
use Rattle.std.specs.Prelude.{ℕ, List, map}
use Rattle.std.specs.List.{range_with_len}
use Rattle.ghash.specs.Ghash.{product_from}

unfoldable pub products_of : ℕ → List ℕ
products_of key = map (λ n. product_from 4 n key 0) (range_with_len 0 16)
