-- The key expansion as the code keeps it: expanded, the round keys in words.
use Rattle.std.specs.Prelude.{ℕ, List, map}
use Rattle.std.specs.List.{range_with_len}
use Rattle.aes.specs.Aes.{round_key}
use Rattle.aes.specs.Words.{packed}

unfoldable pub expanded : List ℕ → List (List ℕ)
expanded key = map (λ n. packed (round_key key n)) (range_with_len 0 11)
