use Rattle.std.proofs.Common.{◌≡◌, ◌^◌, ◌<◌}
use Rattle.ghash.specs.Ghash.{product_from}
use Rattle.ghash.proofs.four_bits.Given as goal

abbrev pub invariant-loop-place : goal.invariant-loop-place
invariant-loop-place l = (l.v < 2 ^ 128) × (product_from l.place l.n l.v l.z ≡ product_from 4 l.n l.key 0)
