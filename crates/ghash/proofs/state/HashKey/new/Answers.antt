use Rattle.std.proofs.Common.{rules}
use Rattle.aes.proofs.Fill.{from_fn_is}
use Rattle.ghash.specs.Ghash.{product_from}
use Rattle.ghash.specs.Products.{products_of}
use Rattle.ghash.proofs.state.HashKey.new.Goals as goal

pub invariant_of-result : goal.invariant_of-result
unfolding products_of
invariant_of-result c =
    record { kept = from_fn_is _ _ (λ n. product_from 4 n c.args.key 0) c.from_fn-products.result 0 (λ i x q t. search rules) 16 c.from_fn-products.ensures.items }
