use Rattle.std.proofs.Common.{[], ◌∷◌, ◌++◌, get_or, ap, ◌∙◌, rules}
use Rattle.std.specs.Int.Digits.{number_from_digits}
use Rattle.aes.proofs.Fill.{from_fn_is}
use Rattle.chaining.specs.Blocks.{block_of}
use Rattle.chaining.proofs.Numbers.{number_is}
use Rattle.cmac.proofs.filled_block.Goals as goal

pub returns : goal.returns
unfolding block_of
returns c =
    c.from_be_bytes.ensures ∙ number_is c.from_fn.result c.from_fn.ensures.items.long
    ∙ ap (number_from_digits 256)
    (from_fn_is _ _ (λ i. get_or (c.args.rest.now ++ (128 ∷ [])) i 0) c.from_fn.result 0 (λ i x q t. search rules) 16 c.from_fn.ensures.items)
