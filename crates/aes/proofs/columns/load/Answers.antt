use Rattle.std.proofs.Common.{ℕ, ◌/◌, ap, ◌∙◌, rules}
use Rattle.std.specs.Simd.{first_chunks}
use Rattle.aes.specs.Words.{unpacked}
use Rattle.aes.proofs.Fill.{from_fn_is}
use Rattle.aes.proofs.Xors.{column_at, columns_are, unpacked_own}
use Rattle.aes.proofs.columns.load.Goals as goal

pub returns : goal.returns
returns c =
    let xs = c.args.block.now in
    let cs = c.as_chunks.result.0.now in
    ap unpacked
    (from_fn_is _ _ (column_at cs) c.from_fn.result 0 (λ i x q t. search rules) 4 c.from_fn.ensures.items
    ∙ columns_are xs cs (c.as_chunks.ensures.front ∙ ap (λ (n : ℕ). first_chunks 4 (n / 4) xs) c.told-block))
    ∙ unpacked_own xs c.told-block c.fits-block
