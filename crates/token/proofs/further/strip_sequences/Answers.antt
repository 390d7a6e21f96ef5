use Rattle.std.proofs.Common.{get_or, arith}
use Rattle.std.proofs.lemmas.List.{get_or_default}
use Rattle.std.proofs.lemmas.List.Edits.{map_over_more}
use Rattle.token.specs.FurtherBlocks.{part_of}
use Rattle.token.proofs.further.strip_sequences.Goals as goal

pub loop-block-preserved : goal.loop-block-preserved
loop-block-preserved c =
    let ys = c.loop-block.blocks in
    let i = c.loop-block.block-index in
    let x = get_or ys i 0 in
    rw c.part_of.ensures (map_over_more part_of c.args.blocks.now ys i x (omega arith) c.loop-block.invariant (get_or_default ys i 0 x (omega arith)))
