use Rattle.std.proofs.Common.{◌≡◌, ◌++◌, map, take, drop}
use Rattle.token.specs.FurtherBlocks.{part_of}
use Rattle.token.proofs.further.strip_sequences.Given as goal

abbrev pub invariant-loop-block : goal.invariant-loop-block
invariant-loop-block l = l.blocks ≡ map part_of (take l.block-index l.initial.blocks) ++ drop l.block-index l.initial.blocks
