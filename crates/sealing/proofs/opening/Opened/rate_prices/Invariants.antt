use Rattle.std.proofs.Common.{◌≡◌, map, take}
use Rattle.token.specs.FurtherBlocks.{part_of}
use Rattle.sealing.proofs.opening.Opened.rate_prices.Given as goal

abbrev pub invariant-loop-block : goal.invariant-loop-block
invariant-loop-block l = l.parts.items ≡ map part_of (take l.block-index l.block-items)
