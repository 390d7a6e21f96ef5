use Rattle.std.proofs.Common.{◌≡◌, true, map}
use Rattle.std.specs.List.{range_with_len}
use Rattle.decimal.specs.Digits.{values, up_to}
use Rattle.decimal.specs.Groups.{has_block, block_at}
use Rattle.decimal.proofs.reading.blocks_in.Given as goal

-- the blocks so far are there
abbrev pub invariant-loop-i : goal.invariant-loop-i
invariant-loop-i l =
    (up_to (has_block (values l.text)) l.i ≡ true) × (l.blocks.items ≡ map (block_at (values l.text)) (range_with_len 0 l.i))
