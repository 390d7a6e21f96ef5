use Rattle.std.proofs.Common.{◌≡◌, ◌+◌, ◌*◌, ◌++◌, length, take}
use Rattle.std.specs.List.{flat_map}
use Rattle.spelling.specs.Spelling.{bytes_of}
use Rattle.sealing.specs.Messages.{head}
use Rattle.sealing.proofs.message.message_of.Given as goal

abbrev pub invariant-loop-block : goal.invariant-loop-block
invariant-loop-block l =
    (l.message.items ≡ head l.settings l.number l.index l.first ++ flat_map (bytes_of 8) (take l.block-index l.further)) ×
    (length l.message.items ≡ 27 + 8 * l.block-index)
