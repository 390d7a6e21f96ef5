use Rattle.std.proofs.Common.{◌≡◌, ◌++◌, map, take}
use Rattle.cipher.specs.declared.width.Width.TheVariants.{Further}
use Rattle.sealing.specs.Opening.{through_block}
use Rattle.sealing.specs.Through.{map_by}
use Rattle.sealing.proofs.through.all_through.Given as goal

-- the further blocks so far stand behind the first
abbrev pub invariant-loop-block : goal.invariant-loop-block
invariant-loop-block g l =
    l.through.items
    ≡ l.initial.through.items ++ map (through_block (map_by l.way (g.C.Cipher.enciphered l.cipher) (g.C.Cipher.deciphered l.cipher)) Further) (take l.block-index l.further)
