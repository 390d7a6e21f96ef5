use Rattle.std.proofs.Common.{◌≡◌, ◌-◌, ◌*◌, ◌++◌, length, take, drop, replicate}
use Rattle.decimal.specs.Digits.{spelled}
use Rattle.decimal.specs.CheckDigits.{DigitBefore}
use Rattle.decimal.specs.Slips.{groups_after, numbers_of, text_of}
use Rattle.decimal.proofs.writing.write_blocks.Given as goal

-- the groups so far and those still to write are the whole text, and the rest of the slip is zero
abbrev pub invariant-loop-i : goal.invariant-loop-i
invariant-loop-i l =
    DigitBefore l.before × (length l.slip ≡ 80)
    × (take (20 * l.i) l.slip ++ spelled (groups_after l.before (drop l.i (numbers_of l.blocks))) ≡ text_of l.blocks)
    × (drop (20 * l.i) l.slip ≡ replicate (80 - 20 * l.i) 0)
