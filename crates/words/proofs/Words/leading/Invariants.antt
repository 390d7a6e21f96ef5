use Rattle.std.proofs.Common.{◌≡◌, take}
use Rattle.words.proofs.Words.leading.Given as goal

abbrev pub invariant-loop-n : goal.invariant-loop-n
invariant-loop-n g l = l.words.items ≡ take g.row.MOST (take l.n-index l.numbers)
