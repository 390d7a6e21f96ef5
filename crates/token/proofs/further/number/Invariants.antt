use Rattle.token.specs.FurtherBlocks.{numbered}
use Rattle.token.proofs.Numbered.{Turned}
use Rattle.token.proofs.further.number.Given as goal

abbrev pub invariant-loop-i : goal.invariant-loop-i
invariant-loop-i l = Turned numbered l.initial.parts l.parts l.i
