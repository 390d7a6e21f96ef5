use Rattle.token.specs.Widths.{packed}
use Rattle.token.proofs.Turns.{Left}
use Rattle.token.proofs.fields.pack.Given as goal

abbrev pub invariant-loop-width : goal.invariant-loop-width
invariant-loop-width l = Left l.width-iterator.a.rest.now l.width-iterator.b.rest.now (packed l.widths l.values) l.word
