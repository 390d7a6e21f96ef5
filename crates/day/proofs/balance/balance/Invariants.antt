use Rattle.journal.specs.Lines.{deal, how_many}
use Rattle.day.specs.Balances.{amount_taken, amount_spent}
use Rattle.day.proofs.Adding.{SoFar}
use Rattle.day.proofs.balance.balance.Given as goal

abbrev pub invariant-loop-line : goal.invariant-loop-line
invariant-loop-line l =
    SoFar (λ x. amount_taken x.answer) l.lines l.line-index l.taken
    × SoFar (λ x. amount_spent x.answer) l.lines l.line-index l.spent
    × SoFar (λ x. how_many (deal x).drawn) l.lines l.line-index l.draws
    × SoFar (λ x. how_many (deal x).issued) l.lines l.line-index l.issues
    × SoFar (λ x. how_many (deal x).voided) l.lines l.line-index l.voids
