use Rattle.std.proofs.Common.{arith}
use Rattle.words.proofs.Listed.{one_more}
use Rattle.words.proofs.Words.push.Goals as goal

pub invariant_of-self : goal.invariant_of-self
invariant_of-self g c = one_more g.row.MOST c.self.inside.count _ c.self.inside.words c.args.n c.self.invariant (omega (arith, c.if-self.true)) (omega arith)
