use Rattle.std.proofs.Common.{refl}
use Rattle.till_ledger.proofs.Dealing.{undrawn_performed}
use Rattle.till_ledger.proofs.desk.draw.Goals as goal

pub returns-in-Err-clause-did : goal.returns-in-Err-clause-did
returns-in-Err-clause-did g c =
    λ t s kept writes. undrawn_performed t s kept writes c.args.till.now c.draw.new.self _ _ c.in-Err.refusal c.in-Err.ensures.answer c.draw.ensures.after refl
