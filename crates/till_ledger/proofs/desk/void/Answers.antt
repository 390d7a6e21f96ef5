use Rattle.till_ledger.proofs.Dealing.{voided_performed}
use Rattle.till_ledger.proofs.desk.void.Goals as goal

pub returns-in-Some-clause-did : goal.returns-in-Some-clause-did
returns-in-Some-clause-did g c =
    λ t s kept writes. voided_performed t s kept writes c.args.till.now c.void.new.self _ _ c.args.cancellation.now c.void.ensures c.in-Some.ensures.found.1
