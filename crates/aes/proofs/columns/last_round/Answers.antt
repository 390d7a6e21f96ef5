use Rattle.aes.proofs.Xors.{last_is}
use Rattle.aes.proofs.columns.last_round.Goals as goal

pub returns : goal.returns
returns c =
    let h = c.columns.ensures in
    last_is c.args.s.now c.args.k.now c.columns.result (record { first = h.first.1; second = h.second.1; third = h.third.1; fourth = h.fourth.1 })
