use Rattle.std.proofs.Common.{arith, rules}
use Rattle.ff1.proofs.Powers.{log_count, eight_bytes}
use Rattle.ff1.proofs.sizing.byte_count.Goals as goal

pub returns : goal.returns
returns c =
    let log = c.checked_ilog.ensures in
    let e = log_count c.checked_ilog.result c.args.n c.map_or.result _ (λ k p. search rules) log.variant log.power_le log.next_power_gt c.map_or.ensures (search rules) in
    record { value = e; few = omega (arith, e, eight_bytes c.args.n (search rules)) }
