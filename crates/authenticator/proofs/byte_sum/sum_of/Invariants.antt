use Rattle.std.proofs.Common.{◌≡◌, ◌*◌, ◌≤◌, take, sum}
use Rattle.authenticator.proofs.byte_sum.sum_of.Given as goal

abbrev pub invariant-loop-b : goal.invariant-loop-b
invariant-loop-b l = (l.total ≡ sum (take l.b-index l.bytes)) × (l.total ≤ 255 * l.b-index)
