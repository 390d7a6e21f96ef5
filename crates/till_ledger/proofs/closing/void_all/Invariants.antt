use Rattle.std.proofs.Common.{◌≡◌, ◌≤◌, vec_len}
use Rattle.till_ledger.specs.Closing.{voided_till}
use Rattle.till_ledger.proofs.closing.void_all.Given as goal

abbrev pub invariant-loop-drawn : goal.invariant-loop-drawn
invariant-loop-drawn g l = (l.till.counts.voids ≤ 4294967295) × (voided_till l.till (vec_len l.hand) ≡ voided_till l.initial.till (vec_len l.initial.hand))

abbrev pub decreases-loop-drawn : goal.decreases-loop-drawn
decreases-loop-drawn g l = vec_len l.hand
