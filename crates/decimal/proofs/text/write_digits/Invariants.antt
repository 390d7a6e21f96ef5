use Rattle.std.proofs.Common.{◌≡◌, ◌++◌, length, drop}
use Rattle.decimal.specs.Digits.{spelled, padded}
use Rattle.decimal.proofs.text.write_digits.Given as goal

-- the digits still to write stand before those written
abbrev pub invariant-loop-i : goal.invariant-loop-i
invariant-loop-i l = spelled (padded 10 l.i l.rest) ++ drop l.i l.out ≡ spelled (padded 10 (length l.initial.out) l.n)
