use Rattle.std.proofs.Common.{◌≡◌, drop}
use Rattle.day.specs.Deeds.{slip_in}
use Rattle.day.proofs.keying.slip_of.Given as goal

abbrev pub invariant-loop-line : goal.invariant-loop-line
invariant-loop-line l = slip_in l.number (drop l.line-index l.lines) ≡ slip_in l.number l.lines
