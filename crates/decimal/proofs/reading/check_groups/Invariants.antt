use Rattle.std.proofs.Common.{◌≡◌, true}
use Rattle.decimal.specs.Digits.{values, up_to}
use Rattle.decimal.specs.Groups.{before, sealed_at}
use Rattle.decimal.proofs.reading.check_groups.Given as goal

abbrev pub invariant-loop-group : goal.invariant-loop-group
invariant-loop-group l = (up_to (sealed_at (values l.text)) l.group-index ≡ true) × (l.before ≡ before (values l.text) l.group-index)
