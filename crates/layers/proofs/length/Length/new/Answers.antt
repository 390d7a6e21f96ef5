use Rattle.std.proofs.Common.{ap}
use Rattle.refusal.specs.Checks.{found}
use Rattle.refusal.specs.declared.Refusal.TheVariants.{WriteBehindLength}
use Rattle.refusal.proofs.Making.{so}
use Rattle.layers.proofs.length.Length.new.Goals as goal

pub returns : goal.returns
returns c = ap (λ o. found o WriteBehindLength) (so _ _ _)
