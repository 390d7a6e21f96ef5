use Rattle.std.proofs.Common.{ap}
use Rattle.refusal.specs.Checks.{found}
use Rattle.refusal.specs.declared.Refusal.TheVariants as no
use Rattle.refusal.proofs.Making.{so}
use Rattle.sealing.proofs.settings.Settings.new.Goals as goal

pub returns : goal.returns
returns c = ap (λ o. found o no.Settings) (so _ _ _)
