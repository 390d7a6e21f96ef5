use Rattle.refusal.proofs.Making.{so}
use Rattle.token.proofs.tariff.Tariff.new.Goals as goal

pub returns : goal.returns
returns c = so _ _ _
