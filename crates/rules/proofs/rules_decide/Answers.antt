use Rattle.rules.proofs.Deciding.{rules_decide, rules_at_any_standing}
use Rattle.rules.proofs.rules_decide.Goals as goal

pub returns : goal.returns
returns c = record { entries = rules_decide; standings = rules_at_any_standing }
