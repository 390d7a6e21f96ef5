use Rattle.ff1.proofs.Returning.{ff1_returns}
use Rattle.ff1.proofs.ff1_law.Goals as goal

pub returns : goal.returns
returns c = ff1_returns
