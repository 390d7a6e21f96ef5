use Rattle.worked_sales.proofs.TwoLines.{worked}
use Rattle.worked_sales.proofs.worked_run.Goals as goal

pub returns : goal.returns
returns c = worked
