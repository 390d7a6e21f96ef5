use Rattle.ff1.proofs.Joining.{binary_is}
use Rattle.ff1.proofs.sizing.binary.Goals as goal

pub returns : goal.returns
returns c = binary_is c.args.width c.bits-digits.result c.bits-digits.ensures
