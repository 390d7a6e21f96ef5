use Rattle.std.proofs.Common.{arith}
use Rattle.window.proofs.BitLaws.{set-bits, set_below}
use Rattle.window.proofs.bits.with.Goals as goal

pub returns : goal.returns
returns c = record {
  below = set_below c.args.left c.args.bits c.args.place c.requires.small (omega arith) (omega arith);
  bits = λ i. set-bits c.args.bits c.args.place i (omega arith);
}
