use Rattle.std.proofs.Common.{◌≡◌, rules}
use Rattle.spelling.specs.Spelling.{bytes_of}
use Rattle.aes.specs.Keyed.{key_of}
use Rattle.cipher.specs.Widths.{bits}
use Rattle.ff1.specs.Preparing.{rounds_of}
use Rattle.ff1.proofs.Joining.{width_ready}
use Rattle.ff1.proofs.state.Ff1.network.Goals as goal
use Rattle.ff1.proofs.state.Ff1.network.Goals.{in-First, in-Further}

-- what is taken is what was prepared for the width
taken : (c : goal.Joined-width) → c.match-width.result.now ≡ rounds_of 2 (bits c.args.width) (key_of c.args.self.now.aes) (bytes_of 8 c.args.self.now.meter)
taken c = elim c.match-width.branch [ in-First w ↦ search rules | in-Further w ↦ search rules ]

pub invariant_of-result : goal.invariant_of-result
invariant_of-result c =
    record { sized = (width_ready c.args.width (key_of c.args.self.now.aes) (bytes_of 8 c.args.self.now.meter) _ (taken c)).sizes }
