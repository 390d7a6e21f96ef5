use Rattle.std.proofs.Common.{◌≡◌, rules}
use Rattle.decimal.specs.Groups.{all_digits, blocks_of}
use Rattle.decimal.proofs.Grouping.{bounded}
use Rattle.decimal.proofs.reading.read_blocks.Goals as goal

pub returns-clause-bounds : goal.returns-clause-bounds
unfolding blocks_of all_digits
returns-clause-bounds c =
    let value : c.blocks_in.result ≡ blocks_of c.args.text.now = search rules in
    bounded c.args.text.now c.blocks_in.result value
