use Rattle.std.proofs.Common.{◌≡◌, length, ap, arith}
use Rattle.sealing.specs.Messages.{head}
use Rattle.sealing.proofs.Spelled.{block_more, blocks_all}
use Rattle.sealing.proofs.message.message_of.Goals as goal

pub loop-block-preserved : goal.loop-block-preserved
loop-block-preserved c =
    let bs = c.args.further.now in
    let i = c.loop-block.block-index in
    let x = c.to_be_bytes.result in
    let n : length x ≡ 8 = ap length c.to_be_bytes.ensures in (
      block_more (head c.args.settings.now c.args.number c.args.index c.args.first.now) c.loop-block.message.items c.append.new.message.items x bs i c.loop-block-test.true c.loop-block.invariant.0 c.to_be_bytes.ensures c.append.ensures.value,
      omega (arith, c.append.ensures.len, n, c.loop-block.invariant.1),
    )

pub returns : goal.returns
returns c =
    blocks_all c.args.settings.now c.args.number c.args.index c.args.first.now c.loop-block.message.items c.args.further.now c.loop-block.block-index c.loop-block-test.false c.loop-block.invariant.0
