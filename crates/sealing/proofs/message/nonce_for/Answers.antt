use Rattle.sealing.proofs.Spelled.{twelve}
use Rattle.sealing.proofs.message.nonce_for.Goals as goal

pub returns : goal.returns
returns c =
    twelve c.args.settings.now c.args.number c.to_be_bytes.result c.to_be_bytes-2.result c.to_be_bytes.ensures c.to_be_bytes-2.ensures
