use Rattle.std.proofs.Common.{sym}
use Rattle.aes.proofs.Xors.{xor_bytes, own_bytes, joined_bytes, alike}
use Rattle.aes.proofs.columns.last_column.Goals as goal

pub returns : goal.returns
returns c =
    xor_bytes c.from_be_bytes.result c.args.k
    (alike (sym c.from_be_bytes.ensures) c.substitute.ensures.value c.substitute-2.ensures.value c.substitute-3.ensures.value c.substitute-4.ensures.value
    (joined_bytes c.substitute.result c.substitute-2.result c.substitute-3.result c.substitute-4.result
    c.substitute.type_inv c.substitute-2.type_inv c.substitute-3.type_inv c.substitute-4.type_inv)) (own_bytes c.args.k)
