use Rattle.std.proofs.Common.{ap, ◌∙◌}
use Rattle.spelling.specs.Spelling.{bytes_of}
use Rattle.aes.specs.Keyed.{key_of}
use Rattle.aes.specs.declared.state.Aes128.{Aes128}
use Rattle.cipher.specs.Widths.{bits}
use Rattle.ff1.specs.Network.{through}
use Rattle.ff1.proofs.Joining.{width_ready, enciphered}
use Rattle.ff1.proofs.Ff1Cipher.encipher.Goals as goal

pub returns-clause-value : goal.returns-clause-value
returns-clause-value c =
    let w = c.args.width in
    let key = key_of c.args.self.now.aes in
    let tweak = bytes_of 8 c.args.self.now.meter in
    let r = c.network.result.rounds.now in
    enciphered 2 (bits w) key tweak r (width_ready w key tweak r c.network.ensures.rounds) c.args.n c.from.result (c.from.ensures ∙ c.low_bits.ensures.value) c.forth.result
    (c.forth.ensures.value ∙ ap (λ (a : Aes128). through (key_of a) r c.from.result) c.network.ensures.key)
