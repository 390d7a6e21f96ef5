use Rattle.std.proofs.Common.{refl, ap, ◌∙◌}
use Rattle.aes.specs.Keyed.{key_of}
use Rattle.gmac.specs.Gmac.{gmac}
use Rattle.gmac.proofs.Tagging.{tag_is}
use Rattle.gmac.proofs.GmacAuthenticator.tag.Goals as goal

pub returns : goal.returns
returns c =
    let self = c.args.self.now in
    let key = key_of self.aes in
    let nonce = c.args.nonce.now in
    tag_is key nonce c.counting_part-part.result.now self.hash c.chain-y.result _ c.apply-hashed.result c.apply.result c.first_counter.result
    c.to_be_bytes.result self.kept c.chain-y.ensures refl c.apply-hashed.ensures c.first_counter.ensures c.apply.ensures c.to_be_bytes.ensures
    ∙ ap (gmac key nonce) c.counting_part-part.ensures.part
