use Rattle.std.proofs.Common.{◌≡◌, take, ap, ◌∙◌, arith}
use Rattle.std.proofs.lemmas.List.{take_all}
use Rattle.sealing.specs.Messages.{front, message, tag_field, index_for}
use Rattle.sealing.specs.Opening.{further_of}
use Rattle.sealing.specs.Slips.{Slip}
use Rattle.sealing.proofs.tag.tag_field.Goals as goal

pub returns : goal.returns
unfolding tag_field
returns g c =
    let settings = c.args.settings.now in
    let slip = c.args.slip.now in
    let tagged = g.A.Authenticator.tagged c.args.authenticator.now in
    let whole : take 64 c.as_slice.result.now ≡ c.as_slice.result.now =
    take_all 64 c.as_slice.result.now (omega (arith, c.as_slice.ensures.fits)) in
    let index : c.index_for-index.result ≡ index_for slip.subclass c.args.index =
    c.index_for-index.ensures ∙ ap (λ (o : Slip). index_for o.subclass c.args.index) c.slip.view_is in
    let said : c.as_slice.result.now ≡ message settings c.args.number (index_for slip.subclass c.args.index) slip.first (further_of slip) =
    c.as_slice.ensures.value ∙ c.message_of-message.ensures
    ∙ (λ i. message settings c.args.number (index i) (c.slip.view_is i).first (c.further.ensures.value i)) in
    c.from_be_bytes.ensures
    ∙ ap front (c.tag.ensures ∙ (λ i. tagged (c.nonce_for-nonce.ensures i) ((whole ∙ said) i)))
