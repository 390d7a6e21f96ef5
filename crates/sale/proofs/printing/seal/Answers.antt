use Rattle.std.proofs.Common.{◌≡◌, ap, ◌∙◌}
use Rattle.token.specs.FirstBlocks.{first_fits}
use Rattle.sealing.specs.Opening.{through_low}
use Rattle.sealing.specs.Suites.{Sound, suite, sealer_of}
use Rattle.sealing.proofs.Soundness.{sound_of}
use Rattle.sale.specs.Slips.{first_sold, tag_sold}
use Rattle.sale.proofs.Filling.{tag_is, is_packed, filled}
use Rattle.sale.proofs.Sealed.{sold_by, first_fits_lem}
use Rattle.sale.proofs.printing.seal.Given as given
use Rattle.sale.proofs.printing.seal.Goals as goal

abbrev keeps : (g : given.Over) (settings : _) (c : g.row.C.Denot) (a : g.row.A.Denot) → Sound (suite settings (g.C.Cipher.enciphered c) (g.C.Cipher.deciphered c) (g.A.Authenticator.tagged a))
keeps g settings c a = sound_of g.C.Cipher.enciphered g.C.Cipher.deciphered g.A.Authenticator.tagged g.met.C.Cipher.below g.met.C.Cipher.undone g.met.A.Authenticator.sixteen g.met.A.Authenticator.bytes (sealer_of settings c a)

pub unwrap-requires : goal.unwrap-requires
unwrap-requires g c =
    let s = c.args.settings.now in
    let sale = c.args.sale.now in
    let o = keeps g s c.args.cipher.now c.args.authenticator.now in
    let tag : c.tag_field-tmac.result ≡ tag_sold _ c.args.number c.args.index sale =
    c.tag_field-tmac.ensures ∙ tag_is _ c.args.number c.args.index sale c.args.ready c.requires.readied in
    is_packed (first_sold c.args.number sale c.tag_field-tmac.result) c.pack.result
    (ap (λ t. first_fits (first_sold c.args.number sale t)) tag ∙ first_fits_lem _ o c.args.number c.args.index sale (sold_by s sale c.requires.salable))
    c.pack.ensures

pub returns : goal.returns
returns g c =
    let s = c.args.settings.now in
    let sale = c.args.sale.now in
    let o = keeps g s c.args.cipher.now c.args.authenticator.now in
    let b = c.unwrap.result in
    let walked = c.low_through.ensures ∙ ap (through_low (g.C.Cipher.enciphered c.args.cipher.now) c.args.ready.subclass) c.set.ensures in
    filled (suite s (g.C.Cipher.enciphered c.args.cipher.now) (g.C.Cipher.deciphered c.args.cipher.now) (g.A.Authenticator.tagged c.args.authenticator.now))
    c.args.number c.args.index sale c.args.ready c.tag_field-tmac.result b c.pack.result _
    c.requires.readied (c.tag_field-tmac.ensures ∙ tag_is _ c.args.number c.args.index sale c.args.ready c.requires.readied)
    (first_fits_lem _ o c.args.number c.args.index sale (sold_by s sale c.requires.salable))
    c.pack.ensures c.unwrap.ensures walked
