use Rattle.std.proofs.Common.{◌≡◌, true, cond, ◌&&◌, Ok, sym, ap, ◌∙◌, arith, rules}
use Rattle.std.specs.Result.{result_ok}
use Rattle.std.proofs.lemmas.List.{take_all}
use Rattle.refusal.specs.Checks.{provided}
use Rattle.refusal.specs.declared.Refusal.TheVariants.{Sale as NoSale, TillIndexFull}
use Rattle.token.specs.SubClasses.{sub_class_named}
use Rattle.entry.specs.Rules.{raisable}
use Rattle.sealing.specs.Suites.{Sound, suite, sealer_of}
use Rattle.sealing.proofs.Soundness.{sound_of}
use Rattle.sale.specs.declared.checking.Ready.{Ready}
use Rattle.sale.specs.Slips.{slip_for}
use Rattle.sale.proofs.Printed.{was_ready, writes, prints}
use Rattle.sale.proofs.printing.print_slip.Given as given
use Rattle.sale.proofs.printing.print_slip.Goals as goal

abbrev keeps : (g : given.Over) (settings : _) (c : g.row.C.Denot) (a : g.row.A.Denot) → Sound (suite settings (g.C.Cipher.enciphered c) (g.C.Cipher.deciphered c) (g.A.Authenticator.tagged a))
keeps g settings c a = sound_of g.C.Cipher.enciphered g.C.Cipher.deciphered g.A.Authenticator.tagged g.met.C.Cipher.below g.met.C.Cipher.undone g.met.A.Authenticator.sixteen g.met.A.Authenticator.bytes (sealer_of settings c a)

pub unwrap-length-requires : goal.unwrap-length-requires
unwrap-length-requires g c =
    let s = c.args.settings.now in
    let sale = c.args.sale.now in
    let some = c.ok_or.ensures.ok_part ∙ ap result_ok c.in_ok-ready.was in
    let ready = was_ready s sale c.in_ok-ready.ready (sym some ∙ c.ready_for.ensures) in
    -- what is written is the sealed blocks, in whatever way the code names them
    writes _ (keeps g s c.args.cipher.now c.args.authenticator.now) c.args.number c.args.index sale ready.0
    _ c.write_blocks.result c.write_blocks.ensures.answer (search (rules, arith, take_all))

pub returns : goal.returns
returns g c =
    let s = c.args.settings.now in
    let sale = c.args.sale.now in
    let index = c.args.index in
    let agreed = suite s (g.C.Cipher.enciphered c.args.cipher.now) (g.C.Cipher.deciphered c.args.cipher.now) (g.A.Authenticator.tagged c.args.authenticator.now) in
    let some = c.ok_or.ensures.ok_part ∙ ap result_ok c.in_ok-ready.was in
    let ready = was_ready s sale c.in_ok-ready.ready (sym some ∙ c.ready_for.ensures) in
    let k : c.in_ok-ready.ready.subclass ≡ sub_class_named sale.subclass = ap (λ (r : Ready). r.subclass) ready.1 in
    let up : raisable (sub_class_named sale.subclass) index ≡ true = ap (λ x. raisable x index) (sym k) ∙ sym c.if-not-is_raisable.ensures in
    -- and so here
    let out = prints agreed (keeps g s c.args.cipher.now c.args.authenticator.now) c.args.number index sale ready.0
    _ c.write_blocks.result c.write_blocks.ensures.answer (search (rules, arith, take_all))
    c.unwrap-length.result c.args.slip.now c.write_blocks.new.slip c.unwrap-length.ensures c.write_blocks.ensures.bytes in
    record {
      answer = λ i. provided (sym ready.0 i) NoSale (provided (sym up i) TillIndexFull (Ok (record { length = out.0 i; subclass = k i })));
      bytes = out.1 ∙ (λ i. cond (sym ready.0 i && sym up i) (slip_for agreed c.args.number index sale) c.args.slip.now);
    }
