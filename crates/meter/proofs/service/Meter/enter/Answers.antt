use Rattle.std.proofs.Common.{◌≡◌, false, ltb, Ok, Err, sym, ap, ◌∙◌}
use Rattle.std.proofs.lemmas.Result.{err_from_is_err_and}
use Rattle.refusal.specs.declared.Refusal.TheVariants.{NoWrites}
use Rattle.entry.specs.Stages.{judged_by}
use Rattle.meter.specs.Meters.{suite_at}
use Rattle.meter.specs.Answering.{taking}
use Rattle.meter.proofs.Ways.{refused_at, unwritable}
use Rattle.refusal.proofs.Passing.{was_err}
use Rattle.meter.proofs.service.Meter.enter.Goals as goal

pub returns-in_err-worth-clause-answer : goal.returns-in_err-worth-clause-answer
returns-in_err-worth-clause-answer g c =
    let m = c.args.self.now in
    let text = c.args.text.now in
    let s = suite_at g.C.Cipher.enciphered g.C.Cipher.deciphered g.A.Authenticator.tagged m in
    let store = m.parts.store in
    let e = c.in_err-worth.field-0.0 in
    let p = err_from_is_err_and c.from_residual.result c.from_residual.ensures.1 in
    let j : Err e ≡ judged_by s (g.S.Store.kept store) text =
    c.in_err-worth.ensures ∙ ap (λ r. judged_by s r text) c.read-kept.ensures.value in
    rw (p.1, p.2) (ap taking (refused_at s (g.S.Store.kept store) (g.S.Store.writes store) text e j))

pub returns-in_err-keep-clause-answer : goal.returns-in_err-keep-clause-answer
returns-in_err-keep-clause-answer g c =
    let m = c.args.self.now in
    let text = c.args.text.now in
    let s = suite_at g.C.Cipher.enciphered g.C.Cipher.deciphered g.A.Authenticator.tagged m in
    let store = m.parts.store in
    let writes = g.S.Store.writes in
    let w = c.in_ok-worth.worth in
    let p = err_from_is_err_and c.from_residual-in_err-keep.result c.from_residual-in_err-keep.ensures.1 in
    let j : Ok w ≡ judged_by s (g.S.Store.kept store) text =
    c.in_ok-worth.ensures ∙ ap (λ r. judged_by s r text) c.read-kept.ensures.value in
    let none = was_err {X = Unit {0}} (ltb 0 (writes c.read-kept.new.self)) NoWrites c.in_err-keep.field-0.0 tt c.in_err-keep.ensures.answer in
    let h : ltb 0 (writes store) ≡ false = sym (ap (λ x. ltb 0 (writes x)) c.read-kept.ensures.same) ∙ none.0 in
    rw (p.1, p.2, none.1) (ap taking (unwritable s (g.S.Store.kept store) (writes store) text w j h))
