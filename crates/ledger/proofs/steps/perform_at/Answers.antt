use Rattle.std.proofs.Common.{vec_items, sym, ap, ◌∙◌, subst, rules, arith}
use Rattle.std.proofs.lemmas.List.{take_all}
use Rattle.entry.specs.Judging.{judged}
use Rattle.meter.specs.Meters.{suite_at}
use Rattle.meter.specs.Answering.{taking}
use Rattle.meter.specs.Telling.{entry_answer, spend_answer}
use Rattle.meter.specs.declared.service.Meter.{Meter}
use Rattle.meter.specs.declared.answers.Answer.{Answer}
use Rattle.meter.proofs.Obeying.{entry_kept, spend_kept}
use Rattle.ledger.specs.declared.calls.Call.{Call}
use Rattle.ledger.specs.Steps.{Performed}
use Rattle.ledger.proofs.steps.perform_at.Given as given
use Rattle.ledger.proofs.steps.perform_at.Goals as goal

abbrev Did : (g : given.Over) → Meter g.row.S.Denot g.row.C.Denot g.row.A.Denot → Answer → Meter g.row.S.Denot g.row.C.Denot g.row.A.Denot → Call → Type 0
Did g m x n call =
    Performed (suite_at g.C.Cipher.enciphered g.C.Cipher.deciphered g.A.Authenticator.tagged m) call x
    (g.S.Store.kept m.parts.store) (g.S.Store.writes m.parts.store) (g.S.Store.kept n.parts.store) (g.S.Store.writes n.parts.store)

pub returns-in-Enter-clause-did : goal.returns-in-Enter-clause-did
returns-in-Enter-clause-did g c =
    let m = c.args.meter.now in
    let n = c.enter.new.self in
    let s = suite_at g.C.Cipher.enciphered g.C.Cipher.deciphered g.A.Authenticator.tagged m in
    let store = g.S.Store in
    let met = g.met.S.Store in
    -- what is keyed in is the text of the entry, in whatever way the code cuts it out
    let keyed = vec_items c.in-Enter.entry.text in
    subst (Did g m c.into.result n) (sym c.in-Enter.is) (
      c.into.ensures ∙ ap entry_answer (c.enter.ensures.answer ∙ ap (λ text. taking (judged s (store.kept m.parts.store) (store.writes m.parts.store) text)) (search (rules, arith, take_all))),
      entry_kept store.kept store.writes store.after met.holds met.most met.least s
          m.parts.store n.parts.store _ keyed (search (rules, arith, take_all)) (ap (λ x. x.parts.store) c.enter.ensures.after),
    )

pub returns-in-Spend-clause-did : goal.returns-in-Spend-clause-did
returns-in-Spend-clause-did g c =
    let m = c.args.meter.now in
    let n = c.spend.new.self in
    let store = g.S.Store in
    let met = g.met.S.Store in
    subst (Did g m c.into-in-Spend.result n) (sym c.in-Spend.is) (
      c.into-in-Spend.ensures ∙ ap spend_answer c.spend.ensures.answer,
      spend_kept store.kept store.writes store.after met.holds met.most met.least
          m.parts.store n.parts.store c.in-Spend.used.amount (ap (λ x. x.parts.store) c.spend.ensures.after),
    )
