use Rattle.std.proofs.Common.{vec_items, sym, ap, ◌∙◌, subst, rules, arith}
use Rattle.std.proofs.lemmas.List.{take_all}
use Rattle.entry.specs.Judging.{judged}
use Rattle.meter.specs.Answering.{taking}
use Rattle.meter.proofs.Obeying.{entry_kept, spend_kept}
use Rattle.meter.specs.Meters.{suite_at}
use Rattle.till.specs.Tills.{till_suite}
use Rattle.journal.specs.declared.calls.Call.{Call}
use Rattle.journal.specs.Steps.{entry_answer, spend_answer, Performed}
use Rattle.till_ledger.specs.Ledgers.{world_of}
use Rattle.till_ledger.proofs.Obeying.{entered, spent}
use Rattle.till_ledger.proofs.steps.perform_at.Goals as goal

pub returns-in-Draw-clause-did : goal.returns-in-Draw-clause-did
returns-in-Draw-clause-did g c =
    let m = c.args.meter.now in
    let kept = g.S.Store.kept in
    let writes = g.S.Store.writes in
    let t = till_suite g.C.Cipher.enciphered g.C.Cipher.deciphered g.A.Authenticator.tagged c.args.till.now in
    let s = suite_at g.C.Cipher.enciphered g.C.Cipher.deciphered g.A.Authenticator.tagged m in
    subst (λ (call : Call). Performed t s call c.draw.result (world_of kept writes c.args.till.now (vec_items c.args.hand.now) m) (world_of kept writes c.draw.new.till (vec_items c.draw.new.hand) m))
    (sym c.in-Draw.is) (c.draw.ensures.did t s (kept m.parts.store) (writes m.parts.store))

pub returns-in-Issue-clause-did : goal.returns-in-Issue-clause-did
returns-in-Issue-clause-did g c =
    let m = c.args.meter.now in
    let kept = g.S.Store.kept in
    let writes = g.S.Store.writes in
    let t = till_suite g.C.Cipher.enciphered g.C.Cipher.deciphered g.A.Authenticator.tagged c.args.till.now in
    let s = suite_at g.C.Cipher.enciphered g.C.Cipher.deciphered g.A.Authenticator.tagged m in
    subst (λ (call : Call). Performed t s call c.issue.result (world_of kept writes c.args.till.now (vec_items c.args.hand.now) m) (world_of kept writes c.issue.new.till (vec_items c.issue.new.hand) m))
    (sym c.in-Issue.is) (c.issue.ensures.did s (kept m.parts.store) (writes m.parts.store))

pub returns-in-Void-clause-did : goal.returns-in-Void-clause-did
returns-in-Void-clause-did g c =
    let m = c.args.meter.now in
    let kept = g.S.Store.kept in
    let writes = g.S.Store.writes in
    let t = till_suite g.C.Cipher.enciphered g.C.Cipher.deciphered g.A.Authenticator.tagged c.args.till.now in
    let s = suite_at g.C.Cipher.enciphered g.C.Cipher.deciphered g.A.Authenticator.tagged m in
    subst (λ (call : Call). Performed t s call c.void.result (world_of kept writes c.args.till.now (vec_items c.args.hand.now) m) (world_of kept writes c.void.new.till (vec_items c.void.new.hand) m))
    (sym c.in-Void.is) (c.void.ensures.did t s (kept m.parts.store) (writes m.parts.store))

pub returns-in-Enter-clause-did : goal.returns-in-Enter-clause-did
returns-in-Enter-clause-did g c =
    let m = c.args.meter.now in
    let n = c.enter.new.self in
    let till = c.args.till.now in
    let hand = vec_items c.args.hand.now in
    let store = g.S.Store in
    let met = g.met.S.Store in
    let t = till_suite g.C.Cipher.enciphered g.C.Cipher.deciphered g.A.Authenticator.tagged till in
    let s = suite_at g.C.Cipher.enciphered g.C.Cipher.deciphered g.A.Authenticator.tagged m in
    -- what is keyed in is the text of the entry, in whatever way the code cuts it out
    let keyed = vec_items c.in-Enter.entry.text in
    subst (λ (call : Call). Performed t s call c.into.result (world_of store.kept store.writes till hand m) (world_of store.kept store.writes till hand n)) (sym c.in-Enter.is)
    (entered t s till hand _ _ _ _ c.in-Enter.entry c.into.result
    (c.into.ensures ∙ ap entry_answer (c.enter.ensures.answer ∙ ap (λ text. taking (judged s (store.kept m.parts.store) (store.writes m.parts.store) text)) (search (rules, arith, take_all))))
    (entry_kept store.kept store.writes store.after met.holds met.most met.least s
    m.parts.store n.parts.store _ keyed (search (rules, arith, take_all)) (ap (λ x. x.parts.store) c.enter.ensures.after)))

pub returns-in-Spend-clause-did : goal.returns-in-Spend-clause-did
returns-in-Spend-clause-did g c =
    let m = c.args.meter.now in
    let n = c.spend.new.self in
    let till = c.args.till.now in
    let hand = vec_items c.args.hand.now in
    let store = g.S.Store in
    let met = g.met.S.Store in
    let t = till_suite g.C.Cipher.enciphered g.C.Cipher.deciphered g.A.Authenticator.tagged till in
    let s = suite_at g.C.Cipher.enciphered g.C.Cipher.deciphered g.A.Authenticator.tagged m in
    subst (λ (call : Call). Performed t s call c.into-in-Spend.result (world_of store.kept store.writes till hand m) (world_of store.kept store.writes till hand n)) (sym c.in-Spend.is)
    (spent t s till hand _ _ _ _ c.in-Spend.used c.into-in-Spend.result
    (c.into-in-Spend.ensures ∙ ap spend_answer c.spend.ensures.answer)
    (spend_kept store.kept store.writes store.after met.holds met.most met.least
    m.parts.store n.parts.store c.in-Spend.used.amount (ap (λ x. x.parts.store) c.spend.ensures.after)))
