use Rattle.std.proofs.Common.{vec_items, refl}
use Rattle.till.specs.Tills.{till_suite}
use Rattle.till_ledger.proofs.Dealing.{issued_performed, unissued_performed}
use Rattle.till_ledger.proofs.desk.issue.Goals as goal

pub returns-in-Ok-clause-did : goal.returns-in-Ok-clause-did
returns-in-Ok-clause-did g c =
    let till = c.args.till.now in
    let t = till_suite g.C.Cipher.enciphered g.C.Cipher.deciphered g.A.Authenticator.tagged till in
    let o = c.args.order.now in
    let found = c.in-Some.ensures.found in
    λ s kept writes.
    issued_performed t s kept writes till c.issue.new.self (vec_items c.args.hand.now) (vec_items c.take_from.new.hand) o refl c.in-Some.drawn found.0
    c.in-Ok.length _ c.issue.new.slip c.in-Ok.ensures.answer c.in-Ok.ensures.after c.in-Ok.ensures.bytes found.1

pub returns-in-Err-clause-did : goal.returns-in-Err-clause-did
returns-in-Err-clause-did g c =
    let till = c.args.till.now in
    let t = till_suite g.C.Cipher.enciphered g.C.Cipher.deciphered g.A.Authenticator.tagged till in
    let o = c.args.order.now in
    let found = c.in-Some.ensures.found in
    λ s kept writes.
    unissued_performed t s kept writes till c.issue.new.self (vec_items c.args.hand.now) (vec_items c.put.new.hand) o refl c.in-Some.drawn found.0
    c.in-Err.refused (vec_items c.take_from.new.hand) c.in-Err.ensures.answer c.in-Err.ensures.after found.1 c.put.ensures.gains
