use Rattle.std.proofs.Common.{◌≡◌, [], ◌∷◌, ◌++◌, vec_items, sym, ap, ◌∙◌, subst}
use Rattle.sealing.specs.Suites.{Sound, suite_of}
use Rattle.sealing.specs.declared.sealer.Sealer.{Sealer}
use Rattle.sealing.proofs.Soundness.{sound_of}
use Rattle.meter.specs.Meters.{with_store, suite_at}
use Rattle.till.specs.Tills.{till_suite}
use Rattle.journal.specs.Steps.{Performed}
use Rattle.journal.proofs.Keeping.{continued}
use Rattle.till_ledger.specs.Ledgers.{world_of, line_of}
use Rattle.till_ledger.proofs.ledger.Ledger.note.Given as given
use Rattle.till_ledger.proofs.ledger.Ledger.note.Goals as goal

abbrev keeps : (g : given.Over) (s : Sealer g.row.C.Denot g.row.A.Denot) → Sound (suite_of g.C.Cipher.enciphered g.C.Cipher.deciphered g.A.Authenticator.tagged s)
keeps g s = sound_of g.C.Cipher.enciphered g.C.Cipher.deciphered g.A.Authenticator.tagged g.met.C.Cipher.below g.met.C.Cipher.undone g.met.A.Authenticator.sixteen g.met.A.Authenticator.bytes s

pub returns-clause-lawful : goal.returns-clause-lawful
returns-clause-lawful g c =
    let old = c.args.self.now in
    let m = old.meter in
    let DidAt = c.perform_at-answer.ensures in
    let done = c.perform_at-answer.new.meter in
    let last = c.writes_left-writes.new.self in
    let till = c.perform_at-answer.new.till in
    let hand = vec_items c.perform_at-answer.new.hand in
    let kept = g.S.Store.kept in
    let writes = g.S.Store.writes in
    let x = c.perform_at-answer.result in
    let of_till = till_suite g.C.Cipher.enciphered g.C.Cipher.deciphered g.A.Authenticator.tagged in
    let of_meter = suite_at {S = g.row.S.Denot} g.C.Cipher.enciphered g.C.Cipher.deciphered g.A.Authenticator.tagged in
    let asked : last ≡ done = c.writes_left-writes.ensures.same in
    let only : last ≡ with_store m last.parts.store =
    asked ∙ DidAt.meter ∙ ap (λ n. with_store m n.parts.store) (sym asked) in
    let left : c.writes_left-writes.result ≡ writes last.parts.store =
    c.writes_left-writes.ensures.value ∙ ap (λ n. writes n.parts.store) (sym asked) in
    let noted : vec_items c.push_reserved.new.self ≡ vec_items old.lines ++ line_of c.args.call x (writes last.parts.store) ∷ [] =
    c.push_reserved.ensures.items ∙ (λ i. vec_items old.lines ++ line_of c.args.call x (left i) ∷ []) in
    let did : Performed (of_till old.till) (of_meter m) c.args.call x (world_of kept writes old.till (vec_items old.hand) m) (world_of kept writes till hand last) =
    subst (λ n. Performed (of_till old.till) (of_meter m) c.args.call x (world_of kept writes old.till (vec_items old.hand) m) (world_of kept writes till hand n)) (sym asked) DidAt.did in
    λ before.
    continued (of_till old.till) (of_till till) (of_meter m) (of_meter last) (keeps g m.parts.sealer) _
    (vec_items old.lines) (vec_items c.push_reserved.new.self) _ (world_of kept writes till hand last) c.args.call x
    (ap of_till DidAt.till) (ap of_meter only) noted did before
