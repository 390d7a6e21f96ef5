use Rattle.std.proofs.Common.{◌≡◌, [], ◌∷◌, ◌++◌, vec_items, sym, ap, ◌∙◌, subst}
use Rattle.sealing.specs.Suites.{Suite}
use Rattle.meter.specs.Meters.{with_store, suite_at}
use Rattle.meter.specs.declared.service.Meter.{Meter}
use Rattle.ledger.specs.Steps.{Performed}
use Rattle.ledger.specs.Ledgers.{line_of}
use Rattle.ledger.proofs.Continuing.{continued}
use Rattle.ledger.proofs.ledger.Ledger.note.Given as given
use Rattle.ledger.proofs.ledger.Ledger.note.Goals as goal

abbrev agreed : (g : given.Over) → Meter g.row.S.Denot g.row.C.Denot g.row.A.Denot → Suite
agreed g m = suite_at g.C.Cipher.enciphered g.C.Cipher.deciphered g.A.Authenticator.tagged m

pub returns-clause-lawful : goal.returns-clause-lawful
returns-clause-lawful g c =
    let m = c.args.self.now.meter in
    let last = c.writes_left-writes.new.self in
    let kept = g.S.Store.kept in
    let writes = g.S.Store.writes in
    let x = c.perform_at-answer.result in
    let asked : last ≡ c.perform_at-answer.new.meter = c.writes_left-writes.ensures.same in
    let only : last ≡ with_store m last.parts.store =
    asked ∙ c.perform_at-answer.ensures.same ∙ ap (λ n. with_store m n.parts.store) (sym asked) in
    let left : c.writes_left-writes.result ≡ writes last.parts.store =
    c.writes_left-writes.ensures.value ∙ ap (λ n. writes n.parts.store) (sym asked) in
    let noted : vec_items c.push_reserved.new.self ≡ vec_items c.args.self.now.lines ++ line_of c.args.call x (writes last.parts.store) ∷ [] =
    c.push_reserved.ensures.items ∙ (λ i. vec_items c.args.self.now.lines ++ line_of c.args.call x (left i) ∷ []) in
    let did : Performed (agreed g m) c.args.call x (kept m.parts.store) (writes m.parts.store) (kept last.parts.store) (writes last.parts.store) =
    subst (λ n. Performed (agreed g m) c.args.call x (kept m.parts.store) (writes m.parts.store) (kept n.parts.store) (writes n.parts.store)) (sym asked) c.perform_at-answer.ensures.did in
    λ before new.
    continued (agreed g m) (agreed g last) _ _ (vec_items c.args.self.now.lines) _ (kept m.parts.store) (writes m.parts.store) c.args.call x _ (writes last.parts.store)
    (ap (agreed g) only) noted did (before new)
