use Rattle.std.proofs.Common.{◌≡◌, sym, ap, ◌∙◌}
use Rattle.ledger.proofs.Continuing.{opened}
use Rattle.ledger.proofs.ledger.Ledger.open.Goals as goal

pub returns-clause-lawful : goal.returns-clause-lawful
returns-clause-lawful g c =
    λ new.
    let same : c.writes_left-writes.new.self ≡ c.args.meter =
    c.writes_left-writes.ensures.same ∙ c.read-kept.ensures.same in
    opened _ c.read-kept.result c.writes_left-writes.result _ _ _ c.new.ensures.items
    (ap (λ m. g.S.Store.kept m.parts.store) same ∙ sym c.read-kept.ensures.value)
    (ap (λ m. g.S.Store.writes m.parts.store) same ∙ sym (c.writes_left-writes.ensures.value ∙ ap (λ m. g.S.Store.writes m.parts.store) c.read-kept.ensures.same)) new
