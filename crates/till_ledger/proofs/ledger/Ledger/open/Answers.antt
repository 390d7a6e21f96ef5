use Rattle.std.proofs.Common.{◌≡◌, [], sym, ap, ◌∙◌}
use Rattle.sealing.specs.Suites.{Sound, suite_of}
use Rattle.sealing.specs.declared.sealer.Sealer.{Sealer}
use Rattle.sealing.proofs.Soundness.{sound_of}
use Rattle.meter.specs.Meters.{suite_at}
use Rattle.till.specs.Tills.{till_suite}
use Rattle.journal.specs.Standings.{World}
use Rattle.journal.proofs.Keeping.{opened}
use Rattle.till_ledger.specs.Ledgers.{world_of}
use Rattle.till_ledger.proofs.ledger.Ledger.open.Given as given
use Rattle.till_ledger.proofs.ledger.Ledger.open.Goals as goal

abbrev keeps : (g : given.Over) (s : Sealer g.row.C.Denot g.row.A.Denot) → Sound (suite_of g.C.Cipher.enciphered g.C.Cipher.deciphered g.A.Authenticator.tagged s)
keeps g s = sound_of g.C.Cipher.enciphered g.C.Cipher.deciphered g.A.Authenticator.tagged g.met.C.Cipher.below g.met.C.Cipher.undone g.met.A.Authenticator.sixteen g.met.A.Authenticator.bytes s

pub returns-clause-lawful : goal.returns-clause-lawful
returns-clause-lawful g c =
    let m = c.args.meter in
    let last = c.writes_left-writes.new.self in
    let till = c.args.till in
    let kept = g.S.Store.kept in
    let writes = g.S.Store.writes in
    let t = till_suite g.C.Cipher.enciphered g.C.Cipher.deciphered g.A.Authenticator.tagged till in
    let agreed = suite_at {S = g.row.S.Denot} g.C.Cipher.enciphered g.C.Cipher.deciphered g.A.Authenticator.tagged in
    let same : last ≡ m = c.writes_left-writes.ensures.same ∙ c.read-kept.ensures.same in
    let had : c.read-kept.result ≡ kept m.parts.store = c.read-kept.ensures.value in
    let left : c.writes_left-writes.result ≡ writes m.parts.store =
    c.writes_left-writes.ensures.value ∙ ap (λ n. writes n.parts.store) c.read-kept.ensures.same in
    let start : World = record { kept = c.read-kept.result; writes = c.writes_left-writes.result; counts = c.counts.result; index = c.index.result; hand = [] } in
    let is : start ≡ world_of kept writes till [] m =
    λ i. record { kept = had i; writes = left i; counts = c.counts.ensures i; index = c.index.ensures i; hand = [] } in
    let at_last : world_of kept writes till [] m ≡ world_of kept writes till c.new.result.items last =
    λ i. world_of kept writes till (sym c.new.ensures.items i) (sym same i) in
    opened t (agreed last) (keeps g last.parts.sealer) start _ _ c.new-2.ensures.items (sym at_last ∙ sym is)
