use Rattle.std.proofs.Common.{◌≡◌, ◌+◌, ◌≤◌, ◌++◌, vec_len, vec_capacity}
use Rattle.std.specs.Vec.Iter.{into_iter_items, into_iter_len}
use Rattle.meter.specs.Meters.{with_store, suite_at}
use Rattle.ledger.specs.Steps.{AllPerformed}
use Rattle.ledger.specs.Ledgers.{journal_of, calls_of, Lawful}
use Rattle.ledger.proofs.running.run.Given as goal

abbrev pub invariant-loop-call : goal.invariant-loop-call
invariant-loop-call g l =
    (goal.iterator-loop-call g).can_next l.call-iterator ×
    (goal.iterator-loop-call g).is_finite l.call-iterator ×
    (calls_of (journal_of l.ledger) ++ into_iter_items l.call-iterator ≡ into_iter_items l.initial.call-iterator) ×
    (vec_len l.ledger.lines + into_iter_len l.call-iterator ≤ vec_capacity l.ledger.lines) ×
    (l.ledger.meter ≡ with_store l.initial.ledger.meter l.ledger.meter.parts.store) ×
    (l.ledger.opening ≡ l.initial.ledger.opening) ×
    Lawful (suite_at g.C.Cipher.enciphered g.C.Cipher.deciphered g.A.Authenticator.tagged l.ledger.meter) l.ledger (g.S.Store.kept l.ledger.meter.parts.store) (g.S.Store.writes l.ledger.meter.parts.store) ×
    AllPerformed (suite_at g.C.Cipher.enciphered g.C.Cipher.deciphered g.A.Authenticator.tagged l.initial.ledger.meter) (g.S.Store.kept l.initial.ledger.meter.parts.store) (g.S.Store.writes l.initial.ledger.meter.parts.store) (journal_of l.ledger) (g.S.Store.kept l.ledger.meter.parts.store) (g.S.Store.writes l.ledger.meter.parts.store)
