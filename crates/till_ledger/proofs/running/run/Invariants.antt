use Rattle.std.proofs.Common.{◌≡◌, ◌+◌, ◌≤◌, ◌++◌, vec_len, vec_capacity}
use Rattle.std.specs.Vec.Iter.{into_iter_items, into_iter_len}
use Rattle.meter.specs.Meters.{with_store, suite_at}
use Rattle.till.specs.Tills.{with_desk, till_suite}
use Rattle.journal.specs.Steps.{AllPerformed}
use Rattle.till_ledger.specs.Ledgers.{journal_of, calls_of, world_at, Lawful}
use Rattle.till_ledger.proofs.running.run.Given as goal

abbrev pub invariant-loop-call : goal.invariant-loop-call
invariant-loop-call g l =
    (goal.iterator-loop-call g).can_next l.call-iterator ×
    (goal.iterator-loop-call g).is_finite l.call-iterator ×
    (calls_of (journal_of l.ledger) ++ into_iter_items l.call-iterator ≡ into_iter_items l.initial.call-iterator) ×
    (vec_len l.ledger.lines + into_iter_len l.call-iterator ≤ vec_capacity l.ledger.lines) ×
    (vec_len l.ledger.hand + into_iter_len l.call-iterator ≤ vec_capacity l.ledger.hand) ×
    (l.ledger.meter ≡ with_store l.initial.ledger.meter l.ledger.meter.parts.store) ×
    (l.ledger.till ≡ with_desk l.initial.ledger.till l.ledger.till.index l.ledger.till.counts) ×
    (l.ledger.opening ≡ l.initial.ledger.opening) ×
    Lawful g.S.Store.kept g.S.Store.writes g.C.Cipher.enciphered g.C.Cipher.deciphered g.A.Authenticator.tagged l.ledger ×
    AllPerformed (till_suite g.C.Cipher.enciphered g.C.Cipher.deciphered g.A.Authenticator.tagged l.initial.ledger.till) (suite_at g.C.Cipher.enciphered g.C.Cipher.deciphered g.A.Authenticator.tagged l.initial.ledger.meter) (world_at g.S.Store.kept g.S.Store.writes l.initial.ledger) (journal_of l.ledger) (world_at g.S.Store.kept g.S.Store.writes l.ledger)
