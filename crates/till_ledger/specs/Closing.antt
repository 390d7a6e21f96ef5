-- A ledger taken apart: voided_till, closed_of.
use Rattle.std.specs.Prelude.{ℕ, ◌+◌, min}
use Rattle.till.specs.Tills.{with_counts}
use Rattle.till.specs.declared.selling.Till.{Till}
use Rattle.till_ledger.specs.declared.closing.Closed.{Closed}
use Rattle.till_ledger.specs.declared.ledger.Ledger.{Ledger}

-- the till after so many voids
abbrev pub voided_till : {C A : Type 0} → Till C A → ℕ → Till C A
voided_till t n = with_counts t (record { draws = t.counts.draws; issues = t.counts.issues; voids = min (t.counts.voids + n) 4294967295 })

-- till, meter and hand of a ledger
abbrev pub closed_of : {S C A : Type 0} → Ledger S C A → Closed S C A
closed_of l = record { till = l.till; meter = l.meter; hand = l.hand }
