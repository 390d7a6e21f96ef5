use Rattle.std.proofs.Common.{List, drop}
use Rattle.journal.specs.Noted.{Line}
use Rattle.till_ledger.specs.Ledgers.{journal_of}
use Rattle.day.specs.Days.{Kept, AllNoted}
use Rattle.day.proofs.perform_all.Given as goal

-- with the deeds that are left, all of them are noted
abbrev pub invariant-loop-deed : goal.invariant-loop-deed
invariant-loop-deed l =
    (Kept l.initial.ledger → Kept l.ledger)
    × ((end : List Line) → AllNoted (drop l.deed-index l.deeds) (journal_of l.ledger) end → AllNoted l.deeds (journal_of l.initial.ledger) end)
