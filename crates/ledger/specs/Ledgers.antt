-- Ledgers: line_of, a line of the journal; journal_of; calls_of, the calls of a journal; NewMeterKeeps, the law for a new meter; Lawful.
use Rattle.std.specs.Prelude.{ℕ, List, map, vec_items}
use Rattle.record.specs.declared.Record.{Record}
use Rattle.record.specs.Changes.{NewRecord}
use Rattle.sealing.specs.Suites.{Suite}
use Rattle.meter.specs.declared.answers.Answer.{Answer}
use Rattle.ledger.specs.declared.calls.Call.{Call}
use Rattle.ledger.specs.Noted.{Line}
use Rattle.ledger.specs.declared.ledger.Ledger.{Ledger}
use Rattle.ledger.specs.Law.{Law}

-- a call with its answer and the writes left afterwards
abbrev pub line_of : Call → Answer → ℕ → Line
line_of call answer writes = record { call = call; answer = answer; writes = writes }

-- all lines of a ledger, the oldest first
abbrev pub journal_of : {S C A : Type 0} → Ledger S C A → List Line
journal_of l = vec_items l.lines

-- the calls of a journal, in their order
abbrev pub calls_of : List Line → List Call
calls_of lines = map (λ l. l.call) lines

-- a meter that was new, with this record and so many writes left, keeps the law over a journal up to a record and writes left
abbrev pub NewMeterKeeps : Suite → Record → ℕ → List Line → Record → ℕ → Type 0
NewMeterKeeps s opening writes lines closing left = NewRecord opening → Law s opening.credit writes lines closing left

-- a ledger keeps the law from what it was opened with up to the record and the writes left that its store means now
abbrev pub Lawful : {S C A : Type 0} → Suite → Ledger S C A → Record → ℕ → Type 0
Lawful s l closing left = NewMeterKeeps s l.opening.kept l.opening.writes (journal_of l) closing left
