-- Ledgers: desk_world, a till with its hand beside a meter's record and writes left; world_of, a till, a hand and a meter; line_of, a line
-- of the journal; journal_of; calls_of, the calls of a journal; start_of and world_at, where a ledger began and where it stands; Lawful.
use Rattle.std.specs.Prelude.{ℕ, List, [], map, vec_items}
use Rattle.cipher.specs.declared.width.Width.{Width}
use Rattle.record.specs.declared.Record.{Record}
use Rattle.meter.specs.Meters.{suite_at}
use Rattle.meter.specs.declared.service.Meter.{Meter}
use Rattle.till.specs.Tills.{till_suite}
use Rattle.till.specs.declared.drawn.DrawnNumber.{DrawnNumber}
use Rattle.till.specs.declared.selling.Till.{Till}
use Rattle.journal.specs.declared.answers.Answer.{Answer}
use Rattle.journal.specs.declared.calls.Call.{Call}
use Rattle.journal.specs.Noted.{Line}
use Rattle.journal.specs.Standings.{World}
use Rattle.journal.specs.Law.{NewRunKeeps}
use Rattle.till_ledger.specs.declared.ledger.Ledger.{Ledger}

-- the till and the hand, beside what a meter's store means
abbrev pub desk_world : {C A : Type 0} → Record → ℕ → Till C A → List DrawnNumber → World
desk_world kept writes till hand = record { kept = kept; writes = writes; counts = till.counts; index = till.index; hand = hand }

-- the same, where the meter's store has this meaning
abbrev pub world_of : {S C A : Type 0} → (S → Record) → (S → ℕ) → Till C A → List DrawnNumber → Meter S C A → World
world_of kept writes till hand meter = desk_world (kept meter.parts.store) (writes meter.parts.store) till hand

-- a call with its answer and the writes left afterwards
abbrev pub line_of : Call → Answer → ℕ → Line
line_of call answer writes = record { call = call; answer = answer; writes = writes }

-- all lines of a ledger, the oldest first
abbrev pub journal_of : {S C A : Type 0} → Ledger S C A → List Line
journal_of l = vec_items l.lines

-- the calls of a journal, in their order
abbrev pub calls_of : List Line → List Call
calls_of lines = map (λ l. l.call) lines

-- where till and meter stood when the ledger was opened, with nothing in hand
abbrev pub start_of : {S C A : Type 0} → Ledger S C A → World
start_of l = record { kept = l.opening.kept; writes = l.opening.writes; counts = l.opening.counts; index = l.opening.index; hand = [] }

-- where they stand now
abbrev pub world_at : {S C A : Type 0} → (S → Record) → (S → ℕ) → Ledger S C A → World
world_at kept writes l = world_of kept writes l.till (vec_items l.hand) l.meter

-- The ledger keeps the law from where it was opened up to where it stands, by the meanings of its store, cipher and authenticator:
-- if till and meter were new and of the same suite.
abbrev pub Lawful : {S C A : Type 0} → (S → Record) → (S → ℕ) → (C → Width → ℕ → ℕ) → (C → Width → ℕ → ℕ) → (A → List ℕ → List ℕ → List ℕ) → Ledger S C A → Type 0
Lawful kept writes enciphered deciphered tagged l =
    NewRunKeeps (till_suite enciphered deciphered tagged l.till) (suite_at enciphered deciphered tagged l.meter) (start_of l) (journal_of l) (world_at kept writes l)
