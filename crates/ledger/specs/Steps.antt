-- What one call does to a meter, by its record and the writes left: Performed; AllPerformed, the same of a journal.
use Rattle.std.specs.Prelude.{◌≡◌, ℕ, List, [], ◌∷◌, vec_items}
use Rattle.record.specs.declared.Record.{Record}
use Rattle.sealing.specs.Suites.{Suite}
use Rattle.entry.specs.Judging.{judged}
use Rattle.meter.specs.Answering.{taking, spend_judged, spending}
use Rattle.meter.specs.declared.answers.Answer.{Answer}
use Rattle.ledger.specs.declared.calls.Call.{Call}
use Rattle.ledger.specs.declared.calls.Call.TheVariants.{Enter, Spend}
use Rattle.ledger.specs.Noted.{Line}
use Rattle.meter.specs.Telling.{entry_answer, spend_answer}
use Rattle.meter.specs.Writing.{next_of, Moved}

-- a call was performed or refused as the rules have it
abbrev pub Performed : Suite → Call → Answer → Record → ℕ → Record → ℕ → Type 0
Performed s (Enter e) x r writes new left =
    (x ≡ entry_answer (taking (judged s r writes (vec_items e.text)))) × Moved (next_of (judged s r writes (vec_items e.text))) r writes new left
Performed s (Spend u) x r writes new left =
    (x ≡ spend_answer (spending u.amount (spend_judged r writes u.amount))) × Moved (spend_judged r writes u.amount) r writes new left

-- all calls of a journal were performed or refused so, one after the other, from one record and writes left to another
abbrev pub AllPerformed : Suite → Record → ℕ → List Line → Record → ℕ → Type 0
AllPerformed s r writes [] new left = (new ≡ r) × (left ≡ writes)
AllPerformed s r writes (l ∷ ls) new left =
    (next : Record) × Performed s l.call l.answer r writes next l.writes × AllPerformed s next l.writes ls new left
