-- The law of a journal: EntryTaken, SpendPerformed, RightBy, Right, what makes an answer the right one; Law.
use Rattle.std.specs.Prelude.{◌≡◌, ℕ, ◌+◌, ◌-◌, ◌≤◌, List, [], ◌∷◌, None, vec_items, nat_lt}
use Rattle.refusal.specs.Checks.{AllKept, FirstBroken}
use Rattle.window.specs.Recovery.{lowest, Stands}
use Rattle.window.specs.Marks.{marked}
use Rattle.record.specs.declared.Record.{Record}
use Rattle.sealing.specs.Suites.{Suite}
use Rattle.entry.specs.Reading.{slip_read, amount_read}
use Rattle.entry.specs.Rules.{Standing, entry_rules}
use Rattle.meter.specs.Writing.{OneWrite}
use Rattle.meter.specs.Answering.{spend_rules}
use Rattle.meter.specs.Telling.{told}
use Rattle.meter.specs.declared.answers.Answer.{Answer}
use Rattle.meter.specs.declared.answers.Answer.TheVariants.{Taken, Spent, Refused}
use Rattle.meter.specs.declared.answers.Taken as taken
use Rattle.meter.specs.declared.answers.Spent as spent
use Rattle.ledger.specs.declared.calls.Call.{Call}
use Rattle.ledger.specs.declared.calls.Call.TheVariants.{Enter, Spend}
use Rattle.ledger.specs.Noted.{Line}
use Rattle.meter.specs.Journals.{total, writes_after, AtEach}
use Rattle.ledger.specs.Journal.{effect, times, highest_in, index_in, tariff_after, standing_after}

-- an entry was taken rightly, where the meter stood so: every rule was kept; the number is the one of the window that its ten bits
-- stand for; the answer tells it, the amount that the digits say, and the credit higher by that
pub record EntryTaken (s : Suite) (m : Standing) (text : List ℕ) (t : taken.Taken) (writes : ℕ) : Type 0 where
  pub rules : AllKept (entry_rules s m text)
  pub number : Stands m.highest (slip_read s text).first.tstn t.number
  pub tells : told (Taken t) ≡ record { number = 0; values = t.number ∷ amount_read s text ∷ (m.credit + amount_read s text) ∷ [] }
  pub write : OneWrite m.writes writes

-- a spend was performed rightly: every rule was kept, and the answer tells the amount named and the credit lower by it
pub record SpendPerformed (m : Standing) (amount : ℕ) (p : spent.Spent) (writes : ℕ) : Type 0 where
  pub rules : AllKept (spend_rules m amount)
  pub tells : told (Spent p) ≡ record { number = 0; values = amount ∷ (m.credit - amount) ∷ [] }
  pub write : OneWrite m.writes writes

-- the answer is a right one to the call, where the meter stood so: performed rightly, or refused for the first rule that is
-- broken, with no write
abbrev pub RightBy : Suite → Standing → Call → Answer → ℕ → Type 0
RightBy s m (Enter e) (Taken t) writes = EntryTaken s m (vec_items e.text) t writes
RightBy s m (Enter e) (Spent p) writes = ⊥
RightBy s m (Enter e) (Refused x) writes = FirstBroken (entry_rules s m (vec_items e.text)) x × (writes ≡ m.writes)
RightBy s m (Spend u) (Taken t) writes = ⊥
RightBy s m (Spend u) (Spent p) writes = SpendPerformed m u.amount p writes
RightBy s m (Spend u) (Refused x) writes = FirstBroken (spend_rules m u.amount) x × (writes ≡ m.writes)

-- a line's answer is right, by the journal before it and what the meter opened with
abbrev pub Right : Suite → ℕ → ℕ → List Line → Line → Type 0
Right s opening writes before l = RightBy s (standing_after s opening writes before) l.call l.answer l.writes

-- The law of a journal, from a new meter with an opening credit and writes left to the record and the writes left at its end.
pub record Law (s : Suite) (opening writes : ℕ) (lines : List Line) (closing : Record) (left : ℕ) : Type 0 where
  -- the credit is what it opened with, plus the amounts of the entries taken, less the amounts of the spends performed
  pub credit : closing.credit + total (λ l. (effect s l).subtracted) lines ≡ opening + total (λ l. (effect s l).added) lines
  -- from the lower end of the window on a number is marked exactly when an entry counted it
  pub marks : (n : ℕ) → lowest closing.window.highest ≤ n → marked closing.window n ≡ nat_lt 0 (times s n lines)
  -- every number was counted at most once
  pub once : (n : ℕ) → times s n lines ≤ 1
  -- the window stands at the highest number counted
  pub highest : closing.window.highest ≡ highest_in s lines
  -- function index and tariff are those of the slips with rate prices taken
  pub index : closing.index ≡ index_in s lines
  pub tariff : closing.tariff ≡ tariff_after s None lines
  -- the writes left are the ones noted last
  pub store : left ≡ writes_after writes lines
  -- every answer is right, by the journal before it
  pub right : AtEach (Right s opening writes) lines
