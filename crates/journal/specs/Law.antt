-- The law of a journal. What makes an answer the right one: call_rules, held_for; EntryTaken, SpendPerformed, SlipIssued;
-- RightBy, Right. What an issued slip is owed: Due, Honoured. Numbers, what becomes of them; Law; NewRunKeeps.
use Rattle.std.specs.Prelude.{◌≡◌, ℕ, ◌+◌, ◌-◌, ◌<◌, ◌≤◌, Bool, true, false, cond, ◌&&◌, ◌⊎◌, List, [], ◌∷◌, ◌++◌, length, take, Some, None, vec_items, nat_le, nat_lt}
use Rattle.refusal.specs.Checks.{Rule, AllKept, FirstBroken}
use Rattle.token.specs.SubClasses.{sub_class_named}
use Rattle.token.specs.declared.subclass.SubClass.TheVariants.{Clear}
use Rattle.window.specs.Recovery.{lowest, in_window, Stands}
use Rattle.window.specs.Marks.{marked}
use Rattle.record.specs.declared.Record.{Record}
use Rattle.sealing.specs.Suites.{Suite}
use Rattle.entry.specs.Reading.{slip_read, amount_read}
use Rattle.entry.specs.Rules.{Standing, entry_rules}
use Rattle.meter.specs.Writing.{OneWrite}
use Rattle.meter.specs.Answering.{spend_rules}
use Rattle.meter.specs.declared.answers.Taken as taken
use Rattle.meter.specs.declared.answers.Spent as spent
use Rattle.sale.specs.Sales.{sale_rules}
use Rattle.sale.specs.Slips.{slip_length, slip_for}
use Rattle.till.specs.Counting.{draw_rules}
use Rattle.till.specs.declared.counts.Counts.{Counts}
use Rattle.till.specs.declared.drawn.DrawnNumber.{DrawnNumber}
use Rattle.readback.specs.Back.{amount_sold}
use Rattle.journal.specs.declared.answers.Answer.{Answer}
use Rattle.journal.specs.declared.answers.Answer.TheVariants.{Drawn, Issued, Voided, Taken, Spent, NotInHand, Refused}
use Rattle.journal.specs.declared.answers.Issued as issued
use Rattle.journal.specs.declared.calls.Call.{Call}
use Rattle.journal.specs.declared.calls.Call.TheVariants.{Draw, Issue, Void, Enter, Spend}
use Rattle.journal.specs.declared.calls.Cancellation.{Cancellation}
use Rattle.meter.specs.declared.calls.Entry.{Entry}
use Rattle.journal.specs.Noted.{Line}
use Rattle.journal.specs.declared.calls.Order.{Order}
use Rattle.meter.specs.declared.calls.Usage.{Usage}
use Rattle.journal.specs.Telling.{told}
use Rattle.journal.specs.Hands.{held}
use Rattle.meter.specs.Journals.{total, writes_after, AtEach}
use Rattle.journal.specs.Lines.{effect, times, drawn_times, issued_times, voided_times, draws, issues, voids, rates_issued, highest_in, index_in, tariff_after, credit_after}
use Rattle.journal.specs.Standings.{World, NewWorld, Desk, standing_after, desk_after}

-- the rules of each call, in the order in which they refuse
abbrev pub call_rules : Suite → Standing → Desk → Call → List Rule
call_rules s m d Draw = draw_rules d.drawn
call_rules s m d (Issue o) = sale_rules s.settings d.index o.sale
call_rules s m d (Void v) = []
call_rules s m d (Enter e) = entry_rules s m (vec_items e.text)
call_rules s m d (Spend u) = spend_rules m u.amount

-- a number that a call names to be issued or voided is in hand
abbrev pub held_for : Desk → Call → Bool
held_for d Draw = true
held_for d (Issue o) = d.holds o.number
held_for d (Void v) = d.holds v.number
held_for d (Enter e) = true
held_for d (Spend u) = true

-- an entry was taken rightly, where the meter stood so: every rule was kept; the number is the one of the window that its ten bits
-- stand for; the answer tells it, the amount that the digits say, and the credit higher by that
pub record EntryTaken (s : Suite) (m : Standing) (text : List ℕ) (t : taken.Taken) (writes : ℕ) : Type 0 where
  pub rules : AllKept (entry_rules s m text)
  pub number : Stands m.highest (slip_read s text).first.tstn t.number
  pub tells : told (Taken t) ≡ record { number = Some 0; values = t.number ∷ amount_read s text ∷ (m.credit + amount_read s text) ∷ [] }
  pub write : OneWrite m.writes writes

-- a spend was performed rightly: every rule was kept, and the answer tells the amount named and the credit lower by it
pub record SpendPerformed (m : Standing) (amount : ℕ) (p : spent.Spent) (writes : ℕ) : Type 0 where
  pub rules : AllKept (spend_rules m amount)
  pub tells : told (Spent p) ≡ record { number = Some 0; values = amount ∷ (m.credit - amount) ∷ [] }
  pub write : OneWrite m.writes writes

-- a slip was issued rightly, where the till stood so: its number was in hand, every rule was kept, and the bytes are those of the
-- slip for that number and sale at the till's index
pub record SlipIssued (s : Suite) (d : Desk) (o : Order) (i : issued.Issued) : Type 0 where
  pub in_hand : d.holds o.number ≡ true
  pub rules : AllKept (sale_rules s.settings d.index o.sale)
  pub bytes : i.slip ≡ slip_for s o.number d.index o.sale
  pub long : i.length ≡ slip_length o.sale

-- The answer is a right one to the call, where meter and till stood so. A draw answers the number after those drawn; an issue, a
-- void, an entry and a spend are performed rightly; a number is said not to be in hand only where it is not; and a call is refused
-- only for the first of its rules that is broken. What is no entry taken and no spend performed makes no write.
abbrev pub RightBy : Suite → Standing → Desk → Call → Answer → ℕ → Type 0
RightBy s m d c (Drawn a) writes = (c ≡ Draw) × AllKept (draw_rules d.drawn) × (a.number ≡ d.drawn + 1) × (writes ≡ m.writes)
RightBy s m d c (Issued i) writes = (o : Order) × (c ≡ Issue o) × SlipIssued s d o i × (writes ≡ m.writes)
RightBy s m d c Voided writes = (v : Cancellation) × (c ≡ Void v) × (d.holds v.number ≡ true) × (writes ≡ m.writes)
RightBy s m d c (Taken t) writes = (e : Entry) × (c ≡ Enter e) × EntryTaken s m (vec_items e.text) t writes
RightBy s m d c (Spent p) writes = (u : Usage) × (c ≡ Spend u) × SpendPerformed m u.amount p writes
RightBy s m d c NotInHand writes = (held_for d c ≡ false) × (writes ≡ m.writes)
RightBy s m d c (Refused x) writes = (held_for d c ≡ true) × FirstBroken (call_rules s m d c) x × (writes ≡ m.writes)

-- a line's answer is right, by the journal before it and what the meter opened with
abbrev pub Right : Suite → ℕ → ℕ → List Line → Line → Type 0
Right s opening writes before l = RightBy s (standing_after s opening writes before) (desk_after before) l.call l.answer l.writes

-- A slip that was issued on an earlier line is due: exactly its digits are entered, its number was not counted and is in the window
-- that the highest number counted leaves, its index is current, the ceiling is not passed, and a write is left. The index is
-- current for SubClass 0, and else where as many slips with rate prices were taken before the entry as were issued before the slip.
pub record Due (s : Suite) (opening writes : ℕ) (before : List Line) (text : List ℕ) (o : Order) : Type 0 where
  pub earlier : List Line
  pub issue : Line
  pub later : List Line
  pub slip : issued.Issued
  pub stands : before ≡ earlier ++ issue ∷ later
  pub asked : issue.call ≡ Issue o
  pub answered : issue.answer ≡ Issued slip
  pub digits : text ≡ take slip.length slip.slip
  pub uncounted : times s o.number before ≡ 0
  pub within : in_window (highest_in s before) o.number ≡ true
  pub current : (sub_class_named o.sale.subclass ≡ Clear) ⊎ (index_in s before ≡ rates_issued earlier)
  pub ceiling : credit_after s opening before + amount_sold s.settings o.sale ≤ s.settings.ceiling
  pub write : 0 < writes_after writes before

-- an entry of a slip that is due was taken, for the number and the amount of its sale
abbrev pub Honoured : Suite → ℕ → ℕ → List Line → Line → Type 0
Honoured s opening writes before l =
    (e : Entry) (o : Order) → l.call ≡ Enter e → Due s opening writes before (vec_items e.text) o →
    l.answer ≡ Taken (record {
      number = o.number;
      amount = amount_sold s.settings o.sale;
      credit = credit_after s opening before + amount_sold s.settings o.sale;
    })

-- 1 for each number from 1 up to the last one drawn
abbrev pub one_up_to : ℕ → ℕ → ℕ
one_up_to last n = cond (nat_lt 0 n && nat_le n last) 1 0

-- what became of the numbers, at the meter and at the till
pub record Numbers (s : Suite) (lines : List Line) (closing : Record) (counts : Counts) (hand : List DrawnNumber) : Type 0 where
  -- from the lower end of the window on a number is marked exactly when an entry counted it
  pub marks : (n : ℕ) → lowest closing.window.highest ≤ n → marked closing.window n ≡ nat_lt 0 (times s n lines)
  -- every number was counted at most once
  pub once : (n : ℕ) → times s n lines ≤ 1
  -- the numbers drawn are those from 1 on, each drawn once
  pub drawn : (n : ℕ) → drawn_times n lines ≡ one_up_to (draws lines) n
  -- each number that was drawn was either issued once or voided once or is in hand
  pub each : (n : ℕ) → issued_times n lines + voided_times n lines + held n hand ≡ drawn_times n lines
  -- the till's counts are those of the calls performed
  pub drawn_count : counts.draws ≡ draws lines
  pub issued_count : counts.issues ≡ issues lines
  pub voided_count : counts.voids ≡ voids lines
  -- draws are issues, voids and numbers in hand
  pub balance : draws lines ≡ issues lines + voids lines + length hand
  -- every number drawn has 32 bits
  pub fits : draws lines ≤ 4294967295

-- The law of a journal, from a new meter and a new till to where they stand at its end.
pub record Law (s : Suite) (start : World) (lines : List Line) (end : World) : Type 0 where
  -- the credit is what it opened with, plus the amounts of the entries taken, less the amounts of the spends performed
  pub credit : end.kept.credit + total (λ l. (effect s l).subtracted) lines ≡ start.kept.credit + total (λ l. (effect s l).added) lines
  -- each number was counted at most once, and issued, voided or in hand
  pub numbers : Numbers s lines end.kept end.counts end.hand
  -- a slip that was issued and is due is taken
  pub honoured : AtEach (Honoured s start.kept.credit start.writes) lines
  -- the window stands at the highest number counted
  pub highest : end.kept.window.highest ≡ highest_in s lines
  -- the meter's function index and tariff are those of the slips with rate prices taken, the till's index of those issued
  pub index : end.kept.index ≡ index_in s lines
  pub tariff : end.kept.tariff ≡ tariff_after s None lines
  pub till_index : end.index ≡ rates_issued lines
  pub till_index_fits : end.index ≤ 65535
  -- the writes left are the ones noted last
  pub store : end.writes ≡ writes_after start.writes lines
  -- every answer is right, by the journal before it
  pub right : AtEach (Right s start.kept.credit start.writes) lines

-- A new till and a new meter, whose settings are the same and whose ciphers and authenticators mean the same, keep the law.
abbrev pub NewRunKeeps : Suite → Suite → World → List Line → World → Type 0
NewRunKeeps till meter start lines end = NewWorld start → till ≡ meter → Law meter start lines end
