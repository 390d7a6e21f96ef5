-- What a journal says, line by line and in all. A line: text_of, amount_named, effect_of, effect. A journal: times, highest_in, index_in,
-- tariff_after, credit_after, standing_after.
use Rattle.std.specs.Prelude.{ℕ, ◌+◌, ◌-◌, List, [], Some, None, vec_items, Option, nat_lt}
use Rattle.token.specs.declared.tariff.Tariff.{Tariff}
use Rattle.sealing.specs.Indices.{one_for_rates}
use Rattle.sealing.specs.Suites.{Suite}
use Rattle.entry.specs.Reading.{slip_read, amount_read, tariff_brought}
use Rattle.entry.specs.Rules.{Standing}
use Rattle.meter.specs.Journals.{Effect, nothing, total, one_if, highest_of, tariff_of, writes_after}
use Rattle.meter.specs.declared.answers.Answer.{Answer}
use Rattle.meter.specs.declared.answers.Answer.TheVariants.{Taken, Spent, Refused}
use Rattle.ledger.specs.declared.calls.Call.{Call}
use Rattle.ledger.specs.declared.calls.Call.TheVariants.{Enter, Spend}
use Rattle.ledger.specs.Noted.{Line}

-- the bytes that a call enters
abbrev pub text_of : Call → List ℕ
text_of (Enter e) = vec_items e.text
text_of (Spend u) = []

-- the amount that a call names to be spent
abbrev pub amount_named : Call → ℕ
amount_named (Enter e) = 0
amount_named (Spend u) = u.amount

-- An entry taken adds the amount that the rules read from its digits, whatever was answered; a spend performed takes off the
-- amount that its call names; a refused call does nothing.
abbrev pub effect_of : Suite → Call → Answer → Effect
effect_of s c (Taken t) = record {
  added = amount_read s (text_of c);
  subtracted = 0;
  counted = Some t.number;
  rates = one_for_rates (slip_read s (text_of c)).subclass;
  tariff = tariff_brought (slip_read s (text_of c));
}
effect_of s c (Spent p) = record { added = 0; subtracted = amount_named c; counted = None; rates = 0; tariff = None }
effect_of s c (Refused e) = nothing

abbrev pub effect : Suite → Line → Effect
effect s l = effect_of s l.call l.answer

-- how often the number n was counted
abbrev pub times : Suite → ℕ → List Line → ℕ
times s n lines = total (λ l. one_if (effect s l).counted n) lines

-- the highest number counted, 0 at first
abbrev pub highest_in : Suite → List Line → ℕ
highest_in s lines = highest_of (effect s) lines

-- the function index: the slips with rate prices taken
abbrev pub index_in : Suite → List Line → ℕ
index_in s lines = total (λ l. (effect s l).rates) lines

-- the tariff that the last slip with rate prices brought
abbrev pub tariff_after : Suite → Option Tariff → List Line → Option Tariff
tariff_after s old lines = tariff_of (effect s) old lines

-- the credit by a journal: what was there at the opening and what was added, less what was taken off
abbrev pub credit_after : Suite → ℕ → List Line → ℕ
credit_after s opening lines = opening + total (λ l. (effect s l).added) lines - total (λ l. (effect s l).subtracted) lines

-- what the rules ask of a new meter after a journal, by the journal alone
abbrev pub standing_after : Suite → ℕ → ℕ → List Line → Standing
standing_after s opening writes lines = record {
  credit = credit_after s opening lines;
  highest = highest_in s lines;
  counted = λ n. nat_lt 0 (times s n lines);
  index = index_in s lines;
  writes = writes_after writes lines;
}
