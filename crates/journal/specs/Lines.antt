-- What a journal says, line by line and in all. A call: text_of, amount_named, number_named, rates_named. A line at the meter: effect_of,
-- effect; at the till: Deal, idle, deal_of, deal. A journal: how_many, times, drawn_times, issued_times, voided_times, draws, issues, voids,
-- rates_issued, highest_in, index_in, tariff_after, credit_after.
use Rattle.std.specs.Prelude.{ℕ, ◌+◌, ◌-◌, List, [], Some, None, vec_items, Option}
use Rattle.token.specs.SubClasses.{sub_class_named}
use Rattle.token.specs.declared.tariff.Tariff.{Tariff}
use Rattle.sealing.specs.Indices.{one_for_rates}
use Rattle.sealing.specs.Suites.{Suite}
use Rattle.entry.specs.Reading.{slip_read, amount_read, tariff_brought}
use Rattle.meter.specs.Journals.{Effect, nothing, total, one_if, highest_of, tariff_of}
use Rattle.sale.specs.declared.orders.Sale.{Sale}
use Rattle.journal.specs.declared.answers.Answer.{Answer}
use Rattle.journal.specs.declared.answers.Answer.TheVariants.{Drawn, Issued, Voided, Taken, Spent, NotInHand, Refused}
use Rattle.journal.specs.declared.calls.Call.{Call}
use Rattle.journal.specs.declared.calls.Call.TheVariants.{Draw, Issue, Void, Enter, Spend}
use Rattle.journal.specs.Noted.{Line}

-- the bytes that a call enters
abbrev pub text_of : Call → List ℕ
text_of Draw = []
text_of (Issue o) = []
text_of (Void v) = []
text_of (Enter e) = vec_items e.text
text_of (Spend u) = []

-- the amount that a call names to be spent
abbrev pub amount_named : Call → ℕ
amount_named Draw = 0
amount_named (Issue o) = 0
amount_named (Void v) = 0
amount_named (Enter e) = 0
amount_named (Spend u) = u.amount

-- the number that a call names to be issued or voided
abbrev pub number_named : Call → ℕ
number_named Draw = 0
number_named (Issue o) = o.number
number_named (Void v) = v.number
number_named (Enter e) = 0
number_named (Spend u) = 0

-- 1 for a sale with rate prices
abbrev pub rates_in : Sale → ℕ
rates_in sale = one_for_rates (sub_class_named sale.subclass)

-- 1 where a call names a sale with rate prices
abbrev pub rates_named : Call → ℕ
rates_named Draw = 0
rates_named (Issue o) = rates_in o.sale
rates_named (Void v) = 0
rates_named (Enter e) = 0
rates_named (Spend u) = 0

-- An entry taken adds the amount that the rules read from its digits, whatever was answered; a spend performed takes off the
-- amount that its call names; no other call does anything at the meter.
abbrev pub effect_of : Suite → Call → Answer → Effect
effect_of s c (Drawn d) = nothing
effect_of s c (Issued i) = nothing
effect_of s c Voided = nothing
effect_of s c (Taken t) = record {
  added = amount_read s (text_of c);
  subtracted = 0;
  counted = Some t.number;
  rates = one_for_rates (slip_read s (text_of c)).subclass;
  tariff = tariff_brought (slip_read s (text_of c));
}
effect_of s c (Spent p) = record { added = 0; subtracted = amount_named c; counted = None; rates = 0; tariff = None }
effect_of s c NotInHand = nothing
effect_of s c (Refused e) = nothing

abbrev pub effect : Suite → Line → Effect
effect s l = effect_of s l.call l.answer

-- what a line does at the till: the number drawn, issued or voided, and the slips with rate prices issued
pub record Deal : Type 0 where
  pub drawn : Option ℕ
  pub issued : Option ℕ
  pub voided : Option ℕ
  pub rates : ℕ

abbrev pub idle : Deal
idle = record { drawn = None; issued = None; voided = None; rates = 0 }

-- A draw performed draws the number that was answered; an issue or a void performed is of the number that its call names; no other
-- call does anything at the till.
abbrev pub deal_of : Call → Answer → Deal
deal_of c (Drawn d) = record { drawn = Some d.number; issued = None; voided = None; rates = 0 }
deal_of c (Issued i) = record { drawn = None; issued = Some (number_named c); voided = None; rates = rates_named c }
deal_of c Voided = record { drawn = None; issued = None; voided = Some (number_named c); rates = 0 }
deal_of c (Taken t) = idle
deal_of c (Spent p) = idle
deal_of c NotInHand = idle
deal_of c (Refused e) = idle

abbrev pub deal : Line → Deal
deal l = deal_of l.call l.answer

-- 1 where there is a number
abbrev pub how_many : Option ℕ → ℕ
how_many None = 0
how_many (Some k) = 1

-- how often the number n was counted by the meter; drawn, issued and voided at the till
abbrev pub times : Suite → ℕ → List Line → ℕ
times s n lines = total (λ l. one_if (effect s l).counted n) lines

abbrev pub drawn_times : ℕ → List Line → ℕ
drawn_times n lines = total (λ l. one_if (deal l).drawn n) lines

abbrev pub issued_times : ℕ → List Line → ℕ
issued_times n lines = total (λ l. one_if (deal l).issued n) lines

abbrev pub voided_times : ℕ → List Line → ℕ
voided_times n lines = total (λ l. one_if (deal l).voided n) lines

-- how many draws, issues and voids were performed
abbrev pub draws : List Line → ℕ
draws lines = total (λ l. how_many (deal l).drawn) lines

abbrev pub issues : List Line → ℕ
issues lines = total (λ l. how_many (deal l).issued) lines

abbrev pub voids : List Line → ℕ
voids lines = total (λ l. how_many (deal l).voided) lines

-- how many slips with rate prices were issued
abbrev pub rates_issued : List Line → ℕ
rates_issued lines = total (λ l. (deal l).rates) lines

-- the highest number counted, 0 at first
abbrev pub highest_in : Suite → List Line → ℕ
highest_in s lines = highest_of (effect s) lines

-- the meter's function index: the slips with rate prices taken
abbrev pub index_in : Suite → List Line → ℕ
index_in s lines = total (λ l. (effect s l).rates) lines

-- the tariff that the last slip with rate prices brought
abbrev pub tariff_after : Suite → Option Tariff → List Line → Option Tariff
tariff_after s old lines = tariff_of (effect s) old lines

-- the credit by a journal: what was there at the opening and what was added, less what was taken off
abbrev pub credit_after : Suite → ℕ → List Line → ℕ
credit_after s opening lines = opening + total (λ l. (effect s l).added) lines - total (λ l. (effect s l).subtracted) lines
