-- What a deed of the day asks. The slips of a journal: slip_told, slip_on, slip_in, digits_of; raised, misread. Asked, asked_by and asks,
-- what a call asks; sale, keys, wanted, what a deed wants asked.
use Rattle.std.specs.Prelude.{ℕ, ◌+◌, cond, List, [], ◌∷◌, length, take, Some, None, vec_items, Option, ◌==◌, nat_lt, slice_index, slice_set}
use Rattle.journal.specs.Lines.{number_named}
use Rattle.journal.specs.declared.answers.Answer.{Answer}
use Rattle.journal.specs.declared.answers.Answer.TheVariants as answer
use Rattle.journal.specs.declared.answers.Issued.{Issued}
use Rattle.journal.specs.declared.calls.Call.{Call}
use Rattle.journal.specs.declared.calls.Call.TheVariants as call
use Rattle.journal.specs.Noted.{Line}
use Rattle.journal.specs.declared.calls.Order.{Order}
use Rattle.sale.specs.declared.orders.PriceList.{PriceList}
use Rattle.day.specs.declared.plan.Deed.{Deed}
use Rattle.day.specs.declared.plan.Deed.TheVariants as deed

-- the slip that an answer tells, where the call names the number n
abbrev pub slip_told : ℕ → ℕ → Answer → Option Issued
slip_told named n (answer.Drawn d) = None
slip_told named n (answer.Issued i) = cond (named == n) (Some i) None
slip_told named n answer.Voided = None
slip_told named n (answer.Taken t) = None
slip_told named n (answer.Spent p) = None
slip_told named n answer.NotInHand = None
slip_told named n (answer.Refused e) = None

-- the slip that a line issues for the number n
abbrev pub slip_on : ℕ → Line → Option Issued
slip_on n l = slip_told (number_named l.call) n l.answer

-- the first of two, where there is one
abbrev pub or_else : Option Issued → Option Issued → Option Issued
or_else None other = other
or_else (Some i) other = Some i

-- the slip that a journal issues for the number n
abbrev pub slip_in : ℕ → List Line → Option Issued
slip_in n [] = None
slip_in n (l ∷ ls) = or_else (slip_on n l) (slip_in n ls)

-- the digits of a slip
abbrev pub digits_of : Issued → List ℕ
digits_of i = take i.length i.slip

-- the next higher digit, as text, and 0 after 9
abbrev pub raised : ℕ → ℕ
raised byte = cond (nat_lt byte 57) (byte + 1) 48

-- text with the digit at a place taken for the next higher one
abbrev pub misread : ℕ → List ℕ → List ℕ
misread place text = cond (nat_lt place (length text)) (slice_set text place (raised (slice_index text place))) text

-- what is asked of till and meter
pub data Asked : Type 0 where
  drawing : Asked
  issuing : Order → Asked
  voiding : ℕ → Asked
  entering : List ℕ → Asked
  spending : ℕ → Asked

abbrev pub asked_by : Call → Asked
asked_by call.Draw = drawing
asked_by (call.Issue o) = issuing o
asked_by (call.Void v) = voiding v.number
asked_by (call.Enter e) = entering (vec_items e.text)
asked_by (call.Spend u) = spending u.amount

-- what a call asks, or none
abbrev pub asks : Option Call → Option Asked
asks None = None
asks (Some c) = Some (asked_by c)

-- an order, with prices or without
abbrev pub ordered : ℕ → ℕ → ℕ → ℕ → Option PriceList → Asked
ordered number subclass config amt prices = issuing (record { number = number; sale = record { subclass = subclass; config = config; amt = amt; prices = prices } })

-- text to be entered, where there is a slip to read it from
abbrev pub keyed : (List ℕ → List ℕ) → Option Issued → Option Asked
keyed read None = None
keyed read (Some i) = Some (entering (read (digits_of i)))

-- what a deed wants asked after a journal: a slip is keyed in as it was issued there, or misread; none where there is none
abbrev pub wanted : Deed → List Line → Option Asked
wanted deed.Draw lines = Some drawing
wanted (deed.Sell number subclass config amt) lines = Some (ordered number subclass config amt None)
wanted (deed.SellRates number config amt prices) lines = Some (ordered number 10 config amt (Some prices))
wanted (deed.Void number) lines = Some (voiding number)
wanted (deed.Key number) lines = keyed (λ text. text) (slip_in number lines)
wanted (deed.Misread number place) lines = keyed (misread place) (slip_in number lines)
wanted (deed.Spend amount) lines = Some (spending amount)
