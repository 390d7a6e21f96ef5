-- What one call does to till and meter, wherever they stand: entry_answer, spend_answer, draw_answer, sold, issue_answer, what is
-- answered; SameMeter, SameDesk, Drew, Sold, Cancelled, what changes; Performed; AllPerformed, the same of a journal.
use Rattle.std.specs.Prelude.{◌≡◌, ℕ, ◌+◌, min, Bool, true, false, cond, List, [], ◌∷◌, Ok, Err, vec_items, Result}
use Rattle.refusal.specs.Checks.{checked}
use Rattle.refusal.specs.declared.Refusal.{Refusal}
use Rattle.sealing.specs.Suites.{Suite}
use Rattle.entry.specs.Judging.{judged}
use Rattle.meter.specs.Answering.{taking, spend_judged, spending}
use Rattle.meter.specs.declared.answers.Taken.{Taken}
use Rattle.meter.specs.declared.answers.Spent.{Spent}
use Rattle.sale.specs.Sales.{sale_rules}
use Rattle.sale.specs.Slips.{slip_length, slip_for}
use Rattle.till.specs.Counting.{drawn, after_draw, after_issue, after_void}
use Rattle.journal.specs.declared.answers.Answer.{Answer}
use Rattle.journal.specs.declared.answers.Answer.TheVariants as answer
use Rattle.journal.specs.declared.answers.Issued.{Issued}
use Rattle.journal.specs.declared.calls.Call.{Call}
use Rattle.journal.specs.declared.calls.Call.TheVariants.{Draw, Issue, Void, Enter, Spend}
use Rattle.journal.specs.Noted.{Line}
use Rattle.journal.specs.declared.calls.Order.{Order}
use Rattle.journal.specs.Hands.{is_in_hand, Gains, SameHand}
use Rattle.meter.specs.Writing.{next_of, Moved}
use Rattle.journal.specs.Lines.{rates_in}
use Rattle.journal.specs.Standings.{World}

-- what a result is answered as
abbrev pub entry_answer : Result Taken Refusal → Answer
entry_answer (Ok t) = answer.Taken t
entry_answer (Err e) = answer.Refused e

abbrev pub spend_answer : Result Spent Refusal → Answer
spend_answer (Ok p) = answer.Spent p
spend_answer (Err e) = answer.Refused e

abbrev pub draw_answer : Result ℕ Refusal → Answer
draw_answer (Ok n) = answer.Drawn (record { number = n })
draw_answer (Err e) = answer.Refused e

abbrev pub issue_answer : Result Issued Refusal → Answer
issue_answer (Ok i) = answer.Issued i
issue_answer (Err e) = answer.Refused e

-- what an issue comes to at a till with an index: the slip, or the refusal for the first rule that is broken
unfoldable pub sold : Suite → ℕ → Order → Result Issued Refusal
sold t index o =
    checked (sale_rules t.settings index o.sale) (Ok (record { slip = slip_for t o.number index o.sale; length = slip_length o.sale }))

-- the meter is as it was
pub record SameMeter (w v : World) : Type 0 where
  pub kept : v.kept ≡ w.kept
  pub writes : v.writes ≡ w.writes

-- till and hand are as they were
pub record SameDesk (w v : World) : Type 0 where
  pub counts : v.counts ≡ w.counts
  pub index : v.index ≡ w.index
  pub hand : v.hand ≡ w.hand

-- a draw: the number comes to hand, or nothing changes
abbrev pub Drew : Result ℕ Refusal → World → World → Type 0
Drew (Ok n) w v = (v.counts ≡ after_draw w.counts) × (v.index ≡ w.index) × Gains n w.hand v.hand
Drew (Err e) w v = SameDesk w v

-- an issue of a number that is in hand or not: issued, it has left the hand; refused, it is back there
abbrev pub Sold : Bool → Result Issued Refusal → Order → World → World → Type 0
Sold false r o w v = SameDesk w v
Sold true (Ok i) o w v = (v.counts ≡ after_issue w.counts) × (v.index ≡ min (w.index + rates_in o.sale) 65535) × Gains o.number v.hand w.hand
Sold true (Err e) o w v = (v.counts ≡ w.counts) × (v.index ≡ w.index) × SameHand w.hand v.hand

-- a void of a number that is in hand or not
abbrev pub Cancelled : Bool → ℕ → World → World → Type 0
Cancelled false n w v = SameDesk w v
Cancelled true n w v = (v.counts ≡ after_void w.counts) × (v.index ≡ w.index) × Gains n v.hand w.hand

-- A call was performed or refused as the rules have it, by a till and a meter of these suites: what was answered, and what it did
-- to each of them.
abbrev pub Performed : Suite → Suite → Call → Answer → World → World → Type 0
Performed t s Draw x w v = (x ≡ draw_answer (drawn w.counts.draws)) × SameMeter w v × Drew (drawn w.counts.draws) w v
Performed t s (Issue o) x w v =
    (x ≡ cond (is_in_hand o.number w.hand) (issue_answer (sold t w.index o)) answer.NotInHand) × SameMeter w v
    × Sold (is_in_hand o.number w.hand) (sold t w.index o) o w v
Performed t s (Void c) x w v =
    (x ≡ cond (is_in_hand c.number w.hand) answer.Voided answer.NotInHand) × SameMeter w v × Cancelled (is_in_hand c.number w.hand) c.number w v
Performed t s (Enter e) x w v =
    (x ≡ entry_answer (taking (judged s w.kept w.writes (vec_items e.text)))) × SameDesk w v
    × Moved (next_of (judged s w.kept w.writes (vec_items e.text))) w.kept w.writes v.kept v.writes
Performed t s (Spend u) x w v =
    (x ≡ spend_answer (spending u.amount (spend_judged w.kept w.writes u.amount))) × SameDesk w v
    × Moved (spend_judged w.kept w.writes u.amount) w.kept w.writes v.kept v.writes

-- all calls of a journal were performed or refused so, one after the other, from one world to another; each line notes the writes
-- that were left after it
abbrev pub AllPerformed : Suite → Suite → World → List Line → World → Type 0
AllPerformed t s w [] v = v ≡ w
AllPerformed t s w (l ∷ ls) v = (next : World) × Performed t s l.call l.answer w next × (l.writes ≡ next.writes) × AllPerformed t s next ls v
