-- A call at the meter leaves till and hand as they were: still, entered, spent.
use Rattle.std.proofs.Common.{◌≡◌, ℕ, List, vec_items, refl}
use Rattle.record.specs.declared.Record.{Record}
use Rattle.sealing.specs.Suites.{Suite}
use Rattle.entry.specs.Judging.{judged}
use Rattle.meter.specs.Answering.{taking, spend_judged, spending}
use Rattle.meter.specs.Writing.{next_of, Moved}
use Rattle.meter.specs.declared.calls.Entry.{Entry}
use Rattle.meter.specs.declared.calls.Usage.{Usage}
use Rattle.till.specs.declared.drawn.DrawnNumber.{DrawnNumber}
use Rattle.till.specs.declared.selling.Till.{Till}
use Rattle.journal.specs.declared.calls.Call.TheVariants.{Enter, Spend}
use Rattle.journal.specs.declared.answers.Answer.{Answer}
use Rattle.journal.specs.Steps.{entry_answer, spend_answer, SameDesk, Performed}
use Rattle.till_ledger.specs.Ledgers.{desk_world}

module _ {C A : Type 0} (t s : Suite) (till : Till C A) (hand : List DrawnNumber) (kept new : Record) (writes left : ℕ) where
  still : SameDesk (desk_world kept writes till hand) (desk_world new left till hand)
  still = record { counts = refl; index = refl; hand = refl }

  pub entered : (e : Entry) (x : Answer) → x ≡ entry_answer (taking (judged s kept writes (vec_items e.text))) →
      Moved (next_of (judged s kept writes (vec_items e.text))) kept writes new left →
      Performed t s (Enter e) x (desk_world kept writes till hand) (desk_world new left till hand)
  entered e x p moved = (p, still, moved)

  pub spent : (u : Usage) (x : Answer) → x ≡ spend_answer (spending u.amount (spend_judged kept writes u.amount)) →
      Moved (spend_judged kept writes u.amount) kept writes new left →
      Performed t s (Spend u) x (desk_world kept writes till hand) (desk_world new left till hand)
  spent u x p moved = (p, still, moved)
