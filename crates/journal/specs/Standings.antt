-- Where meter and till stand: World, both of them, and NewWorld; Desk, what the rules ask of a till; desk_of, that of a world;
-- standing_after and desk_after, by a journal alone.
use Rattle.std.specs.Prelude.{◌≡◌, ℕ, ◌+◌, Bool, List, [], nat_lt}
use Rattle.record.specs.declared.Record.{Record}
use Rattle.record.specs.Changes.{NewRecord}
use Rattle.sealing.specs.Suites.{Suite}
use Rattle.entry.specs.Rules.{Standing}
use Rattle.till.specs.Counting.{no_counts}
use Rattle.till.specs.declared.counts.Counts.{Counts}
use Rattle.till.specs.declared.drawn.DrawnNumber.{DrawnNumber}
use Rattle.journal.specs.Noted.{Line}
use Rattle.journal.specs.Hands.{is_in_hand}
use Rattle.meter.specs.Journals.{writes_after}
use Rattle.journal.specs.Lines.{times, drawn_times, issued_times, voided_times, draws, rates_issued, highest_in, index_in, credit_after}

-- the record that the meter's store means, and the writes that it has left; the till's counts and its function index; and the
-- numbers in hand
pub record World : Type 0 where
  pub kept : Record
  pub writes : ℕ
  pub counts : Counts
  pub index : ℕ
  pub hand : List DrawnNumber

-- a new meter, whose record is blank but for the credit, and a new till, whose counts are 0; nothing is in hand
pub record NewWorld (w : World) : Type 0 where
  pub meter : NewRecord w.kept
  pub counts : w.counts ≡ no_counts
  pub index : w.index ≡ 0
  pub hand : w.hand ≡ []

-- what the rules ask of a till: how many numbers were drawn, its function index, and which numbers are in hand
pub record Desk : Type 0 where
  pub drawn : ℕ
  pub index : ℕ
  pub holds : ℕ → Bool

abbrev pub desk_of : World → Desk
desk_of w = record { drawn = w.counts.draws; index = w.index; holds = λ n. is_in_hand n w.hand }

-- what the rules ask of a new meter after a journal, by the journal alone
abbrev pub standing_after : Suite → ℕ → ℕ → List Line → Standing
standing_after s opening writes lines = record {
  credit = credit_after s opening lines;
  highest = highest_in s lines;
  counted = λ n. nat_lt 0 (times s n lines);
  index = index_in s lines;
  writes = writes_after writes lines;
}

-- what the rules ask of a new till after a journal, by the journal alone: a number is in hand that was drawn, and neither issued
-- nor voided
abbrev pub desk_after : List Line → Desk
desk_after lines = record {
  drawn = draws lines;
  index = rates_issued lines;
  holds = λ n. nat_lt (issued_times n lines + voided_times n lines) (drawn_times n lines);
}
