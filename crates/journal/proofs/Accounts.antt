-- The law in parts that grow line by line: Account, the meter's; TillAccount; Core, both with the answers.
use Rattle.std.proofs.Common.{◌≡◌, ℕ, ◌+◌, ◌≤◌, ltb, List, length, None}
use Rattle.window.specs.Recovery.{lowest}
use Rattle.window.specs.Marks.{marked}
use Rattle.record.specs.declared.Record.{Record}
use Rattle.sealing.specs.Suites.{Suite}
use Rattle.till.specs.declared.counts.Counts.{Counts}
use Rattle.till.specs.declared.drawn.DrawnNumber.{DrawnNumber}
use Rattle.journal.specs.Noted.{Line}
use Rattle.journal.specs.Hands.{held}
use Rattle.meter.specs.Journals.{total, writes_after, AtEach}
use Rattle.journal.specs.Lines.{effect, times, drawn_times, issued_times, voided_times, draws, issues, voids, rates_issued, highest_in, index_in, tariff_after}
use Rattle.journal.specs.Standings.{World}
use Rattle.journal.specs.Law.{Right, one_up_to}

-- the record and the writes left are those of the journal
pub record Account (s : Suite) (opening writes : ℕ) (lines : List Line) (closing : Record) (left : ℕ) : Type 0 where
  pub credit : closing.credit + total (λ l. (effect s l).subtracted) lines ≡ opening + total (λ l. (effect s l).added) lines
  pub marks : (n : ℕ) → lowest closing.window.highest ≤ n → marked closing.window n ≡ ltb 0 (times s n lines)
  pub once : (n : ℕ) → times s n lines ≤ 1
  pub highest : closing.window.highest ≡ highest_in s lines
  pub index : closing.index ≡ index_in s lines
  pub tariff : closing.tariff ≡ tariff_after s None lines
  pub store : left ≡ writes_after writes lines

-- the till's counts, its index and the numbers in hand are those of the journal; the numbers drawn have 32 bits, the index 16
pub record TillAccount (lines : List Line) (counts : Counts) (index : ℕ) (hand : List DrawnNumber) : Type 0 where
  pub drawn : (n : ℕ) → drawn_times n lines ≡ one_up_to (draws lines) n
  pub each : (n : ℕ) → issued_times n lines + voided_times n lines + held n hand ≡ drawn_times n lines
  pub drawn_count : counts.draws ≡ draws lines
  pub issued_count : counts.issues ≡ issues lines
  pub voided_count : counts.voids ≡ voids lines
  pub balance : draws lines ≡ issues lines + voids lines + length hand
  pub till_index : index ≡ rates_issued lines
  pub fits : draws lines ≤ 4294967295
  pub index_fits : index ≤ 65535

pub record Core (s : Suite) (start : World) (lines : List Line) (end : World) : Type 0 where
  pub meter : Account s start.kept.credit start.writes lines end.kept end.writes
  pub till : TillAccount lines end.counts end.index end.hand
  pub right : AtEach (Right s start.kept.credit start.writes) lines
