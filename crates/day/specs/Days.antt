-- A day: DayLedger, Kept, the law of its ledger; Noted, what a deed leaves in the journal; AllNoted; closing_of, the end of a day.
use Rattle.std.specs.Prelude.{◌≡◌, ℕ, List, [], ◌∷◌, ◌++◌, length, Some, None, vec_items, Option}
use Rattle.cipher.specs.Clearing.{as_is}
use Rattle.cipher.specs.declared.clear.Clear.{Clear}
use Rattle.authenticator.specs.Sum.{byte_sum}
use Rattle.authenticator.specs.declared.byte_sum.ByteSum.{ByteSum}
use Rattle.store.specs.Plain.{plain_kept, plain_writes}
use Rattle.store.specs.declared.plain.PlainStore.{PlainStore}
use Rattle.journal.specs.Standings.{NewWorld}
use Rattle.journal.specs.Noted.{Line}
use Rattle.till_ledger.specs.Ledgers.{journal_of, start_of, Lawful}
use Rattle.till_ledger.specs.declared.ledger.Ledger.{Ledger}
use Rattle.worked.specs.Bench.{bench_settings}
use Rattle.day.specs.declared.sums.Closing.{Closing}
use Rattle.day.specs.declared.plan.Deed.{Deed}
use Rattle.day.specs.Deeds.{Asked, asked_by, wanted}
use Rattle.day.specs.Balances.{balance_of, agreeing}

abbrev pub DayLedger : Type 0
DayLedger = Ledger PlainStore Clear ByteSum

-- the day's ledger: till and meter have the bench's settings and were new when it was opened, with no credit; it
-- keeps the law
pub record Kept (l : DayLedger) : Type 0 where
  pub till : l.till.sealer.settings ≡ bench_settings
  pub meter : l.meter.parts.sealer.settings ≡ bench_settings
  pub fresh : NewWorld (start_of l)
  pub opening : (start_of l).kept.credit ≡ 0
  pub lawful : Lawful plain_kept plain_writes as_is as_is byte_sum l

-- one line was noted, of a call that asks this
pub record OneLine (asked : Asked) (before after : List Line) : Type 0 where
  pub line : Line
  pub noted : after ≡ before ++ line ∷ []
  pub asks : asked_by line.call ≡ asked

-- what is wanted was asked and noted; nothing is noted where nothing is wanted
abbrev pub Noted : Option Asked → List Line → List Line → Type 0
Noted None before after = after ≡ before
Noted (Some asked) before after = OneLine asked before after

-- the same of deeds one after the other, each by the journal before it
abbrev pub AllNoted : List Deed → List Line → List Line → Type 0
AllNoted [] before after = after ≡ before
AllNoted (d ∷ ds) before after = (next : List Line) × Noted (wanted d before) before next × AllNoted ds next after

-- where a day ends that opened with this credit: the credit of the store, the balance of the journal, the till's counts, how
-- many numbers are in hand, and whether all this agrees
abbrev pub closing_of : ℕ → DayLedger → Closing
closing_of opened l = record {
  opened = opened;
  credit = (plain_kept l.meter.parts.store).credit;
  balance = balance_of (journal_of l);
  counts = l.till.counts;
  in_hand = length (vec_items l.hand);
  agrees = agreeing opened (plain_kept l.meter.parts.store).credit l.till.counts (length (vec_items l.hand)) (balance_of (journal_of l));
}
