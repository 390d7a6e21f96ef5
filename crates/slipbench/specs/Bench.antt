-- The bench: asked_by, what a call asks; BenchLedger, Kept, the law of its ledger; OneLine,
-- Replied, what the reply to a line is.
use Rattle.std.specs.Prelude.{◌≡◌, ℕ, List, [], ◌∷◌, ◌++◌, Some, None, vec_items, codes, Option}
use Rattle.cipher.specs.Clearing.{as_is}
use Rattle.cipher.specs.declared.clear.Clear.{Clear}
use Rattle.authenticator.specs.Sum.{byte_sum}
use Rattle.authenticator.specs.declared.byte_sum.ByteSum.{ByteSum}
use Rattle.record.specs.Changes.{opening as blank}
use Rattle.store.specs.Plain.{plain_kept, plain_writes}
use Rattle.store.specs.declared.plain.PlainStore.{PlainStore}
use Rattle.meter.specs.Meters.{suite_at}
use Rattle.ledger.specs.Ledgers.{Lawful}
use Rattle.ledger.specs.declared.ledger.Ledger.{Ledger}
use Rattle.ledger.specs.declared.calls.Call.{Call}
use Rattle.ledger.specs.declared.calls.Call.TheVariants.{Enter, Spend}
use Rattle.ledger.specs.Noted.{Line}
use Rattle.worked.specs.Bench.{bench_settings}
use Rattle.lines.specs.Answering.{answer_text}
use Rattle.lines.specs.Asking.{Asked, entry, spend, unknown}

-- what a call asks, or none
abbrev pub asked_by : Option Call → Asked
asked_by None = unknown
asked_by (Some (Enter e)) = entry (vec_items e.text)
asked_by (Some (Spend u)) = spend u.amount

abbrev pub BenchLedger : Type 0
BenchLedger = Ledger PlainStore Clear ByteSum

-- the bench's ledger: a meter with the bench's settings, opened with a blank record, that keeps the law up to the record and the
-- writes left that its store means now
pub record Kept (l : BenchLedger) : Type 0 where
  pub settings : l.meter.parts.sealer.settings ≡ bench_settings
  pub opening : l.opening.kept ≡ blank 0
  pub writes : l.opening.writes ≡ 4294967295
  pub lawful : Lawful (suite_at as_is as_is byte_sum l.meter) l (plain_kept l.meter.parts.store) (plain_writes l.meter.parts.store)

-- one line was noted, of a call that asks this, and the reply is the text of its answer
pub record OneLine (asked : Asked) (before after : List Line) (credit : ℕ) (text : List ℕ) : Type 0 where
  pub line : Line
  pub noted : after ≡ before ++ line ∷ []
  pub asks : asked_by (Some line.call) ≡ asked
  pub says : text ≡ answer_text line.answer credit

-- the reply to what a line asks: "?" and nothing noted where it asks nothing; else the answer to one call that was noted
abbrev pub Replied : Asked → List Line → List Line → ℕ → List ℕ → Type 0
Replied (entry bytes) before after credit text = OneLine (entry bytes) before after credit text
Replied (spend amount) before after credit text = OneLine (spend amount) before after credit text
Replied unknown before after credit text = (after ≡ before) × (text ≡ codes "?")
