-- What an entry of any bytes comes to: worth_of, what it does where it is taken; judged, that or the refusal.
use Rattle.std.specs.Prelude.{ℕ, List, Ok, Result}
use Rattle.refusal.specs.Checks.{checked}
use Rattle.refusal.specs.declared.Refusal.{Refusal}
use Rattle.record.specs.declared.Record.{Record}
use Rattle.record.specs.Changes.{taken}
use Rattle.sealing.specs.Suites.{Suite}
use Rattle.sealing.specs.declared.opening.Opened.{Opened}
use Rattle.sealing.specs.declared.settings.Settings.{Settings}
use Rattle.entry.specs.declared.worth.Worth.{Worth}
use Rattle.entry.specs.Reading.{slip_read, amount_in, tariff_brought}
use Rattle.entry.specs.Rules.{standing, number_in, entry_rules}

-- a slip that is taken counts its number, adds its amount, and brings its tariff, if it has one
abbrev pub worth_of : Settings → Record → ℕ → Opened → Worth
worth_of s r number slip = record {
  number = number;
  amount = amount_in s slip;
  next = taken r number (amount_in s slip) (tariff_brought slip);
}

-- the number, the amount and the next record, where every rule is kept; else the refusal for the first that is broken
unfoldable pub judged : Suite → Record → ℕ → List ℕ → Result Worth Refusal
judged s r writes text =
    checked (entry_rules s (standing r writes) text)
    (Ok (worth_of s.settings r (number_in (standing r writes) (slip_read s text)) (slip_read s text)))
