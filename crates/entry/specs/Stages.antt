-- The checks of an entry in the stages in which they are made: tariff_by, tariff_from, within, reckoned, weighed, judged_by. That the
-- stages come to the same as the rules in their order is proved; the meter's promises read the rules.
use Rattle.std.specs.Prelude.{ℕ, ◌+◌, cond, not, List, Some, None, Ok, Option, Result, nat_le, nat_lt}
use Rattle.refusal.specs.Checks.{provided, and_then, found}
use Rattle.refusal.specs.declared.Refusal.{Refusal}
use Rattle.refusal.specs.declared.Refusal.TheVariants.{IndexFull, OutsideWindow, WrongTag, AlreadyCounted, ReservedConfig, RatePrices, AboveCeiling}
use Rattle.token.specs.declared.subclass.SubClass.{SubClass}
use Rattle.token.specs.declared.subclass.SubClass.TheVariants.{Clear, Enciphered, Rates}
use Rattle.token.specs.declared.tariff.Tariff.{Tariff}
use Rattle.token.specs.RatePrices.{tariff_in}
use Rattle.decimal.specs.Groups.{blocks_of}
use Rattle.window.specs.Recovery.{recovered}
use Rattle.window.specs.Marks.{marked}
use Rattle.record.specs.declared.Record.{Record}
use Rattle.record.specs.Changes.{taken}
use Rattle.sealing.specs.Suites.{Suite, multiplier_of}
use Rattle.sealing.specs.Opening.{parts_of, opened}
use Rattle.sealing.specs.declared.opening.Opened.{Opened}
use Rattle.sealing.specs.declared.settings.Settings.{Settings}
use Rattle.entry.specs.declared.worth.Worth.{Worth}
use Rattle.entry.specs.Reading.{amount_in}
use Rattle.entry.specs.Rules.{raisable, authentic}

-- the tariff that a SubClass brings, out of what its data parts hold
abbrev pub tariff_by : SubClass → Option Tariff → Result (Option Tariff) Refusal
tariff_by Clear t = Ok None
tariff_by Enciphered t = Ok None
tariff_by Rates t = and_then (found t RatePrices) (λ new. Ok (Some new))

unfoldable pub tariff_from : Opened → Result (Option Tariff) Refusal
tariff_from slip = tariff_by slip.subclass (tariff_in (parts_of slip))

-- the record with a slip counted, where credit and amount stay within the ceiling
abbrev pub within : Settings → Record → Opened → ℕ → Option Tariff → Option Record
within s r slip number tariff =
    cond (nat_le (r.credit + amount_in s slip) s.ceiling) (Some (taken r number (amount_in s slip) tariff)) None

-- from the tag on, for a number
unfoldable pub reckoned : Settings → (List ℕ → List ℕ → List ℕ) → Record → Opened → ℕ → Result Worth Refusal
reckoned s tagged r slip number =
    provided (authentic s tagged r.index slip number) WrongTag
    (provided (not (marked r.window number)) AlreadyCounted
    (provided (nat_lt 0 (multiplier_of s slip.first.config)) ReservedConfig
    (and_then (tariff_from slip) (λ tariff.
    and_then (found (within s r slip number tariff) AboveCeiling) (λ next.
    Ok (record { number = number; amount = amount_in s slip; next = next }))))))

-- from the index on, for a slip in clear
unfoldable pub weighed : Settings → (List ℕ → List ℕ → List ℕ) → Record → Opened → Result Worth Refusal
weighed s tagged r slip =
    provided (raisable slip.subclass r.index) IndexFull
    (and_then (found (recovered r.window.highest slip.first.tstn) OutsideWindow) (λ number.
    reckoned s tagged r slip number))

-- all but the last check, which the store makes
abbrev pub judged_by : Suite → Record → List ℕ → Result Worth Refusal
judged_by s r text =
    and_then (blocks_of text) (λ blocks.
    and_then (opened s.deciphered blocks.items) (λ slip.
    weighed s.settings s.tagged r slip))
