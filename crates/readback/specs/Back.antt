-- That a meter reads what a till printed: amount_sold, prices_sold, what was sold; Current, a slip's index at a meter; open_rules, the
-- rules that are still to be decided; the laws SlipsReadBack, of meters, SlipsReadBackAnywhere, of any standing, and SlipDigits.
use Rattle.std.specs.Prelude.{◌≡◌, ℕ, ◌+◌, true, not, ◌⊎◌, List, [], ◌∷◌, take, Some, None, Ok, Option, nat_le, nat_lt}
use Rattle.refusal.specs.Checks.{Rule, rule, checked, AllKept, FirstBroken}
use Rattle.refusal.specs.declared.Refusal.{Refusal}
use Rattle.refusal.specs.declared.Refusal.TheVariants.{AlreadyCounted, AboveCeiling, NoWrites}
use Rattle.token.specs.declared.subclass.SubClass.TheVariants.{Clear}
use Rattle.token.specs.declared.tariff.Tariff.{Tariff}
use Rattle.token.specs.SubClasses.{sub_class_named}
use Rattle.window.specs.Recovery.{in_window}
use Rattle.record.specs.declared.Record.{Record}
use Rattle.record.specs.Changes.{taken}
use Rattle.sealing.specs.Suites.{Suite, Sound, amount_of}
use Rattle.sealing.specs.declared.settings.Settings.{Settings}
use Rattle.entry.specs.Reading.{slip_read, amount_read, tariff_brought}
use Rattle.entry.specs.Rules.{Standing, standing, number_in, entry_rules}
use Rattle.entry.specs.Judging.{judged}
use Rattle.sale.specs.declared.orders.PriceList.{PriceList}
use Rattle.sale.specs.declared.orders.Sale.{Sale}
use Rattle.sale.specs.Sales.{tariff_named, sale_rules}
use Rattle.sale.specs.Slips.{slip_text, slip_length, slip_for}

-- the amount of a sale in minor units: its AMT times its multiplier
abbrev pub amount_sold : Settings → Sale → ℕ
amount_sold s sale = amount_of s sale.config sale.amt

-- the prices that were sold, if there are any
abbrev pub tariff_listed : Option PriceList → Option Tariff
tariff_listed None = None
tariff_listed (Some p) = tariff_named p

abbrev pub prices_sold : Sale → Option Tariff
prices_sold sale = tariff_listed sale.prices

-- The index of a slip, which was printed when the till kept one index, is current at a meter that keeps another: always for a slip
-- in clear, and else where the two are the same.
abbrev pub Current : Sale → ℕ → ℕ → Type 0
Current sale printed kept = (sub_class_named sale.subclass ≡ Clear) ⊎ (kept ≡ printed)

-- what is left to decide of such an entry, in the order of the numbers: the mark, the ceiling, a write
abbrev pub open_rules : Settings → Standing → ℕ → ℕ → List Rule
open_rules s m number amount =
    rule AlreadyCounted (not (m.counted number))
    ∷ rule AboveCeiling (nat_le (m.credit + amount) s.ceiling)
    ∷ rule NoWrites (nat_lt 0 m.writes)
    ∷ []

-- An issued slip whose number is in the window and whose index is current is judged at a meter by three rules alone, whatever the
-- marks, the credit and the writes: it is taken for the number, the amount and the prices that were sold, unless the number was
-- counted, the ceiling is passed or no write is left, and then it is refused for the first of these.
abbrev pub SlipsReadBack : Type 0
SlipsReadBack =
    (s : Suite) → Sound s →
    (number index : ℕ) (sale : Sale) → AllKept (sale_rules s.settings index sale) →
    (r : Record) (writes : ℕ) → in_window r.window.highest number ≡ true → Current sale index r.index →
    judged s r writes (slip_text s number index sale)
    ≡ checked (open_rules s.settings (standing r writes) number (amount_sold s.settings sale))
    (Ok (record {
      number = number;
      amount = amount_sold s.settings sale;
      next = taken r number (amount_sold s.settings sale) (prices_sold sale);
    }))

-- what a text says at a standing: this number, and the SubClass, the amount and the prices of a sale; and that only the open rules
-- decide on it
pub record Reads (s : Suite) (m : Standing) (text : List ℕ) (number : ℕ) (sale : Sale) : Type 0 where
  pub for_number : number_in m (slip_read s text) ≡ number
  pub subclass : (slip_read s text).subclass ≡ sub_class_named sale.subclass
  pub amount : amount_read s text ≡ amount_sold s.settings sale
  pub prices : tariff_brought (slip_read s text) ≡ prices_sold sale
  pub kept : AllKept (open_rules s.settings m number (amount_sold s.settings sale)) → AllKept (entry_rules s m text)
  pub broken : (e : Refusal) → FirstBroken (entry_rules s m text) e → FirstBroken (open_rules s.settings m number (amount_sold s.settings sale)) e

-- The same at any standing, be it that of a record or not.
abbrev pub SlipsReadBackAnywhere : Type 0
SlipsReadBackAnywhere =
    (s : Suite) → Sound s →
    (number index : ℕ) (sale : Sale) → AllKept (sale_rules s.settings index sale) →
    (m : Standing) → in_window m.highest number ≡ true → Current sale index m.index →
    Reads s m (slip_text s number index sale) number sale

-- The digits are the bytes of the slip up to its length.
abbrev pub SlipDigits : Type 0
SlipDigits =
    (s : Suite) → Sound s →
    (number index : ℕ) (sale : Sale) → AllKept (sale_rules s.settings index sale) →
    take (slip_length sale) (slip_for s number index sale) ≡ slip_text s number index sale
