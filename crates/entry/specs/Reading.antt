-- What the digits of an entry say, read without asking whether they keep the rules: sub_class_read, slip_read, amount_in, amount_read,
-- brought_by, tariff_brought.
use Rattle.std.specs.Prelude.{ℕ, List, None, Option}
use Rattle.token.specs.declared.subclass.SubClass.{SubClass}
use Rattle.token.specs.declared.subclass.SubClass.TheVariants.{Clear, Enciphered, Rates}
use Rattle.token.specs.declared.tariff.Tariff.{Tariff}
use Rattle.token.specs.SubClasses.{sub_class_named}
use Rattle.token.specs.Shapes.{sub_class_in}
use Rattle.token.specs.RatePrices.{tariff_in}
use Rattle.decimal.specs.Groups.{blocks_in}
use Rattle.sealing.specs.Suites.{Suite, amount_of}
use Rattle.sealing.specs.Opening.{through_low, opened_as, parts_of}
use Rattle.sealing.specs.declared.opening.Opened.{Opened}
use Rattle.sealing.specs.declared.settings.Settings.{Settings}

-- the SubClass that the first block names
abbrev pub sub_class_read : List ℕ → SubClass
sub_class_read text = sub_class_named (sub_class_in (blocks_in text))

-- the slip, deciphered
unfoldable pub slip_read : Suite → List ℕ → Opened
slip_read s text = opened_as (sub_class_read text) (through_low s.deciphered (sub_class_read text) (blocks_in text))

-- the amount of a slip in minor units: its AMT times its multiplier
abbrev pub amount_in : Settings → Opened → ℕ
amount_in s slip = amount_of s slip.first.config slip.first.amt

abbrev pub amount_read : Suite → List ℕ → ℕ
amount_read s text = amount_in s.settings (slip_read s text)

-- the tariff that a slip brings: none but in SubClass 10
abbrev pub brought_by : SubClass → Option Tariff → Option Tariff
brought_by Clear t = None
brought_by Enciphered t = None
brought_by Rates t = t

abbrev pub tariff_brought : Opened → Option Tariff
tariff_brought slip = brought_by slip.subclass (tariff_in (parts_of slip))
