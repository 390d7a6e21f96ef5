-- The rules of an entry: Standing, what they ask of the meter; standing, that of a record and writes left; raisable, number_in,
-- authentic, priced, what single rules ask; digit_rules, shape_rules, number_rules, slip_rules, entry_rules, the rules in their order.
use Rattle.std.specs.Prelude.{ℕ, ◌+◌, Bool, true, not, List, [], ◌∷◌, ◌++◌, is_some, Option, ◌==◌, nat_le, nat_lt}
use Rattle.refusal.specs.Checks.{Rule, rule}
use Rattle.refusal.specs.declared.Refusal.TheVariants.{Length, NotADigit, CheckDigit, NoBlock, OtherSubClass, WrongBlocks, IndexFull, OutsideWindow, WrongTag, AlreadyCounted, ReservedConfig, RatePrices, AboveCeiling, NoWrites}
use Rattle.token.specs.declared.subclass.SubClass.{SubClass}
use Rattle.token.specs.declared.subclass.SubClass.TheVariants.{Clear, Enciphered, Rates}
use Rattle.token.specs.declared.tariff.Tariff.{Tariff}
use Rattle.token.specs.SubClasses.{served}
use Rattle.token.specs.Shapes.{sub_class_in, fitting}
use Rattle.token.specs.RatePrices.{tariff_in}
use Rattle.decimal.specs.Groups.{grouped, all_digits, all_sealed, all_blocks, blocks_in}
use Rattle.window.specs.Recovery.{number_for, in_reach}
use Rattle.window.specs.Marks.{marked}
use Rattle.record.specs.declared.Record.{Record}
use Rattle.sealing.specs.Suites.{Suite, multiplier_of}
use Rattle.sealing.specs.Messages.{index_for, tag_field}
use Rattle.sealing.specs.Opening.{further_of, parts_of}
use Rattle.sealing.specs.declared.opening.Opened.{Opened}
use Rattle.sealing.specs.declared.settings.Settings.{Settings}
use Rattle.entry.specs.Reading.{slip_read, amount_in}

-- what the rules ask of a meter: its credit, the highest number counted, which numbers are counted, its function index, and the
-- writes that its store has left
pub record Standing : Type 0 where
  pub credit : ℕ
  pub highest : ℕ
  pub counted : ℕ → Bool
  pub index : ℕ
  pub writes : ℕ

abbrev pub standing : Record → ℕ → Standing
standing r writes = record {
  credit = r.credit;
  highest = r.window.highest;
  counted = marked r.window;
  index = r.index;
  writes = writes;
}

-- the index can be raised by one more
abbrev pub raisable : SubClass → ℕ → Bool
raisable Clear index = true
raisable Enciphered index = true
raisable Rates index = nat_lt index 65535

-- the number of the window that a slip stands for
abbrev pub number_in : Standing → Opened → ℕ
number_in m slip = number_for m.highest slip.first.tstn

-- the tag field is the one of a number, at an index
unfoldable pub authentic : Settings → (List ℕ → List ℕ → List ℕ) → ℕ → Opened → ℕ → Bool
authentic s tagged index slip number =
    (slip.first.tmac == tag_field s tagged number (index_for slip.subclass index) slip.first (further_of slip))

-- rate prices, where the SubClass has them, keep their rules
abbrev pub priced : SubClass → Option Tariff → Bool
priced Clear t = true
priced Enciphered t = true
priced Rates t = is_some t

-- digits: their count, what they are, check digits, blocks
abbrev pub digit_rules : List ℕ → List Rule
digit_rules text = rule Length (grouped text) ∷ rule NotADigit (all_digits text) ∷ rule CheckDigit (all_sealed text) ∷ rule NoBlock (all_blocks text) ∷ []

-- blocks: their SubClass, their count and sequence
abbrev pub shape_rules : List ℕ → List Rule
shape_rules blocks = rule OtherSubClass (served (sub_class_in blocks)) ∷ rule WrongBlocks (fitting blocks) ∷ []

-- from the tag on, for a number: tag, mark, multiplier, rate prices, ceiling
abbrev pub number_rules : Settings → (List ℕ → List ℕ → List ℕ) → Standing → Opened → ℕ → List Rule
number_rules s tagged m slip number =
    rule WrongTag (authentic s tagged m.index slip number)
    ∷ rule AlreadyCounted (not (m.counted number))
    ∷ rule ReservedConfig (nat_lt 0 (multiplier_of s slip.first.config))
    ∷ rule RatePrices (priced slip.subclass (tariff_in (parts_of slip)))
    ∷ rule AboveCeiling (nat_le (m.credit + amount_in s slip) s.ceiling)
    ∷ []

-- a slip at a meter: index, window, and what the number that it stands for asks
abbrev pub slip_rules : Settings → (List ℕ → List ℕ → List ℕ) → Standing → Opened → List Rule
slip_rules s tagged m slip =
    rule IndexFull (raisable slip.subclass m.index)
    ∷ rule OutsideWindow (in_reach m.highest slip.first.tstn)
    ∷ number_rules s tagged m slip (number_in m slip)

-- the rules of an entry, in the order of their numbers; the last asks for a write
abbrev pub entry_rules : Suite → Standing → List ℕ → List Rule
entry_rules s m text =
    digit_rules text ++ (shape_rules (blocks_in text)
    ++ (slip_rules s.settings s.tagged m (slip_read s text) ++ (rule NoWrites (nat_lt 0 m.writes) ∷ [])))
