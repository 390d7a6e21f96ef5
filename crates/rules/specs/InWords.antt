-- The rules of an entry in words: Twenties, Closes, Blocked, StandsHere, Tagged, what single rules speak of; Says, what the rule
-- behind each refusal says. What judging an entry means by them: Sets, Takes, Refuses, Verdict; the laws RulesDecide and
-- RulesAtAnyStanding.
use Rattle.std.specs.Prelude.{◌≡◌, ℕ, ◌+◌, ◌*◌, ◌/◌, ◌^◌, ◌<◌, ◌≤◌, false, ◌⊎◌, List, ◌++◌, length, Some, Ok, Err, Result, slice_index}
use Rattle.std.specs.List.{AllByRecursion}
use Rattle.refusal.specs.Checks.{AllKept, FirstBroken}
use Rattle.refusal.specs.Numbers.{number_of}
use Rattle.refusal.specs.declared.Refusal.{Refusal}
use Rattle.refusal.specs.declared.Refusal.TheVariants.{Length, NotADigit, CheckDigit, NoBlock, OtherSubClass, WrongBlocks, IndexFull, OutsideWindow, WrongTag, AlreadyCounted, ReservedConfig, RatePrices, AboveCeiling, NoWrites, SpendAmount, SpendAboveCredit, Settings, Sale, TillIndexFull, NoMoreNumbers, ShortMemory, WriteBehindLength}
use Rattle.decimal.specs.Digits.{values}
use Rattle.decimal.specs.CheckDigits.{product, whole, front}
use Rattle.decimal.specs.Groups.{before, body, number_at, lowest, blocks_in}
use Rattle.token.specs.declared.subclass.SubClass.{SubClass}
use Rattle.token.specs.declared.subclass.SubClass.TheVariants.{Clear, Enciphered, Rates}
use Rattle.token.specs.declared.tariff.Tariff.{Tariff}
use Rattle.token.specs.SubClasses.{code}
use Rattle.token.specs.Shapes.{sub_class_in, Shaped}
use Rattle.token.specs.RatePrices.{Reads}
use Rattle.window.specs.Recovery.{Stands}
use Rattle.record.specs.declared.Record.{Record}
use Rattle.record.specs.Changes.{taken}
use Rattle.sealing.specs.Suites.{Suite, multiplier_of}
use Rattle.sealing.specs.Messages.{index_for, tag_field}
use Rattle.sealing.specs.Opening.{further_of, parts_of}
use Rattle.sealing.specs.declared.opening.Opened.{Opened}
use Rattle.entry.specs.declared.worth.Worth.{Worth}
use Rattle.entry.specs.Reading.{slip_read, amount_read, tariff_brought}
use Rattle.entry.specs.Rules.{Standing, standing, entry_rules}
use Rattle.entry.specs.Judging.{judged}

-- one to four groups of twenty
abbrev pub Twenties : ℕ → Type 0
Twenties n = (n ≡ 20) ⊎ (n ≡ 40) ⊎ (n ≡ 60) ⊎ (n ≡ 80)

-- The last digit of group i, multiplied on the right, brings to 0 the product of the nineteen before it, with the check digit of
-- the group before, if there is one, set in front of them.
abbrev pub Closes : List ℕ → ℕ → Type 0
Closes ds i = product (whole (front (before ds i) ++ body ds i)) (slice_index ds (20 * i + 19)) ≡ 0

-- the number of group i is that of a block below 2^61
abbrev pub Blocked : List ℕ → ℕ → Type 0
Blocked ds i = (block : ℕ) × (block < 2 ^ 61) × (number_at ds i ≡ lowest i + block)

-- n is in the meter's window, and ends in the ten bits of the slip
abbrev pub StandsHere : Standing → Opened → ℕ → Type 0
StandsHere m slip n = Stands m.highest slip.first.tstn n

-- the slip has the tag field of the number n
abbrev pub Tagged : Suite → Standing → Opened → ℕ → Type 0
Tagged s m slip n =
    slip.first.tmac ≡ tag_field s.settings s.tagged n (index_for slip.subclass m.index) slip.first (further_of slip)

-- What the rule says that is broken where an entry is refused so; a refusal that is not for entries says nothing.
abbrev pub Says : Suite → Standing → List ℕ → Refusal → Type 0
-- there are 20, 40, 60 or 80 bytes
Says s m text Length = Twenties (length text)
-- each is a decimal digit
Says s m text NotADigit = AllByRecursion (λ byte. (48 ≤ byte) × (byte ≤ 57)) text
-- each group ends in its check digit
Says s m text CheckDigit = (i : ℕ) → i < length text / 20 → Closes (values text) i
-- each group has a block
Says s m text NoBlock = (i : ℕ) → i < length text / 20 → Blocked (values text) i
-- the first block names a SubClass
Says s m text OtherSubClass = (k : SubClass) × (sub_class_in (blocks_in text) ≡ code k)
-- the blocks are as many as it takes, and each further one names the count of blocks after it
Says s m text WrongBlocks = (k : SubClass) × Shaped (blocks_in text) k
-- the index can be raised, if the slip brings rate prices
Says s m text IndexFull = (slip_read s text).subclass ≡ Rates → m.index < 65535
-- a number of the window ends in the ten bits of the slip
Says s m text OutsideWindow = (n : ℕ) × StandsHere m (slip_read s text) n
-- the tag field is that of the number
Says s m text WrongTag = (n : ℕ) → StandsHere m (slip_read s text) n → Tagged s m (slip_read s text) n
-- the number was not counted before
Says s m text AlreadyCounted = (n : ℕ) → StandsHere m (slip_read s text) n → m.counted n ≡ false
-- the multiplier is not reserved
Says s m text ReservedConfig = 0 < multiplier_of s.settings (slip_read s text).first.config
-- the data parts are those of rate prices, if the slip brings them
Says s m text RatePrices = (slip_read s text).subclass ≡ Rates → (t : Tariff) × Reads (parts_of (slip_read s text)) t
-- credit and amount together do not pass the ceiling
Says s m text AboveCeiling = m.credit + amount_read s text ≤ s.settings.ceiling
-- the store takes one more write
Says s m text NoWrites = 0 < m.writes
Says s m text SpendAmount = Unit {0}
Says s m text SpendAboveCredit = Unit {0}
Says s m text Settings = Unit {0}
Says s m text Sale = Unit {0}
Says s m text TillIndexFull = Unit {0}
Says s m text NoMoreNumbers = Unit {0}
Says s m text ShortMemory = Unit {0}
Says s m text WriteBehindLength = Unit {0}

-- Index and tariff of a record before and after a slip: a slip with rate prices raises the index by one and sets these prices,
-- any other leaves both as they are.
abbrev pub Sets : SubClass → List ℕ → Record → Record → Type 0
Sets Clear ps old new = (new.index ≡ old.index) × (new.tariff ≡ old.tariff)
Sets Enciphered ps old new = (new.index ≡ old.index) × (new.tariff ≡ old.tariff)
Sets Rates ps old new = (new.index ≡ old.index + 1) × ((t : Tariff) × Reads ps t × (new.tariff ≡ Some t))

-- An entry is taken: every rule is kept; its number is the one of the window that it stands for; its amount is that of its
-- digits; and the next record has both, with index and tariff set.
pub record Takes (s : Suite) (r : Record) (writes : ℕ) (text : List ℕ) (w : Worth) : Type 0 where
  pub kept : (e : Refusal) → Says s (standing r writes) text e
  pub stands : StandsHere (standing r writes) (slip_read s text) w.number
  pub amount : w.amount ≡ amount_read s text
  pub next : w.next ≡ taken r w.number w.amount (tariff_brought (slip_read s text))
  pub sets : Sets (slip_read s text).subclass (parts_of (slip_read s text)) r w.next

-- An entry is refused: for a rule from 1 to 14 that is broken, and every rule with a smaller number is kept.
pub record Refuses (s : Suite) (m : Standing) (text : List ℕ) (e : Refusal) : Type 0 where
  pub from : 1 ≤ number_of e
  pub upto : number_of e ≤ 14
  pub earlier : (f : Refusal) → number_of f < number_of e → Says s m text f
  pub broken : Says s m text e → ⊥

-- what judging an entry came to is right
abbrev pub Verdict : Suite → Record → ℕ → List ℕ → Result Worth Refusal → Type 0
Verdict s r writes text (Ok w) = Takes s r writes text w
Verdict s r writes text (Err e) = Refuses s (standing r writes) text e

-- The law of entries: at any meter any text is taken or refused just as the rules say.
abbrev pub RulesDecide : Type 0
RulesDecide = (s : Suite) (r : Record) (writes : ℕ) (text : List ℕ) → Verdict s r writes text (judged s r writes text)

-- The law of standings: at any standing, be it that of a record or not, the tests of the rules tell what the rules say. Where all
-- tests hold, every rule is kept; where a test is the first that fails, its rule is broken, and every rule with a smaller number
-- is kept.
abbrev pub RulesAtAnyStanding : Type 0
RulesAtAnyStanding = (s : Suite) (m : Standing) (text : List ℕ) →
    (AllKept (entry_rules s m text) → (e : Refusal) → Says s m text e)
    × ((e : Refusal) → FirstBroken (entry_rules s m text) e → Refuses s m text e)
