-- The rules of an entry at a slip that was printed: all but three are kept. The rules by their tests: fourteen, three_open, rules_are;
-- what single rules ask: same_index, same_raisable, Priced, prices_back, own_tag, tag_right; the laws: reads, reads_anywhere,
-- reads_back, slip_digits.
use Rattle.std.proofs.Common.{◌≡◌, ℕ, ◌+◌, ◌%◌, Bool, true, not, ltb, leb, ◌⊎◌, List, [], ◌∷◌, Some, None, Ok, Option, sym, refl, ap, ◌∙◌, subst, inl, inr}
use Rattle.std.proofs.lemmas.Bool.{false≢true, eq-eqb}
use Rattle.refusal.specs.Checks.{Rule, rule, checked}
use Rattle.refusal.specs.declared.Refusal.TheVariants.{Length, NotADigit, CheckDigit, NoBlock, OtherSubClass, WrongBlocks, IndexFull, OutsideWindow, WrongTag, AlreadyCounted, ReservedConfig, RatePrices, AboveCeiling, NoWrites}
use Rattle.token.specs.declared.subclass.SubClass.{SubClass}
use Rattle.token.specs.declared.subclass.SubClass.TheVariants.{Clear, Enciphered, Rates}
use Rattle.token.specs.declared.tariff.Tariff.{Tariff}
use Rattle.token.specs.RatePrices.{tariff_in}
use Rattle.token.specs.SubClasses.{sub_class_named}
use Rattle.token.proofs.RateLaws.{back}
use Rattle.decimal.specs.Groups.{all_digits}
use Rattle.window.specs.Recovery.{in_window, in_reach, number_for}
use Rattle.window.proofs.Recovery.{stands_for}
use Rattle.record.specs.Changes.{taken}
use Rattle.sealing.specs.Messages.{index_for}
use Rattle.entry.specs.Rules.{raisable}
use Rattle.sealing.specs.Messages.{head, message, tag_field}
use Rattle.sealing.specs.Opening.{parts_of}
use Rattle.sealing.specs.Suites.{Suite, Sound, multiplier_of}
use Rattle.sealing.specs.declared.opening.Opened.{Opened}
use Rattle.entry.specs.Judging.{judged}
use Rattle.entry.specs.Reading.{slip_read, amount_in, amount_read, brought_by, tariff_brought}
use Rattle.entry.specs.Rules.{Standing, standing, number_in, authentic, priced, entry_rules}
use Rattle.sale.specs.declared.orders.PriceList.{PriceList}
use Rattle.sale.specs.declared.orders.Sale.{Sale}
use Rattle.sale.specs.Sales.{fitting, priced as priced_sold, parts_at, parts_sold}
use Rattle.sale.specs.Slips.{further_sold, first_sold, tag_sold, slip_text}
use Rattle.sale.proofs.Sealed.{Sold, sold_by}
use Rattle.readback.specs.Back.{amount_sold, tariff_listed, prices_sold, Current, open_rules, SlipsReadBack, Reads, SlipsReadBackAnywhere, SlipDigits}
use Rattle.readback.proofs.Alike.{same_kept, same_broken}
use Rattle.readback.proofs.Opening.{keyed, shape, sold_slip, slip_read_lem, further_read, parts-read, digits}

-- the fourteen rules of an entry, by their tests
abbrev fourteen : Bool → Bool → Bool → Bool → Bool → Bool → Bool → Bool → Bool → Bool → Bool → Bool → Bool → Bool → List Rule
fourteen a b c d e f g h i j k l m n =
    rule Length a ∷ rule NotADigit b ∷ rule CheckDigit c ∷ rule NoBlock d ∷ rule OtherSubClass e ∷ rule WrongBlocks f ∷ rule IndexFull g
    ∷ rule OutsideWindow h ∷ rule WrongTag i ∷ rule AlreadyCounted j ∷ rule ReservedConfig k ∷ rule RatePrices l ∷ rule AboveCeiling m
    ∷ rule NoWrites n ∷ []

-- where three are open and all others kept
abbrev three_open : Bool → Bool → Bool → List Rule
three_open j m n = fourteen true true true true true true true true true j true true m n

-- an index that is current gives the same message, and can be raised as the till's could
same_index : (k : SubClass) (printed kept : ℕ) → (k ≡ Clear) ⊎ (kept ≡ printed) → index_for k kept ≡ index_for k printed
same_index k printed kept (inl e) = ap (λ (c : SubClass). index_for c kept) e ∙ ap (λ (c : SubClass). index_for c printed) (sym e)
same_index k printed kept (inr e) = ap (index_for k) e

same_raisable : (k : SubClass) (printed kept : ℕ) → (k ≡ Clear) ⊎ (kept ≡ printed) → raisable k printed ≡ true → raisable k kept ≡ true
same_raisable k printed kept (inl e) h = ap (λ (c : SubClass). raisable c kept) e
same_raisable k printed kept (inr e) h = ap (raisable k) e ∙ h

-- the prices of a sale come back, and keep their rules
record Priced (k : SubClass) (ps : List ℕ) (t : Option Tariff) : Type 0 where
  brought : brought_by k (tariff_in ps) ≡ t
  lawful : priced k (tariff_in ps) ≡ true

tariff_back : (t : Option Tariff) (size : ℕ) → fitting t size ≡ true → Priced Rates (parts_at t size) t
tariff_back None size e = absurd (false≢true e)
tariff_back (Some t) size e = record { brought = back t size e; lawful = ap (priced Rates) (back t size e) }

prices_back : (k : SubClass) (o : Option PriceList) → priced_sold k o ≡ true → Priced k (parts_sold o) (tariff_listed o)
prices_back Clear None e = record { brought = refl; lawful = refl }
prices_back Clear (Some p) e = absurd (false≢true e)
prices_back Enciphered None e = record { brought = refl; lawful = refl }
prices_back Enciphered (Some p) e = absurd (false≢true e)
prices_back Rates None e = absurd (false≢true e)
prices_back Rates (Some p) e = tariff_back _ p.size e

-- the tag field does not enter the message
own_tag : (s : Suite) (number index : ℕ) (sale : Sale) (tag : ℕ) →
    tag_sold s number index sale ≡ tag_field s.settings s.tagged number (index_for (sub_class_named sale.subclass) index) (first_sold number sale tag) (further_sold sale)
unfolding tag_sold tag_field message head
own_tag s number index sale tag = refl

module _ (s : Suite) (o : Sound s) (number index : ℕ) (sale : Sale) (v : Sold s.settings sale) (u : raisable (sub_class_named sale.subclass) index ≡ true)
    (m : Standing) (w : in_window m.highest number ≡ true) (c : Current sale index m.index) where
  abbrev k : SubClass
  k = sub_class_named sale.subclass

  abbrev text : List ℕ
  text = slip_text s number index sale

  abbrev slip : Opened
  slip = sold_slip s o number index sale v

  read : slip_read s text ≡ slip
  read = slip_read_lem s o number index sale v

  stands : (in_reach m.highest (number % 1024) ≡ true) × (number_for m.highest (number % 1024) ≡ number)
  stands = stands_for m.highest (number % 1024) number (record { within = w; tail = refl })

  number_read : number_in m (slip_read s text) ≡ number
  number_read = ap (number_in m) read ∙ stands.1

  amount_read_lem : amount_read s text ≡ amount_sold s.settings sale
  amount_read_lem = ap (amount_in s.settings) read

  prices : Priced k (parts_of slip) (prices_sold sale)
  prices =
      let P : List ℕ → Type 0 = λ ps. Priced k ps (prices_sold sale) in
      subst P (sym (parts-read s o number index sale v)) (prices_back k sale.prices v.prices)

  tag_right : authentic s.settings s.tagged m.index slip number ≡ true
  unfolding authentic
  tag_right =
      eq-eqb _ _ (own_tag s number index sale (tag_sold s number index sale)
      ∙ (λ i. tag_field s.settings s.tagged number (sym (same_index k index m.index c) i) slip.first (sym (further_read s o number index sale v) i)))

  -- all rules but three are kept
  rules_are : entry_rules s m text
      ≡ three_open (not (m.counted number)) (leb (m.credit + amount_sold s.settings sale) s.settings.ceiling) (ltb 0 m.writes)
  unfolding all_digits
  rules_are =
      let p = (keyed s o number index sale v).0 in
      let h = shape s o number index sale v in
      let index_right : raisable (slip_read s text).subclass m.index ≡ true =
      ap (λ (x : Opened). raisable x.subclass m.index) read ∙ same_raisable k index m.index c u in
      let reached : in_reach m.highest (slip_read s text).first.tstn ≡ true = ap (λ (x : Opened). in_reach m.highest x.first.tstn) read ∙ stands.0 in
      let tagged : authentic s.settings s.tagged m.index (slip_read s text) (number_in m (slip_read s text)) ≡ true =
      (λ i. authentic s.settings s.tagged m.index (read i) (number_read i)) ∙ tag_right in
      let unreserved : ltb 0 (multiplier_of s.settings (slip_read s text).first.config) ≡ true =
      ap (λ (x : Opened). ltb 0 (multiplier_of s.settings x.first.config)) read ∙ v.unreserved in
      let lawful : priced (slip_read s text).subclass (tariff_in (parts_of (slip_read s text))) ≡ true =
      ap (λ (x : Opened). priced x.subclass (tariff_in (parts_of x))) read ∙ prices.lawful in
      λ i. fourteen (p.in_groups i) (p.digits i) (p.seals i) (p.blocks i) (h.known i) (h.fitted i) (index_right i) (reached i) (tagged i)
      (not (m.counted (number_read i))) (unreserved i) (lawful i) (leb (m.credit + amount_read_lem i) s.settings.ceiling) (ltb 0 m.writes)

  abbrev still_open : List Rule
  still_open = open_rules s.settings m number (amount_sold s.settings sale)

  -- so the three decide
  same : checked {X = ℕ} (entry_rules s m text) (Ok 0) ≡ checked still_open (Ok 0)
  same = ap (λ (rules : List Rule). checked rules (Ok 0)) rules_are

  pub reads : Reads s m text number sale
  reads = record {
    for_number = number_read;
    subclass = ap (λ (x : Opened). x.subclass) read;
    amount = amount_read_lem;
    prices = ap tariff_brought read ∙ prices.brought;
    kept = same_kept (entry_rules s m text) still_open same;
    broken = λ e. same_broken (entry_rules s m text) still_open e same;
  }

pub reads_anywhere : SlipsReadBackAnywhere
reads_anywhere s o number index sale e m w c = reads s o number index sale (sold_by s.settings sale e.0) e.1.0 m w c

pub reads_back : SlipsReadBack
unfolding judged
reads_back s o number index sale e r writes w c =
    let v = sold_by s.settings sale e.0 in
    let m = standing r writes in
    let z = reads s o number index sale v e.1.0 m w c in
    λ i. checked (rules_are s o number index sale v e.1.0 m w c i) (Ok (record {
      number = z.for_number i;
      amount = z.amount i;
      next = taken r (z.for_number i) (z.amount i) (z.prices i);
    }))

pub slip_digits : SlipDigits
slip_digits s o number index sale e = digits s o number index sale (sold_by s.settings sale e.0)
