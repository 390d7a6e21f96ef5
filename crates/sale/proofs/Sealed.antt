-- What a sale that can be sold comes to. Its values: Sold, sold_by; its data parts: Carries, carries. Its first block: tag_below,
-- first_small, first_fits_lem, low_sold, low_fits. Its blocks as they are printed: Sealed, sealed; blocks_below, blocks_length,
-- blocks_few, blocks_writable.
use Rattle.std.proofs.Common.{◌≡◌, ℕ, suc, ◌+◌, ◌*◌, ◌/◌, ◌%◌, ◌^◌, ◌<◌, ◌≤◌, true, false, ◌&&◌, ◌||◌, eqb, ltb, leb, List, [], ◌∷◌, map, length, Some, None, Option, sym, refl, ap, ◌∙◌, ⊎_elim, mod-eq_of_lt, arith}
use Rattle.std.specs.Int.Digits.{AllBelowBase}
use Rattle.std.proofs.lemmas.Nat.{mod_below, shr_high}
use Rattle.std.proofs.ByRecursion.{All-get_or}
use Rattle.std.proofs.lemmas.List.{length-map}
use Rattle.std.proofs.lemmas.Bool.{and_parts, leb-true, ltb-true, lt-ltb, eqb-true, cases_Bool, cond-true, cond-false, false≢true}
use Rattle.std.proofs.lemmas.Bool.Decides.{nat_tests}
use Rattle.cipher.specs.declared.width.Width.TheVariants.{First, Further}
use Rattle.token.specs.declared.subclass.SubClass.{SubClass}
use Rattle.token.specs.declared.subclass.SubClass.TheVariants.{Clear, Enciphered, Rates}
use Rattle.token.specs.declared.tariff.Tariff.{Tariff}
use Rattle.token.specs.FirstBlocks.{first_fits, Small}
use Rattle.token.specs.FurtherBlocks.{carriable, numbered}
use Rattle.token.specs.Limits.{under}
use Rattle.token.specs.RateLayout.{part_count}
use Rattle.token.specs.SubClasses.{code, takes, among, served, coded_or_rates, sub_classes, sub_class_named}
use Rattle.token.specs.Widths.{packed}
use Rattle.token.proofs.Numbered.{length-numbered}
use Rattle.token.proofs.Packs.{packs}
use Rattle.token.proofs.RateLaws.{parts-length, parts-carriable}
use Rattle.decimal.specs.Slips.{writable}
use Rattle.decimal.proofs.Printing.{writable_from}
use Rattle.sealing.specs.declared.settings.Settings.{Settings}
use Rattle.sealing.specs.Messages.{index_for}
use Rattle.sealing.specs.Messages.{nonce, message, front, tag_field}
use Rattle.sealing.specs.Suites.{Suite, Sound, multiplier_of}
use Rattle.sealing.proofs.Walk.{few, small, low_map, low_list, low_below, map-carriable}
use Rattle.sale.specs.declared.orders.PriceList.{PriceList}
use Rattle.sale.specs.declared.orders.Sale.{Sale}
use Rattle.sale.specs.Sales.{fitting, priced, coded, salable, parts_at, parts_sold}
use Rattle.sale.specs.Slips.{further_sold, first_sold, tag_sold, sealed_blocks}

-- the SubClass of a code that is served has that code
named_code : (ks : List SubClass) (n : ℕ) → among ks n ≡ true → n ≡ code (coded_or_rates ks n)
named_code [] n e = absurd (false≢true e)
named_code (k ∷ ks) n e =
    ⊎_elim
    (λ (b : eqb n (code k) ≡ true). eqb-true n (code k) b ∙ ap code (sym (cond-true (eqb n (code k)) k (coded_or_rates ks n) b)))
    (λ (b : eqb n (code k) ≡ false).
    named_code ks n (sym (ap (λ v. v || among ks n) b) ∙ e) ∙ ap code (sym (cond-false (eqb n (code k)) k (coded_or_rates ks n) b)))
    (cases_Bool (eqb n (code k)))

-- what is asked of a sale, one by one
pub record Sold (s : Settings) (sale : Sale) : Type 0 where
  pub named : sale.subclass ≡ code (sub_class_named sale.subclass)
  pub config : sale.config < 2 ^ 2
  pub unreserved : ltb 0 (multiplier_of s sale.config) ≡ true
  pub amt : sale.amt < 2 ^ 13
  pub prices : priced (sub_class_named sale.subclass) sale.prices ≡ true

pub sold_by : (s : Settings) (sale : Sale) → salable s sale ≡ true → Sold s sale
unfolding salable
sold_by s sale e =
    let m = ltb 0 (multiplier_of s sale.config) in
    let p = priced (sub_class_named sale.subclass) sale.prices in
    let a = and_parts (served sale.subclass && coded s sale) p e in
    let b = and_parts (served sale.subclass) (coded s sale) a.0 in
    let c = and_parts (leb sale.config 3 && m) (leb sale.amt 8191) b.1 in
    let d = and_parts (leb sale.config 3) m c.0 in
    record {
      named = named_code sub_classes sale.subclass b.0;
      config = omega (arith, leb-true sale.config 3 d.0);
      unreserved = d.1;
      amt = omega (arith, leb-true sale.amt 8191 c.1);
      prices = a.1;
    }

-- the data parts of a sale go into further blocks, as many as the SubClass takes
pub record Carries (k : SubClass) (ps : List ℕ) : Type 0 where
  pub carried : carriable ps ≡ true
  pub taken : takes k (suc (length ps)) ≡ true

rates_take : (n : ℕ) → takes Rates (suc (part_count n)) ≡ true
rates_take n = grind (arith, nat_tests)

tariff_carries : (t : Option Tariff) (size : ℕ) → fitting t size ≡ true → Carries Rates (parts_at t size)
tariff_carries None size e = absurd (false≢true e)
tariff_carries (Some t) size e = record {
  carried = parts-carriable t size e;
  taken = ap (λ (n : ℕ). takes Rates (suc n)) (parts-length t size) ∙ rates_take t.count;
}

pub carries : (k : SubClass) (o : Option PriceList) → priced k o ≡ true → Carries k (parts_sold o)
carries Clear None e = record { carried = refl; taken = refl }
carries Clear (Some p) e = absurd (false≢true e)
carries Enciphered None e = record { carried = refl; taken = refl }
carries Enciphered (Some p) e = absurd (false≢true e)
carries Rates None e = absurd (false≢true e)
carries Rates (Some p) e = tariff_carries _ p.size e

-- the front of sixteen bytes
front_below : (tag : List ℕ) → length tag ≡ 16 → AllBelowBase 256 tag → front tag < 2 ^ 32
front_below tag l u =
    let a = All-get_or (λ d. d < 256) tag 0 0 (omega arith) u in
    let b = All-get_or (λ d. d < 256) tag 1 0 (omega arith) u in
    let c = All-get_or (λ d. d < 256) tag 2 0 (omega arith) u in
    let d = All-get_or (λ d. d < 256) tag 3 0 (omega arith) u in
    omega arith

pub tag_below : (s : Suite) → Sound s → (number index : ℕ) (sale : Sale) → tag_sold s number index sale < 2 ^ 32
unfolding tag_sold tag_field
tag_below s o number index sale =
    let x = nonce s.settings number in
    let y = message s.settings number (index_for (sub_class_named sale.subclass) index) (first_sold number sale 0) (further_sold sale) in
    front_below (s.tagged x y) (o.sixteen x y) (o.bytes x y)

code_below : (k : SubClass) → code k < 2 ^ 4
code_below Clear = omega arith
code_below Enciphered = omega arith
code_below Rates = omega arith

-- each field of the first block is below what its width says
pub first_small : (s : Suite) → Sound s → (number index : ℕ) (sale : Sale) → Sold s.settings sale → Small (first_sold number sale (tag_sold s number index sale))
first_small s o number index sale v = record {
  subclass = omega (arith, v.named, code_below (sub_class_named sale.subclass));
  tstn = mod_below number 1024 (omega arith);
  config = v.config;
  amt = v.amt;
  tmac = tag_below s o number index sale;
}

pub first_fits_lem : (s : Suite) → Sound s → (number index : ℕ) (sale : Sale) → Sold s.settings sale →
    first_fits (first_sold number sale (tag_sold s number index sale)) ≡ true
first_fits_lem s o number index sale v =
    let h = first_small s o number index sale v in
    rw (lt-ltb _ _ h.subclass, lt-ltb _ _ h.tstn, lt-ltb _ _ h.config, lt-ltb _ _ h.amt, lt-ltb _ _ h.tmac) refl

-- the fields of a first block behind its SubClass, in 57 bits
abbrev pub low_sold : ℕ → Sale → ℕ → ℕ
low_sold number sale tag = packed (10 ∷ 2 ∷ 13 ∷ 32 ∷ []) (number % 1024 ∷ sale.config ∷ sale.amt ∷ tag ∷ [])

pub low_fits : (s : Suite) → Sound s → (number index : ℕ) (sale : Sale) → Sold s.settings sale →
    low_sold number sale (tag_sold s number index sale) < 2 ^ 57
low_fits s o number index sale v =
    let h = first_small s o number index sale v in
    (packs (10 ∷ 2 ∷ 13 ∷ 32 ∷ [])).below (number % 1024 ∷ sale.config ∷ sale.amt ∷ tag_sold s number index sale ∷ [])
    (h.tstn, (h.config, (h.amt, (h.tmac, tt))))

-- the blocks that are printed: a first block that names the SubClass, and others that carry as many parts as are sold
pub record Sealed (s : Suite) (number index : ℕ) (sale : Sale) : Type 0 where
  pub first : ℕ
  pub parts : List ℕ
  pub are : sealed_blocks s number index sale ≡ first ∷ numbered parts
  pub below : first < 2 ^ 61
  pub names : first / 2 ^ 57 % 2 ^ 4 ≡ code (sub_class_named sale.subclass)
  pub carried : carriable parts ≡ true
  pub as_many : length parts ≡ length (parts_sold sale.prices)

pub sealed : (s : Suite) → Sound s → (number index : ℕ) (sale : Sale) → Sold s.settings sale → Sealed s number index sale
unfolding sealed_blocks
sealed s o number index sale v =
    let k = sub_class_named sale.subclass in
    let ps = parts_sold sale.prices in
    let low = low_sold number sale (tag_sold s number index sale) in
    let fits = low_fits s o number index sale v in
    let has = carries k sale.prices v.prices in
    let m = low_map k s.enciphered in
    let keeps = low_below s.enciphered k o.below in
    let seen : m First low < 2 ^ 57 = keeps First low fits in
    let four = (first_small s o number index sale v).subclass in
    record {
      first = sale.subclass * 2 ^ 57 + m First low;
      parts = map (m Further) ps;
      are = low_list s.enciphered k sale.subclass low ps fits has.carried;
      below = omega (arith, four, seen);
      names = ap (λ (n : ℕ). n % 2 ^ 4) (shr_high sale.subclass 57 (m First low) seen) ∙ mod-eq_of_lt four ∙ v.named;
      carried = map-carriable (m Further) (keeps Further) ps has.carried;
      as_many = length-map ps (m Further);
    }

-- the further blocks of parts that can be carried
numbered_below : (ps : List ℕ) → length ps ≤ 3 → under (2 ^ 59) ps ≡ true → AllBelowBase (2 ^ 61) (numbered ps)
numbered_below [] l h = tt
numbered_below (p ∷ ps) l h =
    let u = and_parts (ltb p (2 ^ 59)) (under (2 ^ 59) ps) h in
    let low = ltb-true p (2 ^ 59) u.0 in
    (omega arith, numbered_below ps (omega arith) u.1)

pub blocks_below : (s : Suite) (number index : ℕ) (sale : Sale) → Sealed s number index sale → AllBelowBase (2 ^ 61) (sealed_blocks s number index sale)
blocks_below s number index sale z =
    let ps = z.parts in
    rw z.are (z.below, numbered_below ps (few ps z.carried) (small ps z.carried))

pub blocks_length : (s : Suite) (number index : ℕ) (sale : Sale) → Sealed s number index sale →
    length (sealed_blocks s number index sale) ≡ suc (length (parts_sold sale.prices))
blocks_length s number index sale z = ap length z.are ∙ ap suc (length-numbered z.parts ∙ z.as_many)

pub blocks_few : (s : Suite) (number index : ℕ) (sale : Sale) → Sealed s number index sale → length (sealed_blocks s number index sale) ≤ 4
blocks_few s number index sale z =
    omega (arith, blocks_length s number index sale z, z.as_many, few z.parts z.carried)

pub blocks_writable : (s : Suite) (number index : ℕ) (sale : Sale) → Sealed s number index sale → writable (sealed_blocks s number index sale) ≡ true
blocks_writable s number index sale z =
    writable_from (sealed_blocks s number index sale) (omega (arith, blocks_length s number index sale z)) (blocks_few s number index sale z)
    (blocks_below s number index sale z)
