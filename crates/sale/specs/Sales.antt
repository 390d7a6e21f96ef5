-- Which sales a till can sell: tariff_named, the tariff of a price list; fitting, priced, coded, salable, what is asked of a sale; sale_rules,
-- the rules of an issue in their order; issuable, that all are kept. And parts_at, parts_sold, the data parts that it takes.
use Rattle.std.specs.Prelude.{ℕ, Bool, true, false, ◌&&◌, List, [], ◌∷◌, Some, None, Option, nat_le, nat_lt}
use Rattle.refusal.specs.Checks.{Rule, rule}
use Rattle.refusal.specs.declared.Refusal.TheVariants.{Sale as NoSale, TillIndexFull}
use Rattle.token.specs.declared.subclass.SubClass.{SubClass}
use Rattle.token.specs.declared.subclass.SubClass.TheVariants.{Clear, Enciphered, Rates}
use Rattle.token.specs.declared.tariff.Tariff.{Tariff}
use Rattle.token.specs.SubClasses.{served, sub_class_named}
use Rattle.token.specs.Tariffs.{tariff_of}
use Rattle.token.specs.RatePrices.{fits, parts}
use Rattle.entry.specs.Rules.{raisable}
use Rattle.sealing.specs.Suites.{multiplier_of}
use Rattle.sealing.specs.declared.settings.Settings.{Settings}
use Rattle.sale.specs.declared.orders.PriceList.{PriceList}
use Rattle.sale.specs.declared.orders.Sale.{Sale}

-- the tariff of a price list, where its values keep the limits of rate prices
abbrev pub tariff_named : PriceList → Option Tariff
tariff_named p = tariff_of p.complete p.month p.multiplier p.count p.prices

-- there is a tariff, and its prices fit the size code
abbrev pub fitting : Option Tariff → ℕ → Bool
fitting None size = false
fitting (Some t) size = fits t size

-- rate prices that can be packed go with SubClass 10, and none with the others
abbrev pub priced : SubClass → Option PriceList → Bool
priced Clear None = true
priced Clear (Some p) = false
priced Enciphered None = true
priced Enciphered (Some p) = false
priced Rates None = false
priced Rates (Some p) = fitting (tariff_named p) p.size

-- the AMTConfig is from 0 to 3 and not reserved, and the AMT has thirteen bits
abbrev pub coded : Settings → Sale → Bool
coded s sale = (nat_le sale.config 3 && nat_lt 0 (multiplier_of s sale.config)) && nat_le sale.amt 8191

-- the SubClass is served, the amount has a code, and the prices go with the SubClass
unfoldable pub salable : Settings → Sale → Bool
salable s sale = (served sale.subclass && coded s sale) && priced (sub_class_named sale.subclass) sale.prices

-- the rules of an issue at the index that the till keeps, in their order: the sale, then the index
abbrev pub sale_rules : Settings → ℕ → Sale → List Rule
sale_rules s index sale = rule NoSale (salable s sale) ∷ rule TillIndexFull (raisable (sub_class_named sale.subclass) index) ∷ []

-- both are kept
abbrev pub issuable : Settings → ℕ → Sale → Bool
issuable s index sale = salable s sale && raisable (sub_class_named sale.subclass) index

-- the data parts that a tariff takes
abbrev pub parts_at : Option Tariff → ℕ → List ℕ
parts_at None size = []
parts_at (Some t) size = parts t size

-- the data parts of a sale; none without prices
abbrev pub parts_sold : Option PriceList → List ℕ
parts_sold None = []
parts_sold (Some p) = parts_at (tariff_named p) p.size
