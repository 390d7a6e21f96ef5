-- Rate prices from their parts, where these keep the limits: tariff_of.
use Rattle.std.specs.Prelude.{ℕ, Bool, List, Option}
use Rattle.refusal.specs.Making.{where_so}
use Rattle.token.specs.Limits.{tariffable}
use Rattle.token.specs.declared.tariff.Tariff.{Tariff}

-- the tariff that is complete or not, of this month, multiplier code, count and prices
abbrev pub tariff_of : Bool → ℕ → ℕ → ℕ → List ℕ → Option Tariff
tariff_of complete month multiplier count prices =
    where_so (tariffable month multiplier count prices) (λ p. record {
      complete = complete;
      month = month;
      multiplier = multiplier;
      count = count;
      prices = prices;
      ok = p;
    })
