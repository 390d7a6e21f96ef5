-- Slips that a till prints, worked out by hand: clear_sale, a sale in clear; printed, its digits; WorkedPrinting.
use Rattle.std.specs.Prelude.{◌≡◌, ℕ, List, None, codes}
use Rattle.sale.specs.declared.orders.Sale.{Sale}
use Rattle.sale.specs.Slips.{slip_text}
use Rattle.worked.specs.Bench.{bench_suite}

-- a sale in clear
abbrev pub clear_sale : ℕ → ℕ → Sale
clear_sale config amt = record { subclass = 0; config = config; amt = amt; prices = None }

-- the digits that a new till on the bench prints for a number
abbrev pub printed : ℕ → Sale → List ℕ
printed number sale = slip_text bench_suite number 0 sale

-- the first entry and the fourth of the worked slips are what a till prints: 500 for number 1, and 300 times 10 for number 2
pub record WorkedPrinting : Type 0 where
  pub first_slip : printed 1 (clear_sale 0 500) ≡ codes "73942998757583096280"
  pub fourth_slip : printed 2 (clear_sale 1 300) ≡ codes "73944749386252943917"
