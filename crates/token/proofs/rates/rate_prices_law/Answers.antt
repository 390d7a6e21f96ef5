use Rattle.token.proofs.RateLaws.{back, only}
use Rattle.token.proofs.rates.rate_prices_law.Goals as goal

pub returns : goal.returns
returns c = record { back = back; only = only }
