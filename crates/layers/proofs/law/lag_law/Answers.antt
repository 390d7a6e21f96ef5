use Rattle.layers.proofs.Lag.{lags}
use Rattle.layers.proofs.law.lag_law.Goals as goal

pub returns : goal.returns
returns g c = lags _ _ _ g.met.S.Store.holds g.met.S.Store.least
