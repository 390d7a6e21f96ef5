use Rattle.decimal.proofs.Returning.{there, back}
use Rattle.decimal.proofs.round_trip.Goals as goal

pub returns : goal.returns
returns c = record { there = there; back = back }
