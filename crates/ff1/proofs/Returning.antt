-- FF1 comes back, by the law of the network.
use Rattle.feistel.proofs.Undoing.{undoes_all, redoes_all, stays_all}
use Rattle.ff1.specs.Ff1.{round_number, ff1, ff1_back}
use Rattle.ff1.specs.Laws.{Ff1Returns}

pub ff1_returns : Ff1Returns
unfolding ff1 ff1_back
ff1_returns radix n key tweak x h l =
    let F = round_number radix n key tweak in
    record {
      back = undoes_all radix n F x h l;
      forth = redoes_all radix n F x h l;
      below = (stays_all radix n F x h l).0;
      within = (stays_all radix n F x h l).1;
    }
