use Rattle.feistel.proofs.Undoing.{undoes_all, redoes_all, stays_all}
use Rattle.feistel.proofs.feistel_law.Goals as goal

pub returns : goal.returns
returns c = record { undoes = undoes_all; redoes = redoes_all; stays = stays_all }
