use Rattle.readback.proofs.Ruling.{reads_anywhere, reads_back, slip_digits}
use Rattle.readback.proofs.slips_read_back.Goals as goal

pub returns : goal.returns
returns c = record { meters = reads_back; standings = reads_anywhere; digits = slip_digits }
