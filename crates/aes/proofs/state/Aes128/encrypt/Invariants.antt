use Rattle.std.proofs.Common.{◌≡◌, map}
use Rattle.aes.specs.Aes.{rounds}
use Rattle.aes.specs.Words.{unpacked}
use Rattle.aes.proofs.state.Aes128.encrypt.Given as goal

abbrev pub invariant-loop-round_key : goal.invariant-loop-round_key
invariant-loop-round_key l = unpacked l.s ≡ rounds l.round_key-index (map unpacked l.self.round_keys) l.block
