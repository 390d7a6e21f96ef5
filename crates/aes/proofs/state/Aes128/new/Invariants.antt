use Rattle.std.proofs.Common.{◌≡◌, []}
use Rattle.aes.specs.Aes.{round_key, round_constant}
use Rattle.aes.specs.Words.{packed}
use Rattle.aes.proofs.Fill.{Filled}
use Rattle.aes.proofs.state.Aes128.new.Given as goal

abbrev pub invariant-loop-round_key : goal.invariant-loop-round_key
invariant-loop-round_key l =
    Filled (λ n. packed (round_key l.key n)) [] 11 l.round_key-items l.round_key-index
    × (l.k ≡ packed (round_key l.key l.round_key-index)) × (l.constant ≡ round_constant l.round_key-index)
