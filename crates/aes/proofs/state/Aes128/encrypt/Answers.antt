use Rattle.std.proofs.Common.{◌≡◌, ℕ, ◌<◌, List, length, get_or, ap, ◌∙◌, arith, rules}
use Rattle.aes.specs.Aes.{cipher, aes}
use Rattle.aes.proofs.Rounding.{nine, last_step}
use Rattle.aes.proofs.Expanding.{given_back}
use Rattle.aes.proofs.state.Aes128.encrypt.Goals as goal

pub returns : goal.returns
unfolding aes
returns c =
    let ks = c.args.self.now.round_keys in
    let n = c.loop-round_key.round_key-index in
    let eleven : length ks ≡ 11 = search rules in
    let sixteen : length c.args.self.now.key ≡ 16 = search rules in
    let bytes : (i : ℕ) → get_or c.args.self.now.key i 0 < 256 = search rules in
    c.store.ensures
    ∙ last_step ks c.args.block.now n c.loop-round_key.s c.last_round.result (search rules)
    (omega (arith, nine ks eleven, c.loop-round_key-test.false, c.loop-round_key.auto.round_key-index-end)) c.loop-round_key.invariant c.last_round.ensures
    ∙ ap (λ (ks : List (List ℕ)). cipher ks c.args.block.now) (given_back c.args.self.now.key ks (sixteen, bytes) c.args.self.now.kept)
