use Rattle.std.proofs.Common.{◌≡◌, ℕ, ◌^◌, ◌<◌, [], length, get_or, refl, arith, rules}
use Rattle.aes.specs.Aes.{round_key, round_constant}
use Rattle.aes.specs.Words.{packed}
use Rattle.aes.specs.Expansion.{expanded}
use Rattle.aes.proofs.Fill.{filled_more, filled_all}
use Rattle.aes.proofs.Expanding.{key_step, constant_step, words_are}
use Rattle.aes.proofs.state.Aes128.new.Goals as goal

pub loop-round_key-init : goal.loop-round_key-init
unfolding round_key round_constant
loop-round_key-init c =
    let four : length c.load-k.result ≡ 4 = search rules in
    let fits : (i : ℕ) → get_or c.load-k.result i 0 < 2 ^ 32 = search rules in
    ((refl, λ k h. absurd (omega arith)), words_are c.args.key.now 0 c.load-k.result four fits c.load-k.ensures, refl)

pub loop-round_key-preserved : goal.loop-round_key-preserved
loop-round_key-preserved c =
    let key = c.args.key.now in
    let k = c.loop-round_key.k in
    let r = c.next_key-k.result in
    let n = c.loop-round_key.round_key-index in
    let four : length r ≡ 4 = search rules in
    let fits : (i : ℕ) → get_or r i 0 < 2 ^ 32 = search rules in
    let is = c.loop-round_key.invariant in (
      filled_more (λ n. packed (round_key key n)) [] 11 _ _ _ (omega arith) is.0 is.1,
      key_step key (c.told-key, c.fits-key) n c.loop-round_key.constant k r is.1 is.2 four fits c.next_key-k.ensures,
      constant_step n c.loop-round_key.constant c.times_x-constant.result is.2 c.times_x-constant.ensures,
    )

pub invariant_of-result : goal.invariant_of-result
unfolding expanded
invariant_of-result c = record { kept = filled_all (λ n. packed (round_key c.args.key.now n)) [] 11 _ c.loop-round_key.round_key-index (omega arith) c.loop-round_key.invariant.0 }
