use Rattle.std.proofs.Common.{ℕ, ◌%◌, ◌^◌, Bool, cond, Some, None, sym, ap, ◌∙◌}
use Rattle.aes.specs.Keyed.{key_of}
use Rattle.ff1.specs.Ff1.{ff1_back}
use Rattle.ff1.proofs.Joining.{ready_there, deciphered}
use Rattle.ff1.proofs.decipher_numerals.Goals as goal

pub invariant_of-network : goal.invariant_of-network
invariant_of-network c =
    record { sized = (ready_there c.args.radix c.args.digits (key_of c.args.aes.now) c.args.tweak.now _ c.in_ok-rounds.ensures).1.sizes }

pub returns : goal.returns
returns c =
    let r = c.args.radix in
    let n = c.args.digits in
    let x = c.args.n in
    let key = key_of c.args.aes.now in
    let tweak = c.args.tweak.now in
    let there = ready_there r n key tweak _ c.in_ok-rounds.ensures in
    ap Some (deciphered r n key tweak _ there.1 x _ (c.reduced.ensures.value ∙ ap (λ (k : ℕ). x % k) there.1.product) c.back.result c.back.ensures.value)
    ∙ sym (ap (λ (b : Bool). cond b (Some (ff1_back r n key tweak (x % r ^ n))) None) there.0)
