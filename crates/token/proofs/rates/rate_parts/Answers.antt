use Rattle.std.proofs.Common.{◌≡◌, ℕ, true, ap, ◌∙◌, rules}
use Rattle.arrayvec.specs.ArrayVec.{ArrayVec}
use Rattle.std.proofs.lemmas.Float.{T_from_true}
use Rattle.token.specs.FurtherBlocks.{carriable}
use Rattle.token.specs.RatePrices.{fits, tariff_in}
use Rattle.token.proofs.RateLaws.{back, parts-carriable}
use Rattle.token.proofs.rates.rate_parts.Goals as goal

pub invariant_of-result : goal.invariant_of-result
invariant_of-result c =
    let f : fits c.args.t.now c.in_ok-size.size.code ≡ true = search rules in
    T_from_true _ (ap carriable (ap (λ (v : ArrayVec ℕ). v.items) c.from-words.ensures ∙ c.words_of-list.ensures) ∙ parts-carriable c.args.t.now c.in_ok-size.size.code f)

pub returns-clause-back : goal.returns-clause-back
returns-clause-back c =
    let f : fits c.args.t.now c.in_ok-size.size.code ≡ true = search rules in
    ap tariff_in (ap (λ (v : ArrayVec ℕ). v.items) c.from-words.ensures ∙ c.words_of-list.ensures) ∙ back c.args.t.now c.in_ok-size.size.code f
