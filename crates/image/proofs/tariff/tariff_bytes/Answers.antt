use Rattle.std.proofs.Common.{◌≡◌, ℕ, ◌<◌, List, [], length, get_or, ap, ◌∙◌, arith, rules, tests}
use mir.Syntax.{w16}
use Rattle.std.specs.Int.{to_be_bytes}
use Rattle.std.specs.List.{flat_map}
use Rattle.std.proofs.lemmas.List.{set-get_or}
use Rattle.token.proofs.Tariffs.{small as small_price}
use Rattle.image.specs.Tariffs.{halves}
use Rattle.image.proofs.Numbers.{halves_flat, mapped_calls}
use Rattle.image.proofs.tariff.tariff_bytes.Goals as goal

pub returns : goal.returns
returns c =
    let ps = c.in-Some.t.prices in
    let l : length ps ≡ 8 = search rules in
    let small : (i : ℕ) → get_or ps i 0 < 65536 = λ i. omega (arith, small_price c.in-Some.t i) in
    let spelled = mapped_calls (to_be_bytes w16) 0 [] c.map-prices.ensures.items l (λ x y p q k. search (rules, tests)) in
    -- the bytes that lie flat are those of the prices, also where one is written over by itself
    let flat : c.as_flattened.result.now ≡ flat_map (λ (x : List ℕ). x) c.map-prices.result = search (rules, set-get_or) in
    let e : c.copy_from_slice-2.new.self ≡ halves ps =
    c.copy_from_slice-2.ensures.after ∙ flat ∙ ap (flat_map (λ x. x)) spelled ∙ halves_flat ps small in
    rw (c.copy_from_slice.ensures.after, e, c.in-Some.is) (search rules)
