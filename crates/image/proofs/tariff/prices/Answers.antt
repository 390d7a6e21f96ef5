use Rattle.std.proofs.Common.{◌≡◌, ◌-◌, ◌/◌, [], map, length, take, drop, ap, ◌∙◌, take_all, length-drop, arith, rules, tests}
use mir.Syntax.{w16}
use Rattle.std.specs.Int.{from_be_bytes}
use Rattle.std.specs.Simd.{first_chunks}
use Rattle.image.proofs.Numbers.{chunk_pairs, mapped_calls}
use Rattle.image.proofs.tariff.prices.Goals as goal

pub returns : goal.returns
returns c =
    let v = c.args.value.now in
    let long : length (drop 4 v) ≡ 16 = length-drop 4 v ∙ omega arith in
    let whole : take (length v - 4) (drop 4 v) ≡ drop 4 v = take_all (length v - 4) (drop 4 v) (omega (arith, long)) in
    let eight : length (drop 4 v) / 2 ≡ 8 = omega (arith, long) in
    let chunks : c.array.result ≡ first_chunks 2 8 (drop 4 v) =
    c.array.ensures ∙ c.as_chunks.ensures.front ∙ ap (λ xs. first_chunks 2 (length xs / 2) xs) whole ∙ ap (λ n. first_chunks 2 n (drop 4 v)) eight in
    mapped_calls (from_be_bytes w16) [] 0 c.map.ensures.items (ap length chunks) (λ x y p q k. search (rules, tests)) ∙ ap (map (from_be_bytes w16)) chunks ∙ chunk_pairs 8 (drop 4 v) (omega (arith, long))
