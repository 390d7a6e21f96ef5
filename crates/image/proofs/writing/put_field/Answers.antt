use Rattle.std.proofs.Common.{◌≡◌, ◌/◌, ◌%◌, [], ◌∷◌, length, get_or, ap, ◌∙◌, arith}
use Rattle.image.proofs.Puts.{put_parts}
use Rattle.image.proofs.writing.put_field.Goals as goal

pub returns : goal.returns
returns c =
    let n = length c.value-value.result.now in
    let high : get_or c.to_be_bytes.result 0 0 ≡ n / 256 = ap (λ l. get_or l 0 0) c.to_be_bytes.ensures ∙ omega (arith, c.requires.short, ap length c.value-value.ensures) in
    let low : get_or c.to_be_bytes.result 1 0 ≡ n % 256 = ap (λ l. get_or l 1 0) c.to_be_bytes.ensures in
    put_parts c.args.at _ _ _ _ c.args.memory.now _ _ c.requires.room c.tag.ensures c.value-value.ensures (c.copy_from_slice.ensures.after ∙ (λ i. c.tag.result ∷ high i ∷ low i ∷ [])) c.copy_from_slice-2.ensures.after
