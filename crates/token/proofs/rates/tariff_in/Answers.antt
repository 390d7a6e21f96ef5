use Rattle.std.proofs.Common.{◌≡◌, sym, ap, ◌∙◌}
use Rattle.token.specs.Widths.{unpacked}
use Rattle.token.specs.RateLayout.{first_part_widths, second_part_widths, third_part_widths}
use Rattle.token.proofs.Fitting.{first_small, second_small, third_small}
use Rattle.token.proofs.ReadBack.{refused_is, read_is}
use Rattle.token.proofs.rates.tariff_in.Goals as goal
use Rattle.token.proofs.rates.tariff_in.Goals.{After-unpack-third}

-- the fields of each part
first : (c : After-unpack-third) → c.unpack-first.result ≡ unpacked (first_part_widths c.named_in-size.result.code) c.part-word.result
first c = c.unpack-first.ensures ∙ ap (λ ws. unpacked ws c.part-word.result) c.first_widths.ensures

second : (c : After-unpack-third) → c.unpack-second.result ≡ unpacked (second_part_widths c.named_in-size.result.code) c.part.result
second c = c.unpack-second.ensures ∙ ap (λ ws. unpacked ws c.part.result) c.second_widths.ensures

third : (c : After-unpack-third) → c.unpack-third.result ≡ unpacked (third_part_widths c.named_in-size.result.code) c.part-2.result
third c = c.unpack-third.ensures ∙ ap (λ ws. unpacked ws c.part-2.result) c.third_widths.ensures

pub is_lawful-requires : goal.is_lawful-requires
is_lawful-requires c = rw (first (goal.at.is_lawful-requires c).After-unpack-third) (first_small c.named_in-size.result c.part-word.result)

pub from_fields-requires : goal.from_fields-requires
from_fields-requires c =
    let d = (goal.at.from_fields-requires c).After-unpack-third in
    let s = c.named_in-size.result in
    record {
      head = rw (first d) (first_small s c.part-word.result);
      middle = rw (second d) (second_small s c.part.result);
      last = rw (third d) (third_small s c.part-2.result);
    }

pub returns-then-not-is_lawful : goal.returns-then-not-is_lawful
returns-then-not-is_lawful c =
    let d = (goal.at.returns-then-not-is_lawful c).After-unpack-third in
    refused_is c.args.parts.now _ _ _ _ _ _ c.part-word.ensures c.part.ensures c.part-2.ensures
    (first d ∙ ap (λ n. unpacked (first_part_widths n) c.part-word.result) c.named_in-size.ensures)
    (second d ∙ ap (λ n. unpacked (second_part_widths n) c.part.result) c.named_in-size.ensures)
    (third d ∙ ap (λ n. unpacked (third_part_widths n) c.part-2.result) c.named_in-size.ensures)
    (sym c.is_lawful.ensures ∙ c.if-not-is_lawful.true)

pub returns : goal.returns
returns c =
    let d = (goal.at.returns c).After-unpack-third in
    read_is c.args.parts.now _ _ _ _ _ _ c.part-word.ensures c.part.ensures c.part-2.ensures
    (first d ∙ ap (λ n. unpacked (first_part_widths n) c.part-word.result) c.named_in-size.ensures)
    (second d ∙ ap (λ n. unpacked (second_part_widths n) c.part.result) c.named_in-size.ensures)
    (third d ∙ ap (λ n. unpacked (third_part_widths n) c.part-2.result) c.named_in-size.ensures)
    c.from_fields.result (sym c.is_lawful.ensures ∙ c.if-not-is_lawful.false) c.from_fields.ensures
