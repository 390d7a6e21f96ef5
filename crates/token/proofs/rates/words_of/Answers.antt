use Rattle.std.proofs.Common.{take, [], ◌∷◌, ap, ◌∙◌}
use Rattle.token.specs.RatePrices.{parts}
use Rattle.token.specs.Widths.{packed}
use Rattle.token.proofs.Fitting.{fit_first, fit_second, fit_third}
use Rattle.token.proofs.rates.words_of.Goals as goal

pub pack-requires-clause-fits : goal.pack-requires-clause-fits
pack-requires-clause-fits c = rw (c.first_widths.ensures, c.first_values.ensures) (fit_first c.args.t.now c.args.size.code c.requires)

pub pack-requires-2-clause-fits : goal.pack-requires-2-clause-fits
pack-requires-2-clause-fits c = rw (c.second_widths.ensures, c.second_values.ensures) (fit_second c.args.t.now c.args.size.code c.requires)

pub pack-requires-3-clause-fits : goal.pack-requires-3-clause-fits
pack-requires-3-clause-fits c = rw (c.third_widths.ensures, c.third_values.ensures) (fit_third c.args.t.now c.args.size.code c.requires)

pub returns : goal.returns
unfolding parts
returns c =
    c.truncate.ensures.items ∙ ap (take c.part_count.result) c.from-words.ensures.0
    ∙ (λ i. take (c.part_count.ensures i) (
    (c.pack.ensures.value ∙ (λ j. packed (c.first_widths.ensures j) (c.first_values.ensures j))) i
    ∷ (c.pack-2.ensures.value ∙ (λ j. packed (c.second_widths.ensures j) (c.second_values.ensures j))) i
    ∷ (c.pack-3.ensures.value ∙ (λ j. packed (c.third_widths.ensures j) (c.third_values.ensures j))) i
    ∷ []))
