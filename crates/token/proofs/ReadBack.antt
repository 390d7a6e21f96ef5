-- The steps of reading, over what each gives. Assumes nothing.
use Rattle.std.proofs.Common.{◌≡◌, ℕ, ◌/◌, ◌%◌, ◌^◌, true, false, List, length, get_or, None, Option, sym, ap, ◌∙◌}
use Rattle.std.proofs.lemmas.Bool.{cond-true, cond-false}
use Rattle.token.specs.Widths.{unpacked}
use Rattle.token.specs.RateLayout.{first_part_widths, second_part_widths, third_part_widths}
use Rattle.token.specs.RatePrices.{lawful, spelled, from_fields, tariff_in}
use Rattle.token.specs.declared.tariff.Tariff.{Tariff}

module _ (ps a b d : List ℕ) (u v w : ℕ) (eu : u ≡ get_or ps 0 0) (ev : v ≡ get_or ps 1 0) (ew : w ≡ get_or ps 2 0)
    (ea : a ≡ unpacked (first_part_widths (u / 2 ^ 35 % 4)) u) (eb : b ≡ unpacked (second_part_widths (u / 2 ^ 35 % 4)) v) (ed : d ≡ unpacked (third_part_widths (u / 2 ^ 35 % 4)) w) where
  fields_read : from_fields (length ps) a b d ≡ tariff_in ps
  unfolding tariff_in
  fields_read = λ i. from_fields (length ps)
      ((ea ∙ ap (λ (x : ℕ). unpacked (first_part_widths (x / 2 ^ 35 % 4)) x) eu) i)
      ((eb ∙ (λ j. unpacked (second_part_widths (eu j / 2 ^ 35 % 4)) (ev j))) i)
      ((ed ∙ (λ j. unpacked (third_part_widths (eu j / 2 ^ 35 % 4)) (ew j))) i)

  pub refused_is : lawful (length ps) a b d ≡ false → None ≡ tariff_in ps
  refused_is l = sym (cond-false (lawful (length ps) a b d) _ _ l) ∙ fields_read

  pub read_is : (o : Option Tariff) → lawful (length ps) a b d ≡ true → o ≡ spelled a b d → o ≡ tariff_in ps
  read_is o l e = e ∙ sym (cond-true (lawful (length ps) a b d) _ _ l) ∙ fields_read
