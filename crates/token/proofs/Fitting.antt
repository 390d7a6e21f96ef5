-- The fields of rate prices fit their widths, which take 59 bits. Assumes nothing.
use Rattle.std.proofs.Common.{◌≡◌, ℕ, zero, suc, ◌+◌, ◌-◌, ◌*◌, ◌/◌, ◌^◌, ◌<◌, ◌≤◌, Bool, true, false, leb, List, [], ◌∷◌, get_or, arith}
use native.Mathlib.Nat.{pow-le-pow_right}
use mir.Val.{bool_byte}
use Rattle.std.proofs.lemmas.Nat.{pow_pos, mod_below}
use Rattle.std.proofs.lemmas.Bool.{and_parts, leb-true}
use Rattle.token.specs.Widths.{total, unpacked, Fit}
use Rattle.token.specs.Limits.{under}
use Rattle.token.specs.RateLayout.{first_part_widths, second_part_widths, third_part_widths, PricesSmall, FieldsSmall}
use Rattle.token.specs.declared.size.Size.{Size}
use Rattle.refusal.proofs.Making.{holds}
use Rattle.token.specs.RatePrices.{fits, first_part_fields, second_part_fields, third_part_fields}
use Rattle.token.specs.declared.tariff.Tariff.{Tariff}
use Rattle.token.proofs.Tariffs.{under_at, limited}

pub size_small : (t : Tariff) (s : ℕ) → fits t s ≡ true → s ≤ 3
size_small t s h = leb-true s 3 (and_parts (leb s 3) (under (2 ^ (11 + s)) t.prices) h).0

pub price_fits : (t : Tariff) (s : ℕ) → fits t s ≡ true → (i : ℕ) → get_or t.prices i 0 < 2 ^ (11 + s)
price_fits t s h i = under_at (2 ^ (11 + s)) t.prices i (pow_pos (11 + s)) (and_parts (leb s 3) (under (2 ^ (11 + s)) t.prices) h).1

flag_fits : (b : Bool) → bool_byte b < 2 ^ 1
flag_fits true = omega arith
flag_fits false = omega arith

pub fit_first : (t : Tariff) (s : ℕ) → fits t s ≡ true → Fit (first_part_widths s) (first_part_fields t s)
fit_first t s h =
    let l = limited t in
    let k = size_small t s h in
    let p = price_fits t s h in
    (flag_fits t.complete, (omega arith, (omega arith, (l.month, (omega arith, (omega arith, (omega arith, (p 0, (p 1, (pow_pos (13 - 2 * s), tt))))))))))

pub fit_second : (t : Tariff) (s : ℕ) → fits t s ≡ true → Fit (second_part_widths s) (second_part_fields t)
fit_second t s h = let p = price_fits t s h in (p 2, (p 3, (p 4, (p 5, (pow_pos (15 - 4 * s), tt)))))

pub fit_third : (t : Tariff) (s : ℕ) → fits t s ≡ true → Fit (third_part_widths s) (third_part_fields t)
fit_third t s h = let p = price_fits t s h in (p 6, (p 7, (pow_pos (37 - 2 * s), tt)))

pub first_59 : (s : ℕ) → s ≤ 3 → total (first_part_widths s) ≡ 59
first_59 s h = omega arith

pub second_59 : (s : ℕ) → s ≤ 3 → total (second_part_widths s) ≡ 59
second_59 s h = omega arith

pub third_59 : (s : ℕ) → s ≤ 3 → total (third_part_widths s) ≡ 59
third_59 s h = omega arith

-- the fields of a word are below what their widths say
pub part_below : (ws : List ℕ) (n i : ℕ) → get_or (unpacked ws n) i 0 < 2 ^ get_or ws i 0
part_below [] n i = omega arith
part_below (w ∷ ws) n zero = mod_below (n / 2 ^ total ws) (2 ^ w) (pow_pos w)
part_below (w ∷ ws) n (suc i) = part_below ws n i

wide : (s : ℕ) → s ≤ 3 → 2 ^ (11 + s) ≤ 2 ^ 14
wide s h = pow-le-pow_right {n = 2} (omega arith) {i = 11 + s} {j = 14} (omega arith)

pub coded : (s : Size) → s.code ≤ 3
coded s = leb-true s.code 3 (holds (leb s.code 3) s.ok)

-- what is read of the parts is small
pub first_small : (s : Size) (n : ℕ) → FieldsSmall (unpacked (first_part_widths s.code) n)
first_small s n =
    let k = wide s.code (coded s) in
    let b = part_below (first_part_widths s.code) n in
    record { month = b 3; number = b 4; multiplier = b 5; prices = (omega (arith, b 7, k), (omega (arith, b 8, k), tt)) }

pub second_small : (s : Size) (n : ℕ) → PricesSmall 0 4 (unpacked (second_part_widths s.code) n)
second_small s n =
    let k = wide s.code (coded s) in
    let b = part_below (second_part_widths s.code) n in
    (omega (arith, b 0, k), (omega (arith, b 1, k), (omega (arith, b 2, k), (omega (arith, b 3, k), tt))))

pub third_small : (s : Size) (n : ℕ) → PricesSmall 0 2 (unpacked (third_part_widths s.code) n)
third_small s n =
    let k = wide s.code (coded s) in
    let b = part_below (third_part_widths s.code) n in
    (omega (arith, b 0, k), (omega (arith, b 1, k), tt))
