-- Packing and unpacking undo one another, for every list of widths. Assumes nothing.
use Rattle.std.proofs.Common.{◌≡◌, ℕ, ◌+◌, ◌*◌, ◌/◌, ◌%◌, ◌^◌, ◌<◌, List, [], ◌∷◌, sym, refl, ap, ◌∙◌, mod-eq_of_lt, arith}
use native.Mathlib.Nat.{mod-mod, mod-one}
use lib.Pow.{mod-mod-pow}
use Rattle.std.proofs.lemmas.Nat.{pow_pos, pow-add, field_of, mod-pow-add, mod_below, shr_high, mod_low, mul-add-lt}
use Rattle.token.specs.Widths.{total, packed, unpacked, Fit, Packs}

fit : (ws : List ℕ) (n : ℕ) → Fit ws (unpacked ws n)
fit [] n = tt
fit (w ∷ ws) n = (mod_below (n / 2 ^ total ws) (2 ^ w) (pow_pos w), fit ws n)

below : (ws vs : List ℕ) → Fit ws vs → packed ws vs < 2 ^ total ws
below [] [] f = omega arith
below (w ∷ ws) [] f = absurd f
below [] (v ∷ vs) f = absurd f
below (w ∷ ws) (v ∷ vs) f =
    let l = mul-add-lt v (2 ^ total ws) (packed ws vs) (2 ^ w) f.0 (below ws vs f.1) in
    omega (arith, l, pow-add 2 w (total ws))

-- what lies above the fields does not matter
unpacked_mod : (ws : List ℕ) (n : ℕ) → unpacked ws (n % 2 ^ total ws) ≡ unpacked ws n
unpacked_mod [] n = refl
unpacked_mod (w ∷ ws) n =
    let t = total ws in
    let h : n % 2 ^ (w + t) / 2 ^ t % 2 ^ w ≡ n / 2 ^ t % 2 ^ w = ap (λ m. m % 2 ^ w) (field_of n w t) ∙ mod-mod (n / 2 ^ t) (2 ^ w) in
    let r : unpacked ws (n % 2 ^ (w + t)) ≡ unpacked ws n = sym (unpacked_mod ws (n % 2 ^ (w + t))) ∙ ap (unpacked ws) (mod-mod-pow n w t) ∙ unpacked_mod ws n in
    rw (h, r)

there : (ws vs : List ℕ) → Fit ws vs → unpacked ws (packed ws vs) ≡ vs
there [] [] f = refl
there [] (v ∷ vs) f = absurd f
there (w ∷ ws) [] f = absurd f
there (w ∷ ws) (v ∷ vs) f =
    let t = total ws in
    let n = v * 2 ^ t + packed ws vs in
    let l = below ws vs f.1 in
    let h : n / 2 ^ t % 2 ^ w ≡ v = ap (λ m. m % 2 ^ w) (shr_high v t (packed ws vs) l) ∙ mod-eq_of_lt f.0 in
    let r : unpacked ws n ≡ vs = sym (unpacked_mod ws n) ∙ ap (unpacked ws) (mod_low v t (packed ws vs) l) ∙ there ws vs f.1 in
    rw (h, r)

back_mod : (ws : List ℕ) (n : ℕ) → packed ws (unpacked ws n) ≡ n % 2 ^ total ws
back_mod [] n = sym (mod-one n)
back_mod (w ∷ ws) n = ap (λ m. (n / 2 ^ total ws % 2 ^ w) * 2 ^ total ws + m) (back_mod ws n) ∙ sym (mod-pow-add n w (total ws))

pub packs : (ws : List ℕ) → Packs ws
packs ws = record {
  fit = fit ws;
  below = below ws;
  there = there ws;
  back = λ n h. back_mod ws n ∙ mod-eq_of_lt h;
}
