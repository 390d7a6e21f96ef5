-- The network over what was prepared is FF1: for any radix, length and tweak that there is room for, and at the two widths of a cipher.
use Rattle.std.proofs.Common.{◌≡◌, ℕ, ◌-◌, ◌*◌, ◌/◌, ◌%◌, ◌^◌, ◌<◌, ◌≤◌, true, cond, leb, List, length, Some, None, sym, refl, ap, ◌∙◌, subst, ap₂, arith, lit≤}
use mathlib.Core.Path.{Cosingl, contract'}
use native.Mathlib.Nat.{one-le-pow}
use Rattle.aes.specs.Keyed.{aes_for, key_of}
use Rattle.aes.specs.declared.state.Aes128.{Aes128}
use Rattle.cipher.specs.Widths.{bits}
use Rattle.cipher.specs.declared.width.Width.{Width}
use Rattle.cipher.specs.declared.width.Width.TheVariants.{First, Further}
use Rattle.feistel.specs.Feistel.{run, unrun, alternate, halves, whole, forward, backward}
use Rattle.feistel.proofs.Undoing.{parts}
use Rattle.ff1.specs.Ff1.{byte_count, half_bytes, ff1, ff1_back}
use Rattle.ff1.specs.Sizes.{sizes_of, allowed, room_for, Sized}
use Rattle.ff1.specs.Network.{through, back_through}
use Rattle.ff1.specs.Preparing.{rounds_of, prepared_for}
use Rattle.ff1.specs.Ciphering.{ff1_for}
use Rattle.ff1.specs.declared.rounds.Rounds.{Rounds}
use Rattle.ff1.specs.declared.rounds.Sizes.{Sizes}
use Rattle.ff1.specs.declared.rounds.Prepared.{Prepared}
use Rattle.ff1.specs.declared.state.Ff1.{Ff1}
use Rattle.ff1.proofs.Powers.{passed, both_true, allowed_means, sized}
use Rattle.ff1.proofs.Chaining.{round_same}

pub through_is : (r n : ℕ) (key tweak : List ℕ) (x : ℕ) → half_bytes r n ≤ 8 → through key (rounds_of r n key tweak) x ≡ ff1 r n key tweak x
unfolding ff1 forward
through_is r n key tweak x few =
    let u : ℕ = r ^ (n / 2) in
    let v : ℕ = r ^ (n - n / 2) in
    sym (ap (λ (F : ℕ → ℕ → ℕ). whole v (run (alternate u v) F 10 0 (halves v x))) (round_same r n key tweak few))

pub back_is : (r n : ℕ) (key tweak : List ℕ) (x : ℕ) → half_bytes r n ≤ 8 → back_through key (rounds_of r n key tweak) x ≡ ff1_back r n key tweak x
unfolding ff1_back backward
back_is r n key tweak x few =
    let u : ℕ = r ^ (n / 2) in
    let v : ℕ = r ^ (n - n / 2) in
    sym (ap (λ (F : ℕ → ℕ → ℕ). whole v (unrun (alternate u v) F 10 0 (halves v x))) (round_same r n key tweak few))

-- ---- rounds that were prepared for a radix and a length

pub record Ready (r n : ℕ) (key tweak : List ℕ) (R : Rounds) : Type 0 where
  pub is : R ≡ rounds_of r n key tweak
  pub few : half_bytes r n ≤ 8
  pub sizes : Sized R.sizes
  pub product : R.sizes.left * R.sizes.right ≡ r ^ n
  pub some : 0 < r ^ n

pub ready : (r n : ℕ) (key tweak : List ℕ) (R : Rounds) → 2 ≤ r → r ^ (n - n / 2) ≤ 2 ^ 63 → R ≡ rounds_of r n key tweak → Ready r n key tweak R
ready r n key tweak R h l e =
    record {
      is = e;
      few = (sized r n h l).few;
      sizes = subst (λ (Q : Rounds). Sized Q.sizes) (sym e) (sized r n h l);
      product = ap (λ (Q : Rounds). Q.sizes.left * Q.sizes.right) e ∙ sym (parts r n);
      some = one-le-pow n r (omega arith);
    }

-- what the rounds make of the low part of a number
module _ (r n : ℕ) (key tweak : List ℕ) (R : Rounds) (h : Ready r n key tweak R) (y x : ℕ) (e : x ≡ y % r ^ n) where
  pub enciphered : (z : ℕ) → z ≡ through key R x → z ≡ ff1 r n key tweak (y % r ^ n)
  enciphered z ez = ez ∙ ap₂ (through key) h.is e ∙ through_is r n key tweak (y % r ^ n) h.few

  pub deciphered : (z : ℕ) → z ≡ back_through key R x → z ≡ ff1_back r n key tweak (y % r ^ n)
  deciphered z ez = ez ∙ ap₂ (back_through key) h.is e ∙ back_is r n key tweak (y % r ^ n) h.few

-- a test that was passed for radix, length and tweak
pub ready_there : (r n : ℕ) (key tweak : List ℕ) (R : Rounds)
    → Some R ≡ cond (room_for r n tweak) (Some (rounds_of r n key tweak)) None
    → ((room_for r n tweak) ≡ true) × Ready r n key tweak R
ready_there r n key tweak R e =
    let p = passed (room_for r n tweak) (rounds_of r n key tweak) R (sym e) in
    let m = allowed_means r n (both_true (allowed r n) (leb (length tweak) 255) p.0).0 in
    (p.0, ready r n key tweak R m.0 m.2 (sym p.1))

-- ---- the two widths of a cipher

width_fits : (w : Width) → 2 ^ (bits w - bits w / 2) ≤ 2 ^ 63
width_fits First = lit≤ tt
width_fits Further = lit≤ tt

pub width_ready : (w : Width) (key tweak : List ℕ) (R : Rounds) → R ≡ rounds_of 2 (bits w) key tweak → Ready 2 (bits w) key tweak R
width_ready w key tweak R e = ready 2 (bits w) key tweak R (lit≤ tt) (width_fits w) e

pub width_few : (w : Width) → half_bytes 2 (bits w) ≤ 8
width_few w = (sized 2 (bits w) (lit≤ tt) (width_fits w)).few

-- the sizes of a width, where b is its count of bits
pub binary_is : (w : Width) (b : ℕ) → b ≡ bits w → ◌≡◌ {A = Sizes} (record { left = 1 * 2 ^ (b / 2) % 2 ^ 64; right = 1 * 2 ^ (b - b / 2) % 2 ^ 64; bytes = 4 }) (sizes_of 2 (bits w))
unfolding half_bytes byte_count
binary_is First b e = ap (λ (k : ℕ). record { left = 1 * 2 ^ (k / 2) % 2 ^ 64; right = 1 * 2 ^ (k - k / 2) % 2 ^ 64; bytes = 4 }) e
binary_is Further b e = ap (λ (k : ℕ). record { left = 1 * 2 ^ (k / 2) % 2 ^ 64; right = 1 * 2 ^ (k - k / 2) % 2 ^ 64; bytes = 4 }) e

-- a value with a key, a MeterID and what is prepared for them is the one that they make
pub made : (key : List ℕ) (meter : ℕ) (a : Aes128) (p : Prepared) (e : p ≡ prepared_for (key_of a) meter) → a ≡ aes_for key
    → ◌≡◌ {A = Ff1} (record { aes = a; meter = meter; prepared = p; kept = e }) (ff1_for key meter)
made key meter a p e q =
    sym (ap (λ (t : Cosingl (prepared_for (key_of a) meter)). record { aes = a; meter = meter; prepared = t.0; kept = t.1 }) (contract' e))
    ∙ ap (λ (b : Aes128). record { aes = b; meter = meter; prepared = prepared_for (key_of b) meter; kept = refl }) q
