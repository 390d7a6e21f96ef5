-- Marks are known by their bits (bit_of, bits_are), and a window by its highest number and its marks (same_window).
use Rattle.std.proofs.Common.{◌≡◌, ℕ, zero, suc, ◌+◌, ◌*◌, ◌/◌, ◌%◌, ◌^◌, ◌<◌, ◌≤◌, Bool, true, false, cond, T, eqb, ltb, Some, sym, refl, ap, ◌∙◌, subst, ⊎_elim, add-zero, mod-eq_of_lt, add_comm, arith}
use mathlib.Core.HLevel.{is_prop→PathP}
use native.Mathlib.Nat.{div-eq_of_lt, mod-one, add-mod_right, add-div_right}
use lib.Dec.{T_prop}
use Rattle.std.proofs.lemmas.Nat.{mod-pow-add, pow_pos}
use Rattle.std.proofs.lemmas.Bool.{le-ltb, cases_lt}
use Rattle.window.specs.Limits.{markable}
use Rattle.window.specs.Bits.{bit, bits_of, bits_of_lt}
use Rattle.window.specs.Marks.{window_of}
use Rattle.refusal.proofs.Making.{so}
use Rattle.window.specs.declared.state.Window.{Window}
use Rattle.window.proofs.BitLaws.{bit_mod}

flag : (b p : ℕ) → b < 2 → b * p ≡ cond (eqb b 1) p 0
flag zero p h = omega arith
flag (suc zero) p h = omega arith
flag (suc (suc b)) p h = absurd (omega arith)

bits_back : (k m : ℕ) → bits_of k (bit m) ≡ m % 2 ^ k
unfolding bits_of bit
bits_back zero m = sym (mod-one m)
bits_back (suc k) m =
    let e : m % 2 ^ (1 + k) ≡ (m / 2 ^ k % 2 ^ 1) * 2 ^ k + m % 2 ^ k = mod-pow-add m 1 k in
    let s : 1 + k ≡ suc k = omega arith in
    ap (λ x. x + cond (eqb (m / 2 ^ k % 2) 1) (2 ^ k) 0) (bits_back k m)
    ∙ ap (λ x. m % 2 ^ k + x) (sym (flag (m / 2 ^ k % 2) (2 ^ k) (omega arith)))
    ∙ add_comm (m % 2 ^ k) (m / 2 ^ k % 2 * 2 ^ k)
    ∙ sym e ∙ ap (λ x. m % 2 ^ x) s

bits_same : (k : ℕ) (f g : ℕ → Bool) → ((i : ℕ) → i < k → f i ≡ g i) → bits_of k f ≡ bits_of k g
unfolding bits_of
bits_same zero f g h = refl
bits_same (suc k) f g h =
    let e = bits_same k f g (λ i l. h i (omega arith)) in
    let t = h k (omega arith) in
    rw (e, t)

-- the number with given bits
pub bits_are : (k m : ℕ) (f : ℕ → Bool) → m < 2 ^ k → ((i : ℕ) → i < k → bit m i ≡ f i) → m ≡ bits_of k f
bits_are k m f l h = sym (bits_back k m ∙ mod-eq_of_lt l) ∙ bits_same k (bit m) f h

-- one bit above the others leaves them, and is seen
low_part : (a k : ℕ) (b : Bool) → a < 2 ^ k → (a + cond b (2 ^ k) 0) % 2 ^ k ≡ a
low_part a k true l = add-mod_right a (2 ^ k) ∙ mod-eq_of_lt l
low_part a k false l = ap (λ x. x % 2 ^ k) (add-zero a) ∙ mod-eq_of_lt l

high_bit : (a k : ℕ) (b : Bool) → a < 2 ^ k → bit (a + cond b (2 ^ k) 0) k ≡ b
unfolding bit
high_bit a k true l =
    let e : (a + 2 ^ k) / 2 ^ k ≡ 1 = add-div_right a (pow_pos k) ∙ ap (λ x. x + 1) (div-eq_of_lt l) in
    ap (λ x. eqb (x % 2) 1) e
high_bit a k false l =
    let e : (a + 0) / 2 ^ k ≡ 0 = ap (λ x. x / 2 ^ k) (add-zero a) ∙ div-eq_of_lt l in
    ap (λ x. eqb (x % 2) 1) e

-- the bits of the number with given bits
pub bit_of : (k : ℕ) (f : ℕ → Bool) (i : ℕ) → i < k → bit (bits_of k f) i ≡ f i
unfolding bits_of
bit_of zero f i h = absurd (omega arith)
bit_of (suc k) f i h =
    let l = bits_of_lt k f in
    ⊎_elim
    (λ (s : i < k). sym (bit_mod (bits_of k f + cond (f k) (2 ^ k) 0) k i s) ∙ ap (λ m. bit m i) (low_part (bits_of k f) k (f k) l) ∙ bit_of k f i s)
    (λ (s : k ≤ i). let e : i ≡ k = omega arith in rw e (high_bit (bits_of k f) k (f k) l))
    (cases_lt i k)

-- windows of equal highest number and marks are equal, since there is at most one proof that no mark lies outside
pub same_window : {w v : Window} → w.highest ≡ v.highest → w.marks ≡ v.marks → w ≡ v
same_window {w} {v} h m = λ i. record {
  highest = h i;
  marks = m i;
  ok = is_prop→PathP (λ j. T (markable (h j) (m j))) (λ j. T_prop (markable (h j) (m j))) w.ok v.ok i;
}

-- a window is made again of its highest number and its marks
pub window_back : (w : Window) → window_of w.highest w.marks ≡ Some w
window_back w = sym (so (markable w.highest w.marks) (λ p. record { highest = w.highest; marks = w.marks; ok = p }) w.ok)

-- a number with something above its lowest k bits is not below 2 ^ k
pub over : (m k j : ℕ) → k ≡ j → (m / 2 ^ k ≡ 0 → ⊥) → ltb m (2 ^ j) ≡ false
over m k j e some =
    let low : 2 ^ k ≤ m = ⊎_elim (λ h. absurd (some (div-eq_of_lt h))) (λ h. h) (cases_lt m (2 ^ k)) in
    le-ltb m (2 ^ j) (subst (λ (x : ℕ). 2 ^ x ≤ m) e low)
