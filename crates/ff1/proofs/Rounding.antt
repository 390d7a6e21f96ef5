-- One round number, and two rounds at a time, over plain values.
use Rattle.std.proofs.Common.{◌≡◌, ℕ, zero, suc, ◌+◌, ◌-◌, ◌*◌, ◌/◌, ◌%◌, ◌^◌, ◌<◌, ◌≤◌, List, sym, refl, ap, ◌∙◌, subst, ap₂, mod-eq_of_lt, arith, shl_exact}
use lib.Bits.{bit_xor}
use Rattle.chaining.specs.Blocks.{aes_block}
use Rattle.chaining.proofs.Numbers.{power_256}
use Rattle.feistel.specs.Feistel.{alternate, round, unround, run, unrun}
use Rattle.ff1.specs.Ff1.{drawn_bytes}
use Rattle.ff1.specs.Network.{masked}

pub round_is : (key : List ℕ) (mask b i x j y z : ℕ) → i < 10 → b ≤ 8 → x < 256 ^ b → j ≡ i → y ≡ x
    → z ≡ aes_block key (bit_xor mask (j * 2 ^ (8 * b) % 2 ^ 128 + y)) → z / 2 ^ (8 * (12 - (b + 3) / 4 * 4)) ≡ masked key mask b i x
unfolding masked
round_is key mask b i x j y z hi hb hx ej ey ez =
    let small : i < 2 ^ 4 = omega arith in
    let up : j * 2 ^ (8 * b) % 2 ^ 128 ≡ i % 256 * 256 ^ b =
    ap (λ (n : ℕ). n * 2 ^ (8 * b) % 2 ^ 128) ej ∙ shl_exact 4 (8 * b) 128 small (omega arith)
    ∙ ap₂ (λ (m n : ℕ). m * n) (sym (mod-eq_of_lt (let h : i < 256 = omega arith in h))) (sym (power_256 b)) in
    let d : 12 - (b + 3) / 4 * 4 ≡ 16 - drawn_bytes b = omega arith in
    ap₂ (λ (m n : ℕ). m / n)
    (ez ∙ ap₂ (λ (m n : ℕ). aes_block key (bit_xor mask (m + n))) up (ey ∙ sym (mod-eq_of_lt hx)))
    (sym (power_256 (12 - (b + 3) / 4 * 4)) ∙ ap (λ (n : ℕ). 256 ^ n) d)

even : (m n j : ℕ) → alternate m n (2 * j) ≡ m
even m n zero = refl
even m n (suc j) =
    let e : 2 * suc j ≡ suc (suc (2 * j)) = omega arith in
    ap (alternate m n) e ∙ even m n j

odd : (m n j : ℕ) → alternate m n (suc (2 * j)) ≡ n
odd m n zero = refl
odd m n (suc j) =
    let e : suc (2 * suc j) ≡ suc (suc (suc (2 * j))) = omega arith in
    ap (alternate m n) e ∙ odd m n j

-- two rounds from an even one on
two : (m n : ℕ) (F : ℕ → ℕ → ℕ) (k j a b : ℕ)
    → let p = (a + F (2 * j) b) % m in
    run (alternate m n) F (suc (suc k)) (2 * j) (a, b) ≡ run (alternate m n) F k (suc (suc (2 * j))) (p, (b + F (suc (2 * j)) p) % n)
unfolding run round
two m n F k j a b =
    ap₂ (λ (s t : ℕ). run (alternate m n) F k (suc (suc (2 * j))) ((a + F (2 * j) b) % s, (b + F (suc (2 * j)) ((a + F (2 * j) b) % s)) % t))
    (even m n j) (odd m n j)

pub two_more : (m n : ℕ) (F : ℕ → ℕ → ℕ) (j a b p q : ℕ) (G : ℕ × ℕ) → j < 5
    → p ≡ (a + F (2 * j) b) % m → q ≡ (b + F (2 * j + 1) p) % n
    → run (alternate m n) F (10 - 2 * j) (2 * j) (a, b) ≡ G
    → run (alternate m n) F (10 - 2 * (j + 1)) (2 * (j + 1)) (p, q) ≡ G
two_more m n F j a b p q G h hp hq inv =
    let e : 10 - 2 * j ≡ suc (suc (10 - 2 * (j + 1))) = omega arith in
    let f : 2 * (j + 1) ≡ suc (suc (2 * j)) = omega arith in
    let g : 2 * j + 1 ≡ suc (2 * j) = omega arith in
    let hq' : q ≡ (b + F (suc (2 * j)) ((a + F (2 * j) b) % m)) % n = hq ∙ ap₂ (λ (i x : ℕ). (b + F i x) % n) g hp in
    ap (λ (i : ℕ). run (alternate m n) F (10 - 2 * (j + 1)) i (p, q)) f
    ∙ ap₂ (λ (x y : ℕ). run (alternate m n) F (10 - 2 * (j + 1)) (suc (suc (2 * j))) (x, y)) hp hq'
    ∙ sym (two m n F (10 - 2 * (j + 1)) j a b)
    ∙ sym (ap (λ (k : ℕ). run (alternate m n) F k (2 * j) (a, b)) e)
    ∙ inv

pub ten_done : (m n : ℕ) (F : ℕ → ℕ → ℕ) (j : ℕ) (s G : ℕ × ℕ) → j ≡ 5 → run (alternate m n) F (10 - 2 * j) (2 * j) s ≡ G → s ≡ G
unfolding run
ten_done m n F j s G e inv = subst (λ (k : ℕ). run (alternate m n) F (10 - 2 * k) (2 * k) s ≡ G) e inv

-- ---- and back

-- before the rounds 2 j and 2 j + 1 are taken back, the rounds from 2 k on have been, where k is j + 1
pub two_less : (m n : ℕ) (F : ℕ → ℕ → ℕ) (k a b p q : ℕ) (s : ℕ × ℕ) → 0 < k → k ≤ 5
    → q ≡ (b + (n - F (2 * (k - 1) + 1) a % n)) % n → p ≡ (a + (m - F (2 * (k - 1)) q % m)) % m
    → (a, b) ≡ unrun (alternate m n) F (10 - 2 * k) (2 * k) s
    → (p, q) ≡ unrun (alternate m n) F (10 - 2 * (k - 1)) (2 * (k - 1)) s
unfolding unrun unround
two_less m n F k a b p q s h l hq hp inv =
    let j : ℕ = k - 1 in
    let e : 10 - 2 * j ≡ suc (suc (10 - 2 * k)) = omega arith in
    let g : 2 * k ≡ suc (suc (2 * j)) = omega arith in
    let i : 2 * j + 1 ≡ suc (2 * j) = omega arith in
    let U : ℕ × ℕ → ℕ × ℕ = λ t. unround (alternate m n) F (2 * j) (unround (alternate m n) F (suc (2 * j)) t) in
    let hq' : q ≡ (b + (n - F (suc (2 * j)) a % n)) % n = hq ∙ ap (λ (i : ℕ). (b + (n - F i a % n)) % n) i in
    let hp' : p ≡ (a + (m - F (2 * j) ((b + (n - F (suc (2 * j)) a % n)) % n) % m)) % m = hp ∙ ap (λ (y : ℕ). (a + (m - F (2 * j) y % m)) % m) hq' in
    let step : (p, q) ≡ U (a, b) =
    ap₂ (λ (x y : ℕ). (x, y)) hp' hq'
    ∙ sym (ap₂ (λ (s t : ℕ). ((a + (s - F (2 * j) ((b + (t - F (suc (2 * j)) a % t)) % t) % s)) % s, (b + (t - F (suc (2 * j)) a % t)) % t)) (even m n j) (odd m n j)) in
    step ∙ ap U (inv ∙ ap (λ (i : ℕ). unrun (alternate m n) F (10 - 2 * k) i s) g)
    ∙ sym (ap (λ (c : ℕ). unrun (alternate m n) F c (2 * j) s) e)

pub back_done : (m n : ℕ) (F : ℕ → ℕ → ℕ) (k : ℕ) (t s : ℕ × ℕ) → k ≡ 0
    → t ≡ unrun (alternate m n) F (10 - 2 * k) (2 * k) s → t ≡ unrun (alternate m n) F 10 0 s
back_done m n F k t s e inv = subst (λ (k : ℕ). t ≡ unrun (alternate m n) F (10 - 2 * k) (2 * k) s) e inv
