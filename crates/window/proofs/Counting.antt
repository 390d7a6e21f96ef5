-- Counting a number: what the window tells then (is_counted, counts, highest_counted, marked-counted, not_counted), and what a
-- window tells at all (highest_marked, marked_above, marked_zero, marked_old, marked_in_lem, marked-blank).
use Rattle.std.proofs.Common.{◌≡◌, ℕ, ◌+◌, ◌-◌, ◌^◌, ◌<◌, ◌≤◌, max, true, false, cond, ◌&&◌, ◌||◌, eqb, ltb, sym, refl, ap, ◌∙◌, ⊎_elim, arith, ltb→lt, pow_mono}
use Rattle.std.proofs.lemmas.Bool.{lt-ltb, cases_lt, cases_order, both_ways, cond-true, cond-false}
use Rattle.std.proofs.lemmas.Bool.Decides.{nat_tests}
use Rattle.window.specs.Limits.{room}
use Rattle.window.specs.Bits.{bit, bits_of}
use Rattle.window.specs.Recovery.{in_window}
use Rattle.window.specs.Marks.{blank_window, marked, marked_in, stays, with_mark, counted, Counted}
use Rattle.window.specs.declared.state.Window.{Window}
use Rattle.window.proofs.BitLaws.{bit_small}
use Rattle.window.proofs.MarkLaws.{bits_are, bit_of, same_window}

-- of a number below the highest, the mark is its bit
pub below-bit : (w : Window) (i : ℕ) → i < w.highest - 1 → marked w (w.highest - 1 - i) ≡ bit w.marks i
unfolding marked
below-bit w i h =
    let t : ltb (w.highest - 1 - i) w.highest ≡ true = lt-ltb _ _ (omega arith) in
    let e : w.highest - 1 - (w.highest - 1 - i) ≡ i = omega arith in
    rw (t, e)

-- past the 126 numbers there are no marks
pub far_bit : (w : Window) (i : ℕ) → room w.highest ≤ i → bit w.marks i ≡ false
far_bit w i h =
    let fits : w.marks < 2 ^ room w.highest = ltb→lt w.marks (2 ^ room w.highest) w.ok in
    bit_small w.marks i (omega (arith, fits, pow_mono h))

pub highest_marked : (w : Window) → 0 < w.highest → marked w w.highest ≡ true
unfolding marked
highest_marked w h = grind (arith, nat_tests)

pub marked_above : (w : Window) (k : ℕ) → w.highest < k → marked w k ≡ false
unfolding marked
marked_above w k h = grind (arith, nat_tests)

pub marked_old : (w : Window) (k : ℕ) → k + 126 < w.highest → marked w k ≡ false
unfolding marked
marked_old w k h =
    let f = far_bit w (w.highest - 1 - k) (omega arith) in
    grind (arith, nat_tests, f)

pub marked_zero : (w : Window) → marked w 0 ≡ false
unfolding marked
marked_zero w =
    let f = far_bit w (w.highest - 1 - 0) (omega arith) in
    grind (arith, nat_tests, f)

-- a marked number is above 0, not above the highest, and at most 126 below it
pub marked_in_lem : (w : Window) (k : ℕ) → marked w k ≡ true → (0 < k) × (k ≤ w.highest) × (w.highest ≤ k + 126)
marked_in_lem w k e =
    let none : marked w k ≡ false → ⊥ = λ f. both_ways (marked w k) f e in (
      ⊎_elim (λ (z : k ≡ 0). absurd (none (ap (marked w) z ∙ marked_zero w))) (⊎_elim (λ (l : k < 0). absurd (omega arith)) (λ (l : 0 < k). l)) (cases_order k 0),
      ⊎_elim (λ (l : w.highest < k). absurd (none (marked_above w k l))) (λ (l : k ≤ w.highest). l) (cases_lt w.highest k),
      ⊎_elim (λ (l : k + 126 < w.highest). absurd (none (marked_old w k l))) (λ (l : w.highest ≤ k + 126). l) (cases_lt (k + 126) w.highest),
    )

pub marked-blank : (k : ℕ) → marked blank_window k ≡ false
unfolding marked
marked-blank k = grind (arith, nat_tests)

-- what the code's window tells makes it the one that is defined
pub is_counted : (w : Window) (n : ℕ) (r : Window) → Counted w n r → r ≡ with_mark w n
unfolding with_mark
is_counted w n r c =
    let top = c.top in
    let small : r.marks < 2 ^ room r.highest = ltb→lt r.marks (2 ^ room r.highest) r.ok in
    let each : (i : ℕ) → i < room r.highest → bit r.marks i ≡ stays w n r.highest i =
    λ i h. sym (below-bit r i (omega arith)) ∙ c.told (r.highest - 1 - i) (omega arith) (omega arith) in
    let e : r.marks ≡ bits_of (room r.highest) (stays w n r.highest) = bits_are (room r.highest) r.marks (stays w n r.highest) small each in
    same_window top (e ∙ ap (λ t. bits_of (room t) (stays w n t)) top)

-- and the defined window tells it
told_then : (w : Window) (n k : ℕ) → 0 < k → max w.highest n ≤ k + 126 → marked (with_mark w n) k ≡ (marked w k || eqb k n)
unfolding marked with_mark
told_then w n k p q =
    let top = max w.highest n in
    ⊎_elim
    (λ (l : k < max w.highest n).
    let b = bit_of (room top) (stays w n top) (top - 1 - k) (omega arith) in
    let e : top - 1 - (top - 1 - k) ≡ k = omega arith in
    let t : ltb k top ≡ true = lt-ltb k top l in
    rw t (b ∙ ap (λ j. marked w j || eqb j n) e))
    (λ (l : max w.highest n ≤ k). grind (arith, nat_tests))
    (cases_lt k top)

pub counts : (w : Window) (n : ℕ) → Counted w n (with_mark w n)
unfolding with_mark
counts w n = record { top = refl; told = λ k. told_then w n k }

-- counting a number of the window, and any other
pub in_counted : (w : Window) (n : ℕ) → in_window w.highest n ≡ true → counted w n ≡ with_mark w n
unfolding counted
in_counted w n e = cond-true (in_window w.highest n) (with_mark w n) w e

pub not_counted : (w : Window) (n : ℕ) → in_window w.highest n ≡ false → counted w n ≡ w
unfolding counted
not_counted w n e = cond-false (in_window w.highest n) (with_mark w n) w e

pub highest_counted : (w : Window) (n : ℕ) → in_window w.highest n ≡ true → (counted w n).highest ≡ max w.highest n
highest_counted w n e = ap (λ v. v.highest) (in_counted w n e) ∙ (counts w n).top

pub marked-counted : (w : Window) (n k : ℕ) → in_window w.highest n ≡ true → 0 < k → (counted w n).highest ≤ k + 126 →
    marked (counted w n) k ≡ (marked w k || eqb k n)
marked-counted w n k e p q =
    let t = highest_counted w n e in
    ap (λ v. marked v k) (in_counted w n e) ∙ told_then w n k p (omega (arith, t, q))

-- the marks after a number above the highest is counted
pub raised : (w : Window) (n r left : ℕ) → w.highest < n → left ≡ room n →
    ((i : ℕ) → i < left → bit r i ≡ cond (ltb i (n - w.highest)) (ltb 0 w.highest && eqb (i + 1) (n - w.highest)) (bit w.marks (i - (n - w.highest)))) →
    (k : ℕ) → 0 < k → n ≤ k + 126 → marked_in n r k ≡ (marked w k || eqb k n)
unfolding marked
raised w n r left h e bits k p q = ⊎_elim
    (λ (l : k < n).
    let b = bits (n - 1 - k) (omega arith) in
    ⊎_elim
    (λ (o : k < w.highest). let s : n - 1 - k - (n - w.highest) ≡ w.highest - 1 - k = omega arith in let b2 = rw s at b in grind (arith, nat_tests, b2))
    (λ (o : w.highest ≤ k). grind (arith, nat_tests, b))
    (cases_lt k w.highest))
    (λ (l : n ≤ k). grind (arith, nat_tests))
    (cases_lt k n)

-- the marks after a number below the highest is counted
pub lowered : (w : Window) (n r : ℕ) → n < w.highest → 0 < n →
    ((i : ℕ) → bit r i ≡ cond (eqb i (w.highest - 1 - n)) true (bit w.marks i)) →
    (k : ℕ) → 0 < k → w.highest ≤ k + 126 → marked_in w.highest r k ≡ (marked w k || eqb k n)
unfolding marked
lowered w n r h o bits k p q = let b = bits (w.highest - 1 - k) in grind (arith, nat_tests, b)

-- and the highest itself
pub counted_again : (w : Window) (k : ℕ) → 0 < k → marked w k ≡ (marked w k || eqb k w.highest)
unfolding marked
counted_again w k p = grind (arith, nat_tests)
