-- The number that ten bits stand for. In a run of at most 1,024 numbers: ends_next, next_of. In the window: as_ends, as_stands;
-- reached (what recovery answers stands in the window), stands_for (a number of the window is the one that its own ten bits stand for).
use Rattle.std.proofs.Common.{◌≡◌, ℕ, ◌+◌, ◌-◌, ◌%◌, ◌<◌, ◌≤◌, true, refl, arith}
use Rattle.std.proofs.lemmas.Bool.{ltb-true, leb-true, lt-ltb, le-leb, and_parts, and_from}
use Rattle.window.specs.Recovery.{Ends, next_ending, reaches, lowest, uppermost, span, Stands, number_for, in_reach}

pub ends_next : (first count low : ℕ) → reaches first count low ≡ true → Ends first count low (next_ending first low)
ends_next first count low e =
    let a = and_parts _ _ e in
    let b = and_parts _ _ a.1 in
    let ten = ltb-true low 1024 a.0 in
    let near = ltb-true (next_ending first low) (first + count) b.0 in
    let fits = leb-true (next_ending first low) 4294967295 b.1 in
    record { from = omega arith; before = near; fits = fits; tail = omega arith }

pub next_of : (first count low n : ℕ) → count ≤ 1024 → Ends first count low n → (reaches first count low ≡ true) × (next_ending first low ≡ n)
next_of first count low n l e =
    let s : next_ending first low ≡ n = near first n low e.from (omega arith) e.tail in
    let ten : low < 1024 = omega arith in
    let next = next_ending first low in
    let inside : next < first + count = omega arith in
    let fits : next ≤ 4294967295 = omega arith in
    (and_from _ _ (lt-ltb low 1024 ten) (and_from _ _ (lt-ltb next (first + count) inside) (le-leb next 4294967295 fits)), s)
  where
    near : (first n low : ℕ) → first ≤ n → n < first + 1024 → n % 1024 ≡ low → first + (low + 1024 - first % 1024) % 1024 ≡ n
    near first n low f u t = omega arith

-- the window is a run of at most 1,024 numbers
pub as_ends : (h first count low n : ℕ) → first ≡ lowest h → count ≡ span h → Stands h low n → Ends first count low n
as_ends h first count low n f c s =
    let a = and_parts _ _ s.within in
    let from = leb-true (lowest h) n a.0 in
    let upto = leb-true n (uppermost h) a.1 in
    record { from = omega arith; before = omega arith; fits = omega arith; tail = s.tail }

pub as_stands : (h first count low n : ℕ) → first ≡ lowest h → count ≡ span h → Ends first count low n → Stands h low n
as_stands h first count low n f c e =
    let from = e.from in
    let before = e.before in
    record {
      within = and_from _ _ (le-leb (lowest h) n (omega arith)) (le-leb n (uppermost h) (omega arith));
      tail = e.tail;
    }

pub reached : (h low : ℕ) → in_reach h low ≡ true → Stands h low (number_for h low)
unfolding number_for in_reach
reached h low e = as_stands h (lowest h) (span h) low _ refl refl (ends_next (lowest h) (span h) low e)

pub stands_for : (h low n : ℕ) → Stands h low n → (in_reach h low ≡ true) × (number_for h low ≡ n)
unfolding number_for in_reach
stands_for h low n s = next_of (lowest h) (span h) low n (omega arith) (as_ends h (lowest h) (span h) low n refl refl s)
