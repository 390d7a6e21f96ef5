-- A list in a fixed number of places, with one more number: one_more.
use Rattle.std.proofs.Common.{ℕ, List, ◌≡◌, ◌<◌, ◌≤◌, ◌-◌, ◌+◌, drop, replicate, slice_set, ap, ◌∙◌, sym, arith}
use Rattle.std.proofs.lemmas.List.{drop-set-lt, length-set, length-take-le, drop-drop, drop-replicate}
use Rattle.words.specs.Listing.{Kept}

-- one more is used, whether a place used before or the next one is written, and those behind them are zero as before
pub one_more : (most n k : ℕ) (ws : List ℕ) (w : ℕ) → Kept most n ws → n < most → k ≤ n → Kept most (n + 1) (slice_set ws k w)
one_more most n k ws w kept room at =
    let places = length-set ws k w ∙ kept.places in
    let left : most - n - 1 ≡ most - (n + 1) = omega arith in
    record {
      fits = omega (arith, room);
      places = places;
      rest =
          drop-set-lt (n + 1) ws k w (omega (arith, at)) ∙ sym (drop-drop 1 n ws) ∙ ap (drop 1) kept.rest
          ∙ drop-replicate 1 (most - n) 0 ∙ ap (λ (z : ℕ). replicate z 0) left;
      used = length-take-le (n + 1) (slice_set ws k w) (omega (arith, room, places));
    }
