-- A number that is counted is spent, and stays so; so none is counted twice (no_replay).
use Rattle.std.proofs.Common.{◌≡◌, ℕ, ◌+◌, ◌<◌, ◌≤◌, true, eqb, ◌⊎◌, List, [], ◌∷◌, sym, refl, ap, ◌∙◌, inl, inr, ⊎_elim, arith}
use Rattle.std.specs.List.{AllByRecursion}
use Rattle.std.proofs.lemmas.Bool.{eq-eqb, or_left, or_right, cases_lt, both_ways, and_parts, leb-true}
use Rattle.window.specs.Recovery.{lowest}
use Rattle.window.specs.Marks.{marked, counted}
use Rattle.window.specs.Replay.{Countable, AllCounted, NoReplay}
use Rattle.window.specs.declared.state.Window.{Window}
use Rattle.window.proofs.Counting.{highest_counted, marked-counted}

-- a number that is marked, or too old to have a mark
pub record Spent (w : Window) (k : ℕ) : Type 0 where
  pub real : 0 < k
  pub gone : (k + 126 < w.highest) ⊎ (marked w k ≡ true)

stays : (w : Window) (n k : ℕ) → Countable w n → Spent w k → Spent (counted w n) k
stays w n k a s =
    let t = highest_counted w n a.within in
    record {
      real = s.real;
      gone = ⊎_elim
          (λ (l : k + 126 < (counted w n).highest). inl l)
          (λ (l : (counted w n).highest ≤ k + 126). inr (marked-counted w n k a.within s.real l ∙ or_left (marked w k) (eqb k n) (⊎_elim
          (λ (o : k + 126 < w.highest). absurd (omega (arith, t, l, o)))
          (λ (m : marked w k ≡ true). m) s.gone)))
          (cases_lt (k + 126) (counted w n).highest);
    }

spends : (w : Window) (n : ℕ) → Countable w n → Spent (counted w n) n
spends w n a =
    let t = highest_counted w n a.within in
    let low = leb-true (lowest w.highest) n (and_parts _ _ a.within).0 in
    record {
      real = omega (arith, low);
      gone = inr (marked-counted w n n a.within (omega (arith, low)) (omega (arith, t, low)) ∙ or_right (marked w n) (eqb n n) (eq-eqb n n refl));
    }

-- what is spent is not countable
fresh : (w : Window) (n k : ℕ) → Countable w n → Spent w k → k ≡ n → ⊥
fresh w n k a s e =
    let low = leb-true (lowest w.highest) n (and_parts _ _ a.within).0 in
    ⊎_elim
    (λ (o : k + 126 < w.highest). omega (arith, o, low, e))
    (λ (m : marked w k ≡ true). both_ways (marked w n) a.fresh (sym (ap (marked w) e) ∙ m))
    s.gone

later : (w : Window) (ns : List ℕ) (k : ℕ) → AllCounted w ns → Spent w k → AllByRecursion (λ n. k ≡ n → ⊥) ns
later w [] k all s = tt
later w (n ∷ ns) k all s = (fresh w n k all.0 s, later (counted w n) ns k all.1 (stays w n k all.0 s))

pub no_replay : NoReplay
no_replay w [] all = tt
no_replay w (n ∷ ns) all = (later (counted w n) ns n all.1 (spends w n all.0), no_replay (counted w n) ns all.1)
