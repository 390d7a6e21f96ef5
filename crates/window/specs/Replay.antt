-- No number is counted twice, over any run of numbers: Countable, AllCounted, Distinct, NoReplay.
use Rattle.std.specs.Prelude.{◌≡◌, ℕ, true, false, List, [], ◌∷◌, ◌≢◌}
use Rattle.std.specs.List.{AllByRecursion}
use Rattle.window.specs.Recovery.{in_window}
use Rattle.window.specs.Marks.{marked, counted}
use Rattle.window.specs.declared.state.Window.{Window}

-- n may be counted: it is in the window and has no mark
pub record Countable (w : Window) (n : ℕ) : Type 0 where
  pub within : in_window w.highest n ≡ true
  pub fresh : marked w n ≡ false

-- the numbers are counted one after the other, and each may be when its turn comes
abbrev pub AllCounted : Window → List ℕ → Type 0
AllCounted w [] = Unit {0}
AllCounted w (n ∷ ns) = Countable w n × AllCounted (counted w n) ns

-- no two are equal
abbrev pub Distinct : List ℕ → Type 0
Distinct [] = Unit {0}
Distinct (n ∷ ns) = AllByRecursion (λ k. n ≢ k) ns × Distinct ns

-- The law of counting: from any window on, the numbers counted are all different.
abbrev pub NoReplay : Type 0
NoReplay = (w : Window) (ns : List ℕ) → AllCounted w ns → Distinct ns
