-- Checks one after the other, the first that fails refusing: provided (go on where a test holds), and_then (go on with what
-- passed), found (go on with what is there). Rules as a table: Rule, rule; checked (the first broken rule refuses), AllKept,
-- FirstBroken.
use Rattle.std.specs.Prelude.{◌≡◌, Bool, true, false, List, [], ◌∷◌, ◌++◌, Some, None, Ok, Err, Option, Result}
use Rattle.std.specs.List.{AllByRecursion}
use Rattle.refusal.specs.declared.Refusal.{Refusal}

-- the rest, where the test holds; else the refusal
abbrev pub provided : {X : Type 0} → Bool → Refusal → Result X Refusal → Result X Refusal
provided true e rest = rest
provided false e rest = Err e

-- the rest, from the value that passed; a refusal stays
abbrev pub and_then : {X Y : Type 0} → Result X Refusal → (X → Result Y Refusal) → Result Y Refusal
and_then (Ok x) rest = rest x
and_then (Err e) rest = Err e

-- the value that is there; else the refusal
abbrev pub found : {X : Type 0} → Option X → Refusal → Result X Refusal
found (Some x) e = Ok x
found None e = Err e

-- a rule: the refusal for breaking it, and whether it is kept
pub record Rule : Type 0 where
  pub refusal : Refusal
  pub kept : Bool

abbrev pub rule : Refusal → Bool → Rule
rule e b = record { refusal = e; kept = b }

-- the rest, where each rule is kept; else the refusal for the first that is broken
abbrev pub checked : {X : Type 0} → List Rule → Result X Refusal → Result X Refusal
checked [] rest = rest
checked (p ∷ ps) rest = provided p.kept p.refusal (checked ps rest)

-- each rule is kept
abbrev pub AllKept : List Rule → Type 0
AllKept rules = AllByRecursion (λ p. p.kept ≡ true) rules

-- the rules before it are kept, and this one is broken
pub record FirstBroken (rules : List Rule) (e : Refusal) : Type 0 where
  pub before : List Rule
  pub after : List Rule
  pub split : rules ≡ before ++ rule e false ∷ after
  pub upheld : AllKept before
