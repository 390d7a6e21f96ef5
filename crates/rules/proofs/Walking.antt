-- Rules in the order of their numbers: Below, InOrder; walked where all are kept (walk_kept), and up to the first that is broken
-- (walk_broken); what the number of a refusal tells: numbered, Listed. Assumes nothing.
use Rattle.std.proofs.Common.{◌≡◌, ℕ, suc, ◌-◌, ◌<◌, ◌≤◌, false, List, [], ◌∷◌, ◌++◌, get_or, Decides, sym, refl, ap, ◌∙◌, subst, ⊎_elim, arith}
use Rattle.std.proofs.lemmas.Bool.{both_ways, cases_lt}
use Rattle.refusal.specs.Numbers.{number_of}
use Rattle.refusal.specs.Checks.{Rule, rule, AllKept}
use Rattle.refusal.specs.declared.Refusal.{Refusal}
use Rattle.refusal.specs.declared.Refusal.TheVariants.{Length, NotADigit, CheckDigit, NoBlock, OtherSubClass, WrongBlocks, IndexFull, OutsideWindow, WrongTag, AlreadyCounted, ReservedConfig, RatePrices, AboveCeiling, NoWrites, SpendAmount, SpendAboveCredit, Settings, Sale, TillIndexFull, NoMoreNumbers, ShortMemory, WriteBehindLength}

-- the refusal of a number
abbrev pub numbered : ℕ → Refusal
numbered n =
    get_or (Length ∷ NotADigit ∷ CheckDigit ∷ NoBlock ∷ OtherSubClass ∷ WrongBlocks ∷ IndexFull ∷ OutsideWindow ∷ WrongTag ∷ AlreadyCounted
    ∷ ReservedConfig ∷ RatePrices ∷ AboveCeiling ∷ NoWrites ∷ SpendAmount ∷ SpendAboveCredit ∷ Settings ∷ Sale ∷ TillIndexFull
    ∷ NoMoreNumbers ∷ ShortMemory ∷ WriteBehindLength ∷ []) (n - 1) Length

-- a refusal has a number from 1 on, and is the one of its number; if it is not for entries, nothing is said
pub record Listed (says : Refusal → Type 0) (f : Refusal) : Type 0 where
  pub some : 1 ≤ number_of f
  pub own : numbered (number_of f) ≡ f
  pub other : 14 < number_of f → says f

-- refusals of one number are one
same : (says : Refusal → Type 0) → ((f : Refusal) → Listed says f) → (e f : Refusal) → number_of e ≡ number_of f → e ≡ f
same says listed e f p = sym (listed e).own ∙ ap numbered p ∙ (listed f).own

-- every rule with a number below n is kept
abbrev pub Below : (Refusal → Type 0) → ℕ → Type 0
Below says n = (f : Refusal) → number_of f < n → says f

-- rules with the numbers from n to 14, each decided by its test where the rules before it are kept
abbrev pub InOrder : (Refusal → Type 0) → ℕ → List Rule → Type 0
InOrder says n [] = n ≡ 15
InOrder says n (p ∷ ps) = (number_of p.refusal ≡ n) × Decides p.kept (says p.refusal) × (says p.refusal → InOrder says (suc n) ps)

-- one rule more is kept
further : (says : Refusal → Type 0) → ((f : Refusal) → Listed says f) → (n : ℕ) (e : Refusal) → number_of e ≡ n → Below says n → says e →
    Below says (suc n)
further says listed n e here b h f l =
    ⊎_elim
    (λ (lt : number_of f < n). b f lt)
    (λ (ge : n ≤ number_of f). subst says (same says listed e f (omega arith)) h)
    (cases_lt (number_of f) n)

-- where every test holds, every rule is kept
pub walk_kept : (says : Refusal → Type 0) → ((f : Refusal) → Listed says f) → (n : ℕ) (rules : List Rule) →
    InOrder says n rules → Below says n → AllKept rules → Below says 15
walk_kept says listed n [] o b k = subst (Below says) o b
walk_kept says listed n (p ∷ ps) o b k =
    let h = o.1.0 k.0 in
    walk_kept says listed (suc n) ps (o.2 h) (further says listed n p.refusal o.0 b h) k.1

-- where a test is the first that fails, its rule is broken, and every rule with a smaller number is kept
pub walk_broken : (says : Refusal → Type 0) → ((f : Refusal) → Listed says f) → (n : ℕ) (before after : List Rule) (e : Refusal) →
    InOrder says n (before ++ rule e false ∷ after) → Below says n → AllKept before → Below says (number_of e) × (says e → ⊥)
walk_broken says listed n [] after e o b k = let here = o.0 in (λ f l. b f (omega arith), λ h. both_ways false refl (o.1.1 h))
walk_broken says listed n (p ∷ ps) after e o b k =
    let h = o.1.0 k.0 in
    walk_broken says listed (suc n) ps after e (o.2 h) (further says listed n p.refusal o.0 b h) k.1
