-- Two lists of rules that come to the same: where one is kept so is the other, and the first broken is the same. kept_passes,
-- broken_refuses, same_kept, same_broken.
use Rattle.std.proofs.Common.{◌≡◌, ℕ, false, List, [], ◌∷◌, ◌++◌, Ok, Err, Result, sym, refl, ap, ◌∙◌}
use Rattle.refusal.specs.Checks.{provided, Rule, rule, checked, AllKept, FirstBroken}
use Rattle.refusal.specs.declared.Refusal.{Refusal}
use Rattle.refusal.proofs.Passing.{checked_ok, checked_err}

-- rules that are kept go on to the rest
kept_passes : {X : Type 0} (rules : List Rule) (rest : Result X Refusal) → AllKept rules → checked rules rest ≡ rest
kept_passes [] rest h = refl
kept_passes (p ∷ ps) rest h = ap (λ b. provided b p.refusal (checked ps rest)) h.0 ∙ kept_passes ps rest h.1

-- rules of which one is the first broken refuse for it
broken_refuses : {X : Type 0} (before after : List Rule) (e : Refusal) (rest : Result X Refusal) → AllKept before → checked (before ++ rule e false ∷ after) rest ≡ Err e
broken_refuses before after e rest h = kept_then before ∙ kept_passes before (Err e) h
  where
    kept_then : (ps : List Rule) → checked (ps ++ rule e false ∷ after) rest ≡ checked ps (Err e)
    kept_then [] = refl
    kept_then (p ∷ ps) = ap (provided p.kept p.refusal) (kept_then ps)

pub same_kept : (ps qs : List Rule) → checked {X = ℕ} ps (Ok 0) ≡ checked qs (Ok 0) → AllKept qs → AllKept ps
same_kept ps qs same h = (checked_ok ps 0 0 (same ∙ kept_passes qs (Ok 0) h)).0

pub same_broken : (ps qs : List Rule) (e : Refusal) → checked {X = ℕ} ps (Ok 0) ≡ checked qs (Ok 0) → FirstBroken ps e → FirstBroken qs e
same_broken ps qs e same h =
    checked_err qs 0 e (sym same ∙ ap (λ (rules : List Rule). checked rules (Ok 0)) h.split ∙ broken_refuses h.before h.after e (Ok 0) h.upheld)
