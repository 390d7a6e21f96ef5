use Rattle.std.proofs.Common.{◌≡◌, ℕ, ◌+◌, ◌*◌, ◌/◌, ◌≤◌, true, List, [], length, get_or, sym, ap, ◌∙◌, arith}
use Rattle.std.specs.List.{between}
use Rattle.std.proofs.lemmas.List.{length-map}
use Rattle.std.proofs.lemmas.Result.{err_from_is_err_and}
use Rattle.decimal.specs.Digits.{values, up_to}
use Rattle.decimal.specs.Groups.{sealed_at, all_sealed}
use Rattle.decimal.proofs.Spelling.{under-values}
use Rattle.decimal.proofs.Bounded.{up_more}
use Rattle.decimal.proofs.Grouping.{before_digit, group_is, one_unsealed, one_sealed}
use Rattle.decimal.specs.Groups.{checked_group}
use Rattle.decimal.proofs.reading.check_groups.Goals as goal

pub check_group-requires : goal.check_group-requires
check_group-requires c =
    let t = c.args.text.now in
    let i = c.loop-group.group-index in
    let e = c.loop-group.invariant.1 in
    let l : 20 * i ≤ length (values t) = simp length-map (omega arith) in
    rw e (before_digit (values t) i (under-values t c.requires) l)

pub returns-in_err-check_group : goal.returns-in_err-check_group
returns-in_err-check_group c =
    let t = c.args.text.now in
    let i = c.loop-group.group-index in
    let b = c.loop-group.before in
    let g : get_or c.as_chunks.result.0.now i [] ≡ between (20 * i) (20 * i + 20) t = ap (λ (gs : List (List ℕ)). get_or gs i []) c.as_chunks.ensures.front ∙ group_is t i (omega arith) in
    let p = err_from_is_err_and c.from_residual.result c.from_residual.ensures.1 in
    rw (p.1, p.2) (one_unsealed tt t i b _ c.requires (omega arith) c.loop-group.invariant.1 (c.in_err-check_group.ensures ∙ ap (checked_group b) g))

pub loop-group-preserved : goal.loop-group-preserved
loop-group-preserved c =
    let t = c.args.text.now in
    let i = c.loop-group.group-index in
    let b = c.loop-group.before in
    let g : get_or c.as_chunks.result.0.now i [] ≡ between (20 * i) (20 * i + 20) t = ap (λ (gs : List (List ℕ)). get_or gs i []) c.as_chunks.ensures.front ∙ group_is t i (omega arith) in
    let w = one_sealed t i b c.in_ok-check_group.field-0 c.requires (omega arith) c.loop-group.invariant.1 (c.in_ok-check_group.ensures ∙ ap (checked_group b) g) in
    (up_more (sealed_at (values t)) i w.0 c.loop-group.invariant.0, w.1)

pub returns : goal.returns
unfolding all_sealed
returns c =
    let t = c.args.text.now in
    let n : c.loop-group.group-index ≡ length t / 20 = omega arith in
    let a : up_to (sealed_at (values t)) (length t / 20) ≡ true = sym (ap (up_to (sealed_at (values t))) n) ∙ c.loop-group.invariant.0 in
    rw a
