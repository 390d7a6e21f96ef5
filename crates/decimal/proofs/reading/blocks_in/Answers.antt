use Rattle.std.proofs.Common.{◌≡◌, ℕ, ◌+◌, ◌-◌, ◌*◌, ◌&&◌, ◌++◌, ◌≤◌, ◌∷◌, leb, List, [], length, get_or, take, Ok, Result, ap, ◌∙◌, arith, rules}
use Rattle.std.specs.List.{between}
use Rattle.std.specs.Int.Digits.{number_from_digits}
use Rattle.std.proofs.lemmas.List.FromFn.{length-map-range_with_len}
use Rattle.std.proofs.lemmas.Result.{err_from_is_err_and}
use Rattle.refusal.specs.declared.Refusal.{Refusal}
use Rattle.refusal.specs.declared.Refusal.TheVariants.{NoBlock}
use Rattle.refusal.specs.Checks.{provided}
use Rattle.decimal.specs.Digits.{values}
use Rattle.decimal.specs.Groups.{lowest, is_block, block_at}
use Rattle.decimal.proofs.Grouping.{group_is, group_digits_all, block_there, blocks_more, one_unblocked, grouped-fits}
use Rattle.decimal.proofs.Bounded.{up_more}
use Rattle.std.proofs.lemmas.List.{take_all, length-append}
use Rattle.decimal.proofs.reading.blocks_in.Goals as goal

-- what the text of a group comes to
abbrev block_from : ℕ → List ℕ → Result ℕ Refusal
block_from i g =
    let n = number_from_digits 10 (values (take 19 g)) in
    provided (leb (lowest i) n && is_block (n - lowest i)) NoBlock (Ok (n - lowest i))

pub returns-in_err-block_of : goal.returns-in_err-block_of
returns-in_err-block_of c =
    let t = c.args.text.now in
    let i = c.loop-i.i in
    let g : get_or c.as_chunks.result.0.now i [] ≡ between (20 * i) (20 * i + 20) t = ap (λ (gs : List (List ℕ)). get_or gs i []) c.as_chunks.ensures.front ∙ group_is t i (omega arith) in
    let p = err_from_is_err_and c.from_residual.result c.from_residual.ensures.1 in
    rw (p.1, p.2) (one_unblocked _ t i _ (omega arith) (c.in_err-block_of.ensures ∙ ap (block_from i) g ∙ block_there t i (omega arith)))

pub loop-i-preserved : goal.loop-i-preserved
loop-i-preserved c =
    let fits = (grouped-fits c.args.text.now c.requires.whole).2 in
    let so_far = c.loop-i.blocks.items in
    let count = ap length c.loop-i.invariant.1 ∙ length-map-range_with_len (block_at (values c.args.text.now)) 0 c.loop-i.i in
    let more = so_far ++ c.in_ok-block_of.field-0 ∷ [] in
    let room : length more ≤ 4 = rw (length-append so_far (c.in_ok-block_of.field-0 ∷ [])) (omega (arith, count, fits)) in
    let pushed = c.push.ensures ∙ take_all 4 more room in
    search (rules, arith, pushed, group_is, group_digits_all, block_there, blocks_more, up_more)
