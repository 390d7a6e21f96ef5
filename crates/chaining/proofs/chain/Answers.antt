use Rattle.std.proofs.Common.{◌≡◌, ℕ, List, ap, ◌∙◌, arith, rules}
use Rattle.std.proofs.lemmas.List.{take_all}
use lib.Bits.{bit_xor}
use Rattle.chaining.specs.Blocks.{block_of, blocks_of, chained}
use Rattle.chaining.proofs.Chaining.{fold_is}
use Rattle.chaining.proofs.chain.Goals as goal

pub returns : goal.returns
returns g c =
    let f = g.M.BlockMap.mapped c.args.map.now in
    let run = c.fold.ensures.runs in
    let p = run.0 in
    let cut = c.chunks.ensures.runs p p.seen (omega (arith, ap (λ s. s.size) run.1, c.chunks.ensures.size)) in
    -- what is cut into blocks is the whole row, in whatever way the code names it
    let whole : _ ≡ c.args.bytes.now = search (rules, arith, take_all) in
    let xs = ap (λ s. s.rest.now) run.1 ∙ c.chunks.ensures.rest ∙ whole in
    run.3 (λ z b. f (bit_xor z (block_of b.now))) (λ y b r q t. search rules)
    ∙ fold_is p run.2 _ _ cut (ap (λ s. s.size) run.1 ∙ c.chunks.ensures.size) f c.args.start
    ∙ ap (λ (ys : List ℕ). chained f c.args.start (blocks_of ys)) xs
