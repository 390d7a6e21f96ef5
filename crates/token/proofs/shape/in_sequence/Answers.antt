use Rattle.std.proofs.Common.{eqb, sym, ◌∙◌, rules, tests}
use Rattle.std.proofs.lemmas.Iterator.Search.{all_from_yields_List}
use Rattle.std.proofs.lemmas.Iterator.Consumers.{YieldsList-from_enumerate}
use Rattle.std.proofs.lemmas.Iterator.Adapters.{YieldsList-from_rev_slice}
use Rattle.token.specs.FurtherBlocks.{sequence_of}
use Rattle.token.proofs.Numbered.{sequenced_is}
use Rattle.token.proofs.shape.in_sequence.Goals as goal

pub returns : goal.returns
returns c =
    let bs = c.args.further.now in
    all_from_yields_List (λ p. eqb (sequence_of p.1) p.0) _ _ _ c.all.ensures.ran
    (YieldsList-from_enumerate (YieldsList-from_rev_slice bs (cc)) (cc)) (λ x b q k. search (rules, tests))
    ∙ sym (sequenced_is bs)
