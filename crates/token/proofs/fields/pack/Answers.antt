use Rattle.std.proofs.Common.{◌≡◌, ⊎_elim, inl, inr, arith}
use Rattle.token.specs.Widths.{packed}
use Rattle.token.proofs.Packs.{packs}
use Rattle.token.proofs.Turns.{Turn, turn, in_word, left_none}
use Rattle.token.proofs.fields.pack.Goals as goal
use Rattle.token.proofs.fields.pack.Goals.{In-Some}

here : (c : In-Some) → Turn c.in-Some.width.now c.in-Some.value.now c.next.new.self.a.rest.now c.next.new.self.b.rest.now (packed c.args.widths.now c.args.values.now) c.loop-width.word
here c =
    let h = c.in-Some.ensures.steps in
    turn _ _ _ _ _ _ (in_word c.args.widths.now c.args.values.now c.requires.fits c.requires.room) (rw (h.0, h.1) at c.loop-width.invariant)

pub overflow_shl-word : goal.overflow_shl-word
overflow_shl-word c = (here (goal.at.overflow_shl-word c).In-Some).narrow

pub overflow_add-word : goal.overflow_add-word
overflow_add-word c = omega (arith, (here (goal.at.overflow_add-word c).In-Some).fits)

pub loop-width-preserved : goal.loop-width-preserved
loop-width-preserved c = (here (goal.at.loop-width-preserved c).In-Some).next

pub returns : goal.returns
returns c =
    let ws = c.args.widths.now in
    let vs = c.args.values.now in
    let e : c.loop-width.word ≡ packed ws vs = left_none _ _ _ _ c.loop-width.invariant (⊎_elim (λ p. inl p.1.0) (λ p. inr p.1.0) c.in-None.ensures.steps) in
    record { value = e; bound = rw e ((packs ws).below vs c.requires.fits) }
