use Rattle.std.proofs.Common.{◌≡◌, Some, None, eqb, vec_items, sym, refl, ap, ◌∙◌, subst}
use Rattle.std.specs.List.{position}
use Rattle.journal.specs.Hands.{Gains}
use Rattle.till_ledger.proofs.Hands.{missing, named, gains_removed}
use Rattle.till_ledger.proofs.hand.take_from.Goals as goal

pub returns-in_err-place-clause-found : goal.returns-in_err-place-clause-found
returns-in_err-place-clause-found c =
    let ds = vec_items c.args.hand.now in
    let n = c.args.number in
    let none : None ≡ position (λ d. eqb d.number n) ds = c.in_err-place.ensures ∙ ap (position (λ d. eqb d.number n)) c.as_slice.ensures.value in
    rw c.from_residual.ensures (missing ds n none, refl)

pub returns-clause-found : goal.returns-clause-found
returns-clause-found c =
    let ds = vec_items c.args.hand.now in
    let n = c.args.number in
    let some : Some c.in_ok-place.place ≡ position (λ d. eqb d.number n) ds = c.in_ok-place.ensures ∙ ap (position (λ d. eqb d.number n)) c.as_slice.ensures.value in
    let at = named ds n c.in_ok-place.place c.remove.result some in
    let is : c.remove.result.number ≡ n = ap (λ d. d.number) c.remove.ensures.value ∙ at.1 in
    (is, subst (λ es. Gains n es ds) (sym c.remove.ensures.items) (gains_removed ds c.in_ok-place.place n c.remove.result at.0 c.remove.ensures.value is))
