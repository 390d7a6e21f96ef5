use Rattle.std.proofs.Common.{◌≡◌, ◌<◌, ◌||◌, eqb, sym, ap, ◌∙◌, arith, rules}
use Rattle.window.specs.Limits.{room}
use Rattle.window.specs.Marks.{marked, marked_in}
use Rattle.window.proofs.Counting.{raised, lowered, counted_again}
use Rattle.window.proofs.state.Window.counting.Goals as goal
use Rattle.window.proofs.state.Window.counting.Goals.{in-Less, in-Equal, in-Greater}

pub returns : goal.returns
unfolding marked
returns c =
    let s = c.args.self in
    let n = c.args.n in
    let top = c.max-highest.result in
    elim c.match-cmp.branch [
      | in-Less w ↦
          let l : n < s.highest = search rules in
          let t : top ≡ s.highest = omega arith in
          record { top = omega arith; told = λ k p q. (λ i. marked_in (t i) (w.marks-is i) k) ∙ lowered s n w.with-marks.result l c.requires.some w.with-marks.ensures.bits k p (omega arith) }
      | in-Equal w ↦
          let l : n ≡ s.highest = search rules in
          let t : top ≡ s.highest = omega arith in
          record { top = omega arith; told = λ k p q. (λ i. marked_in (t i) (w.marks-is i) k) ∙ counted_again s k p ∙ ap (λ m. marked s k || eqb k m) (sym l) }
      | in-Greater w ↦
          let l : s.highest < n = search rules in
          let t : top ≡ n = omega arith in
          record { top = omega arith; told = λ k p q. (λ i. marked_in (t i) (w.marks-is i) k) ∙ raised s n w.moved-marks.result c.mark_count-left.result l (c.mark_count-left.ensures.value ∙ ap room t) w.moved-marks.ensures.bits k p (omega arith) }
    ]
