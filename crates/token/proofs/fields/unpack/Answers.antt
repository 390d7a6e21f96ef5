use Rattle.std.proofs.Common.{◌≡◌, ℕ, ◌*◌, ◌%◌, ◌^◌, ◌<◌, replicate, sym, ◌∙◌, arith, rules}
use lib.ListN.{length-replicate}
use Rattle.std.proofs.lemmas.Nat.{one_shl, pow_pos}
use Rattle.token.proofs.Turns.{Back, turn_back, behind_none}
use Rattle.token.proofs.fields.unpack.Given.{Over}
use Rattle.token.proofs.fields.unpack.Goals as goal
use Rattle.token.proofs.fields.unpack.Goals.{In-Some}

here : (g : Over) (c : In-Some g) → Back c.args.widths.now c.loop-i.fields c.next.new.self.iter.iter.rest.now c.args.word c.loop-i.left c.in-Some.width.now c.in-Some.i
here g c =
    let h = c.in-Some.ensures.steps in
    turn_back c.args.widths.now c.loop-i.fields _ _ c.args.word c.loop-i.left _ _ h.1.0 (omega (arith, h.1.1, c.loop-i.invariant.first)) c.loop-i.invariant.behind

narrow : (g : Over) (c : In-Some g) → c.in-Some.width.now < 64
narrow g c = omega (arith, (here g c).narrow, c.requires.room)

pub loop-i-init : goal.loop-i-init
loop-i-init g c =
    let b = behind_none c.args.widths.now (replicate g.row.N 0) c.args.word (length-replicate {A = ℕ} g.row.N 0 ∙ sym c.requires.long) in
    let i = c.into_iter-i-iterator.result in
    let start : i.iter.count ≡ 0 = search rules in
    let all : i.iter.iter.rest.now ≡ c.args.widths.now = search rules in
    record { first = start; behind = rw all b }

pub overflow_shl-fields : goal.overflow_shl-fields
overflow_shl-fields g c = narrow g (goal.at.overflow_shl-fields g c).In-Some

pub nonzero_rem-fields : goal.nonzero_rem-fields
nonzero_rem-fields g c =
    let w = c.in-Some.width.now in
    omega (arith, one_shl w 64 (narrow g (goal.at.nonzero_rem-fields g c).In-Some), pow_pos w)

pub overflow_shr-left : goal.overflow_shr-left
overflow_shr-left g c = narrow g (goal.at.overflow_shr-left g c).In-Some

pub loop-i-preserved : goal.loop-i-preserved
loop-i-preserved g c =
    let s = (goal.at.loop-i-preserved g c).In-Some in
    let h = c.in-Some.ensures.steps in
    let w = c.in-Some.width.now in
    let whole : 1 * 2 ^ w % 2 ^ 64 ≡ 2 ^ w = one_shl w 64 (narrow g s) in
    record { first = h.0 ∙ c.loop-i.invariant.first; behind = rw whole (here g s).next }
