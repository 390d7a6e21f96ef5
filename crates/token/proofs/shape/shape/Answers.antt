use Rattle.std.proofs.Common.{◌≡◌, false, ◌&&◌, ◌∷◌, length, drop, Some, None, Ok, Err, Option, ℕ, arith, sym, ap, ◌∙◌, rules}
use Rattle.std.specs.Option.{ok_or}
use Rattle.std.proofs.lemmas.Result.{err_from_is_err_and}
use Rattle.refusal.specs.Checks.{found}
use Rattle.refusal.specs.declared.Refusal.{Refusal}
use Rattle.refusal.specs.declared.Refusal.TheVariants.{OtherSubClass, WrongBlocks}
use Rattle.token.specs.SubClasses.{takes, sub_class_of}
use Rattle.token.specs.FurtherBlocks.{sequenced}
use Rattle.token.specs.Shapes.{sub_class_in, shape_of}
use Rattle.token.proofs.Shapes.{read_as, shape_empty, shape_refused, shape_wrong_at, shape_ok_at, judged}
use Rattle.token.proofs.shape.shape.Goals as goal
use Rattle.token.proofs.shape.shape.Goals.{After-try_from}

err_ok_or : {X : Type 0} (o : Option X) (e x : Refusal) → o ≡ None → Err e ≡ ok_or o x → e ≡ x
err_ok_or None e x n h = cc
err_ok_or (Some y) e x n h = absurd (let z : ◌≡◌ {A = ℕ} 0 1 = cc in omega arith)

-- the first block and those after it
split : (c : After-try_from) → c.args.blocks.now ≡ c.in_ok-block.block.now ∷ c.in_ok-block.further.now
split c = (rw c.in_ok-block.ensures.ok_part at c.split_first.ensures.cases).0

-- what the first block is read as
read : (c : After-try_from) → c.try_from.result ≡ found (sub_class_of (sub_class_in c.args.blocks.now)) OtherSubClass
read c =
    read_as c.in_ok-block.block.now c.in_ok-block.further.now c.of.result c.try_from.result c.of.ensures.value c.try_from.ensures
    ∙ ap (λ bs. found (sub_class_of (sub_class_in bs)) OtherSubClass) (sym (split c))

pub returns-in_err-block : goal.returns-in_err-block
returns-in_err-block c =
    let bs = c.args.blocks.now in
    let p = err_from_is_err_and c.from_residual.result c.from_residual.ensures.1 in
    let n : length bs ≡ 0 = rw c.in_err-block.ensures.ok_part at c.split_first.ensures.cases in
    let x : c.in_err-block.field-0.0 ≡ WrongBlocks = err_ok_or _ _ _ c.in_err-block.ensures.ok_part c.in_err-block.ensures.value in
    let v : c.from_residual.result ≡ shape_of bs = p.1 ∙ ap Err (p.2 ∙ x) ∙ shape_empty bs n in
    record { value = v; judged = judged bs _ v }

pub returns-in_err-subclass : goal.returns-in_err-subclass
returns-in_err-subclass c =
    let bs = c.args.blocks.now in
    let r = c.from_residual-in_err-subclass.result in
    let p = err_from_is_err_and r c.from_residual-in_err-subclass.ensures.1 in
    let v : r ≡ shape_of bs = p.1 ∙ ap Err p.2 ∙ shape_refused bs _ (sym c.in_err-subclass.was ∙ read (goal.at.returns-in_err-subclass c).After-try_from) in
    record { value = v; judged = judged bs _ v }

pub returns-then-not-takes : goal.returns-then-not-takes
returns-then-not-takes c =
    let bs = c.args.blocks.now in
    let k = c.in_ok-subclass.subclass in
    let f : (takes k (length bs) && sequenced (drop 1 bs)) ≡ false = search rules in
    let v = shape_wrong_at bs k (sym c.in_ok-subclass.was ∙ read (goal.at.returns-then-not-takes c).After-try_from) f in
    record { value = v; judged = judged bs (Err WrongBlocks) v }

pub returns : goal.returns
returns c =
    let bs = c.args.blocks.now in
    let k = c.in_ok-subclass.subclass in
    let v = shape_ok_at bs k (sym c.in_ok-subclass.was ∙ read (goal.at.returns c).After-try_from)
    (sym c.takes.ensures ∙ c.if-not-takes.false)
    ((λ i. sequenced (drop 1 (split (goal.at.returns c).After-try_from i))) ∙ sym c.in_sequence.ensures ∙ c.if-not-in_sequence.false) in
    record { value = v; judged = judged bs (Ok k) v }
