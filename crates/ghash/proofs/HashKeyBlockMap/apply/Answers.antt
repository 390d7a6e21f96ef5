use Rattle.std.proofs.Common.{◌≡◌, ℕ, ◌+◌, length, Option, IfSome, sym, ap, ◌∙◌, subst, arith, rules}
use Rattle.std.specs.Iterator.Runs.{YieldsRun}
use Rattle.std.proofs.iter.runs.Sources.{range_runs}
use Rattle.std.proofs.lemmas.Option.{IfSome_then}
use Rattle.ghash.proofs.Horner.{turn, fold_is}
use Rattle.ghash.proofs.HashKeyBlockMap.apply.Goals as goal

pub returns : goal.returns
unfolding YieldsRun
returns c =
    let h = c.args.self.now in
    let run = c.fold.ensures.runs in
    let p = run.0 in
    let up = range_runs p p.seen in
    let from : p.from.start ≡ 0 = ap (λ s. s.start) run.1 in
    let long : length p.items ≡ 32 = omega (arith, sym p.long, up.1 run.2, from, ap (λ s. s.end) run.1) in
    run.3 (turn c.args.block h.key h.products h.kept) (λ x y r q t. search rules)
    ∙ fold_is c.args.block h.key h.products h.kept p.items long
    (λ k. subst (λ (o : Option ℕ). IfSome o (λ x. x ≡ 0 + k)) (p.gave.1 k) (IfSome_then (p.at k) (up.2 k) (λ x m. omega (arith, m.0, from))))
