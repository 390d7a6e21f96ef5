use Rattle.std.proofs.Common.{◌≡◌, ℕ, length, sym, ap, ◌∙◌, arith, rules}
use Rattle.std.proofs.iter.runs.Sources.{range_runs}
use Rattle.throughput.specs.Laps.{repeated}
use Rattle.throughput.proofs.Repeating.{fold_repeats}
use Rattle.throughput.proofs.laps.laps.Goals as goal

pub returns : goal.returns
returns g c =
    let f = g.L.Lap.lapped c.args.operation.now in
    let run = c.fold.ensures.runs in
    let p = run.0 in
    let up = range_runs p p.seen in
    let long : length p.items ≡ c.args.count = omega (arith, sym p.long, up.1 run.2, ap (λ s. s.start) run.1, ap (λ s. s.end) run.1) in
    run.3 (λ n i. f n) (λ x y r q t. search rules) ∙ fold_repeats f c.args.start p.items ∙ ap (λ (k : ℕ). repeated k f c.args.start) long
