use Rattle.std.proofs.Common.{sym, ◌∙◌}
use Rattle.window.proofs.Counting.{is_counted, in_counted}
use Rattle.window.proofs.state.Window.count.Goals as goal

pub returns-clause-value : goal.returns-clause-value
returns-clause-value c =
    let w = c.args.self in
    is_counted w c.args.n c.counting.result c.counting.ensures ∙ sym (in_counted w c.args.n (sym c.if-not-holds.ensures))
