use Rattle.std.proofs.Common.{sym, ap, ◌∙◌, rules}
use Rattle.std.specs.Result.{result_ok}
use Rattle.decimal.proofs.Grouping.{group_unsealed}
use Rattle.decimal.proofs.reading.check_group.Goals as goal

pub returns-then-last-expected : goal.returns-then-last-expected
returns-then-last-expected c =
    let expected = c.ok_or.ensures.ok_part ∙ ap result_ok c.in_ok-expected.was in
    let last = c.ok_or-2.ensures.ok_part ∙ ap result_ok c.in_ok-last.was in
    group_unsealed c.args.before c.args.group.now c.in_ok-expected.expected c.in_ok-last.last (search rules)
    (sym expected ∙ c.check_digit_after.ensures.value) (sym last ∙ c.digit_of.ensures) c.if-last-expected.true
