use Rattle.std.proofs.Common.{◌≡◌, ◌+◌, ◌<◌, drop}
use Rattle.std.specs.List.{list_all}
use Rattle.decimal.specs.Digits.{is_digit, values}
use Rattle.decimal.specs.CheckDigits.{running}
use Rattle.decimal.proofs.verhoeff.closing.Given as goal

-- what is left decides whether all are digits, and brings the product so far to that of the whole row
abbrev pub invariant-loop-i : goal.invariant-loop-i
invariant-loop-i l =
    (l.product < 10) × (list_all is_digit (drop l.i l.text) ≡ list_all is_digit l.text)
    × (running (l.place + l.i) l.product (values (drop l.i l.text)) ≡ running l.place l.start (values l.text))
