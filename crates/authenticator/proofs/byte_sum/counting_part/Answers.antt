use Rattle.std.proofs.Common.{◌≡◌, length, take, min, ap, ◌∙◌, arith}
use Rattle.std.proofs.lemmas.List.{take_min}
use Rattle.authenticator.proofs.byte_sum.counting_part.Goals as goal

pub returns-clause-part : goal.returns-clause-part
returns-clause-part c =
    let xs = c.args.message.now in
    ap (λ n. take n xs) (let e : c.min.result ≡ min 64 (length xs) = omega (arith, c.min.ensures) in e) ∙ take_min 64 xs
