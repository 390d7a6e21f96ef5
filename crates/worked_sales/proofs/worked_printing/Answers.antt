use Rattle.std.proofs.Common.{refl}
use Rattle.decimal.specs.CheckDigits.{product, mapped, passes, running, whole, check_digit}
use Rattle.decimal.specs.Digits.{padded}
use Rattle.decimal.specs.Slips.{groups_after, text_of}
use Rattle.authenticator.specs.Sum.{byte_sum}
use Rattle.sealing.specs.Messages.{nonce, head, message, tag_field}
use Rattle.sale.specs.Slips.{tag_sold, sealed_blocks}
use Rattle.worked_sales.proofs.worked_printing.Goals as goal

pub returns : goal.returns
unfolding product mapped passes running whole check_digit byte_sum nonce head message tag_field tag_sold sealed_blocks groups_after text_of padded
returns c = record {
  first_slip = refl;
  fourth_slip = refl;
}
