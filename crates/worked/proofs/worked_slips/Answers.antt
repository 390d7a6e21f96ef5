use Rattle.std.proofs.Common.{refl}
use Rattle.decimal.specs.CheckDigits.{product, mapped, passes, running, whole, check_digit}
use Rattle.decimal.specs.Groups.{sealed_at, number_at, has_block, grouped, all_digits, all_sealed, all_blocks, blocks_in, blocks_of}
use Rattle.window.specs.Bits.{bit, bits_of}
use Rattle.window.specs.Recovery.{number_for, in_reach}
use Rattle.window.specs.Marks.{marked, with_mark, counted}
use Rattle.authenticator.specs.Sum.{byte_sum}
use Rattle.sealing.specs.Messages.{nonce, head, message, tag_field}
use Rattle.entry.specs.Reading.{slip_read}
use Rattle.entry.specs.Rules.{authentic}
use Rattle.entry.specs.Judging.{judged}
use Rattle.worked.proofs.worked_slips.Goals as goal

pub returns : goal.returns
unfolding product mapped passes running whole check_digit sealed_at number_at has_block grouped all_digits all_sealed all_blocks blocks_in blocks_of bit bits_of number_for in_reach marked with_mark counted byte_sum nonce head message tag_field slip_read authentic judged
returns c = record {
  first_check_digit = refl;
  second_check_digit = refl;
  two_groups = (refl, (refl, (refl, (refl, (refl, (refl, tt))))));
  lowest_number = refl;
  new_window = refl;
  middle_window = refl;
  last_window = refl;
  first_entry = refl;
  second_entry = refl;
  third_entry = refl;
  fourth_entry = refl;
}
