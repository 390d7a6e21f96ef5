use Rattle.std.proofs.Common.{◌≡◌, ℕ, ◌<◌, length, get_or, Some, sym, ap, ◌∙◌, rules}
use mir.Syntax.{w32}
use Rattle.std.specs.Int.{from_be_bytes}
use Rattle.std.specs.Int.Digits.{number_from_digits}
use Rattle.std.proofs.ByRecursion.{All-from_get_or}
use Rattle.image.specs.Images.{decoded}
use Rattle.image.specs.declared.content.Image.{Image}
use Rattle.image.proofs.Chains.{decoded_chain}
use Rattle.image.proofs.Numbers.{be_four}
use Rattle.image.proofs.Images.{image_back, image_long}
use Rattle.image.proofs.reading.read_image.Goals as goal

pub returns : goal.returns
returns c =
    let bytes = c.args.memory.now in
    let told : Image = record { kept = c.in_ok-kept.kept; writes = c.from_be_bytes.result } in
    let four : length c.in_ok-writes.writes.now ≡ 4 = search rules in
    let number : c.from_be_bytes.result ≡ number_from_digits 256 c.in_ok-writes.writes.now = c.from_be_bytes.ensures ∙ ap (from_be_bytes w32) c.array.ensures ∙ be_four c.in_ok-writes.writes.now four in
    let plain : Some (record { kept = c.in_ok-kept.kept; writes = number_from_digits 256 c.in_ok-writes.writes.now }) ≡ decoded bytes = rw (decoded_chain bytes) (search rules) in
    let value : Some told ≡ decoded bytes = (λ i. Some (record { kept = c.in_ok-kept.kept; writes = number i })) ∙ plain in
    let small : (i : ℕ) → get_or bytes i 0 < 256 = λ i. search rules in
    record {
      value = value;
      written = image_back bytes told (All-from_get_or (λ (b : ℕ). b < 256) bytes 0 (λ i h. small i)) (sym value);
      room = image_long bytes told (sym value);
    }

pub returns-in_err-fields-clause-value : goal.returns-in_err-fields-clause-value
returns-in_err-fields-clause-value c = rw (decoded_chain c.args.memory.now) (search rules)

pub returns-in_err-writes-clause-value : goal.returns-in_err-writes-clause-value
returns-in_err-writes-clause-value c = rw (decoded_chain c.args.memory.now) (search rules)

pub returns-in_err-kept-clause-value : goal.returns-in_err-kept-clause-value
returns-in_err-kept-clause-value c = rw (decoded_chain c.args.memory.now) (search rules)
