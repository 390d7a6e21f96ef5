use Rattle.std.proofs.Common.{ap, ◌∙◌}
use Rattle.image.specs.Images.{decoded}
use Rattle.image.proofs.Images.{image_there}
use Rattle.image.proofs.format.format_record.Goals as goal

pub returns-clause-told : goal.returns-clause-told
returns-clause-told c = ap decoded c.put_image.ensures ∙ image_there _ _ _
