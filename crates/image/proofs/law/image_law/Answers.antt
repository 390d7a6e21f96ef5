use Rattle.std.proofs.Common.{refl}
use Rattle.image.proofs.Images.{image_there, image_back, image_long}
use Rattle.image.proofs.law.image_law.Goals as goal

pub returns : goal.returns
returns c = record { takes = refl; there = image_there; back = image_back; long = image_long }
