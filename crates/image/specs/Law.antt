-- The law of images: ImageLaw.
use Rattle.std.specs.Prelude.{◌≡◌, ℕ, ◌≤◌, List, length, Some}
use Rattle.record.specs.declared.Record.{Record}
use Rattle.fields.specs.Fields.{size, Bytes}
use Rattle.image.specs.Forms.{image_form}
use Rattle.image.specs.Images.{decoded, image_over}
use Rattle.image.specs.declared.content.Image.{Image}

pub record ImageLaw : Type 0 where
  -- an image takes 68 bytes
  pub takes : size image_form ≡ 68
  -- what is written reads back, whatever the bytes were before
  pub there : (r : Record) (writes : ℕ) (bytes : List ℕ) → decoded (image_over r writes bytes) ≡ Some (record { kept = r; writes = writes })
  -- what reads back was written so: bytes with any other tag, length, spare bit or value outside its limits are ill-formed
  pub back : (bytes : List ℕ) (m : Image) → Bytes bytes → decoded bytes ≡ Some m → bytes ≡ image_over m.kept m.writes bytes
  -- fewer than 68 bytes are ill-formed
  pub long : (bytes : List ℕ) (m : Image) → decoded bytes ≡ Some m → size image_form ≤ length bytes
