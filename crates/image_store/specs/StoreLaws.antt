-- The image store is a store: image_holds, it means the record written; image_most and image_least, its count is lowered by one.
-- after_bytes, after_told, its bytes after a write and what they tell. Assumes nothing.
use Rattle.std.specs.Prelude.{◌≡◌, ℕ, ◌-◌, ◌<◌, ◌≤◌, List, length, drop, Some, None, vec_items, Option, refl}
use Rattle.std.proofs.Common.{sym, ap, ◌∙◌, arith, length-append, length-drop}
use Rattle.std.proofs.lemmas.List.{with_items_is}
use Rattle.record.specs.declared.Record.{Record}
use Rattle.fields.specs.Fields.{row_of}
use Rattle.fields.proofs.Rows.{row_long}
use Rattle.image.specs.Forms.{image_form}
use Rattle.image.specs.Images.{image_values, decoded, image_over, record_or, writes_or}
use Rattle.image_store.specs.Stores.{image_kept, image_writes, bytes_after, image_after}
use Rattle.image.specs.declared.content.Image.{Image}
use Rattle.image_store.specs.declared.ImageStore.{ImageStore}
use Rattle.image.proofs.Puts.{fit_image}
use Rattle.image.proofs.Images.{image_there, image_long}

-- there are as many bytes as before
over_length : (r : Record) (n : ℕ) (bytes : List ℕ) → 68 ≤ length bytes → length (image_over r n bytes) ≡ length bytes
unfolding image_over
over_length r n bytes h =
    omega (arith, length-append (row_of image_form (image_values r n)) (drop 68 bytes), row_long image_form (image_values r n) (fit_image r n), length-drop 68 bytes)

pub some_left : (o : Option Image) → 0 < writes_or o → (m : Image) × (o ≡ Some m)
some_left None h = absurd (omega arith)
some_left (Some m) h = (m, refl)

-- the bytes after a write are those that were put
pub after_bytes : (s : ImageStore) (r : Record) → 0 < image_writes s → vec_items (image_after s r).memory ≡ bytes_after s r
after_bytes s r h =
    let v = s.memory in
    let m = some_left (decoded (vec_items v)) h in
    let room : 68 ≤ length (vec_items v) = image_long (vec_items v) m.0 m.1 in
    with_items_is v (bytes_after s r) (over_length r (image_writes s - 1) (vec_items v) room ∙ sym v.ok.0)

pub after_told : (s : ImageStore) (r : Record) → 0 < image_writes s → decoded (vec_items (image_after s r).memory) ≡ Some (record { kept = r; writes = image_writes s - 1 })
after_told s r h = ap decoded (after_bytes s r h) ∙ image_there r (image_writes s - 1) (vec_items s.memory)

pub image_holds : (s : ImageStore) (r : Record) → 0 < image_writes s → image_kept (image_after s r) ≡ r
image_holds s r h = ap record_or (after_told s r h)

one_less : (s : ImageStore) (r : Record) → 0 < image_writes s → image_writes (image_after s r) ≡ image_writes s - 1
one_less s r h = ap writes_or (after_told s r h)

pub image_most : (s : ImageStore) (r : Record) → 0 < image_writes s → image_writes (image_after s r) ≤ image_writes s
image_most s r h = omega (arith, one_less s r h)

pub image_least : (s : ImageStore) (r : Record) → 0 < image_writes s → image_writes s - 1 ≤ image_writes (image_after s r)
image_least s r h = omega (arith, one_less s r h)
