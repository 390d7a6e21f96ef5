-- The image store: image_on; image_kept, image_writes, what it means; bytes_after, image_after, what a write makes of it.
use Rattle.std.specs.Prelude.{ℕ, ◌-◌, List, vec_items, Vec}
use Rattle.std.specs.Vec.{with_items}
use Rattle.std.specs.declared.alloc.Global.{Global}
use Rattle.record.specs.declared.Record.{Record}
use Rattle.image.specs.Images.{decoded, image_over, record_or, writes_or}
use Rattle.image_store.specs.declared.ImageStore.{ImageStore}

-- it lies in the memory as it is
abbrev pub image_on : Vec ℕ Global → ImageStore
image_on memory = record { memory = memory }

-- it means the record that its bytes tell, or the blank one
abbrev pub image_kept : ImageStore → Record
image_kept s = record_or (decoded (vec_items s.memory))

-- and has the writes left that its bytes tell, or none
abbrev pub image_writes : ImageStore → ℕ
image_writes s = writes_or (decoded (vec_items s.memory))

-- after a write the bytes are the image of the record, with one write less, and those after it as they were
abbrev pub bytes_after : ImageStore → Record → List ℕ
bytes_after s r = image_over r (image_writes s - 1) (vec_items s.memory)

-- the same memory with these bytes
abbrev pub image_after : ImageStore → Record → ImageStore
image_after s r = record { memory = with_items s.memory (bytes_after s r) }
