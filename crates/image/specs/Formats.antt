-- Formatting a memory: has_room, format_answer, formatted.
use Rattle.std.specs.Prelude.{ℕ, Bool, cond, List, length, Ok, Result, nat_le}
use Rattle.refusal.specs.Checks.{provided}
use Rattle.refusal.specs.declared.Refusal.{Refusal}
use Rattle.refusal.specs.declared.Refusal.TheVariants.{ShortMemory}
use Rattle.record.specs.declared.Record.{Record}
use Rattle.fields.specs.Fields.{size}
use Rattle.image.specs.Forms.{image_form}
use Rattle.image.specs.Images.{image_over}

-- an image has room in the memory
abbrev pub has_room : List ℕ → Bool
has_room bytes = nat_le (size image_form) (length bytes)

-- nothing, or the refusal
abbrev pub format_answer : List ℕ → Result (Unit {0}) Refusal
format_answer bytes = provided (has_room bytes) ShortMemory (Ok tt)

-- a memory after it is formatted for any record; one that is refused is as it was
abbrev pub formatted : Record → ℕ → List ℕ → List ℕ
formatted r writes bytes = cond (has_room bytes) (image_over r writes bytes) bytes
