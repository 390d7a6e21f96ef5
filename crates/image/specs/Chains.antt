-- Fields one after the other, each known by its tag: field_at, value_at, told_value; chain_of; values_of, told_fields, what the
-- fields of a record stand for; Widths, how long their values are.
use Rattle.std.specs.Prelude.{◌≡◌, ℕ, cond, List, [], ◌∷◌, length, Some, None, Option, ◌==◌}
use Rattle.std.specs.Borrow.{Bor}
use Rattle.fields.specs.Options.{and_then}
use Rattle.fields.specs.Fields.{Field, Part, Reading}
use Rattle.image.specs.Fields.{next_of}
use Rattle.image.specs.declared.reading.RecordFields.{RecordFields}

-- the first field of an image, where it has this tag
abbrev pub field_at : ℕ → List ℕ → Option Part
field_at tag bytes = and_then (next_of bytes) (λ p. cond (p.tag == tag) (Some p) None)

-- its value
abbrev pub value_at : ℕ → List ℕ → Option (List ℕ)
value_at tag bytes = and_then (field_at tag bytes) (λ p. Some p.value)

abbrev pub told_value : Option (Bor (List ℕ)) → Option (List ℕ)
told_value None = None
told_value (Some v) = Some v.now

-- the fields of a form, each known by its tag
abbrev pub chain_of : List Field → List ℕ → Option Reading
chain_of [] bytes = Some (record { values = []; rest = bytes })
chain_of (f ∷ form) bytes =
    and_then (field_at f.tag bytes) (λ p.
    and_then (chain_of form p.rest) (λ q.
    Some (record { values = p.value ∷ q.values; rest = q.rest })))

abbrev pub values_of : RecordFields → List (List ℕ)
values_of f = f.credit.now ∷ f.highest.now ∷ f.marks.now ∷ f.index.now ∷ f.tariff.now ∷ []

abbrev pub told_fields : Option RecordFields → Option Reading
told_fields None = None
told_fields (Some f) = Some (record { values = values_of f; rest = f.rest.now })

pub record Widths (f : RecordFields) : Type 0 where
  pub credit : length f.credit.now ≡ 4
  pub highest : length f.highest.now ≡ 4
  pub marks : length f.marks.now ≡ 16
  pub index : length f.index.now ≡ 2
  pub tariff : length f.tariff.now ≡ 20
