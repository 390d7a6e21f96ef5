-- Fields in a row of bytes. Field, its tag and width; field, one of them; a form is a list of them. written, the bytes of a
-- field; Part, cut, a field cut off the front; taken, one of this tag and width. row_of, the bytes of the fields of a form;
-- Reading, read, their values; size, how many bytes they take; Fit, values of the widths of a form; Bytes, a list of bytes.
use Rattle.std.specs.Prelude.{◌≡◌, ℕ, ◌+◌, ◌*◌, ◌/◌, ◌%◌, cond, ◌&&◌, List, [], ◌∷◌, ◌++◌, map, length, take, drop, Some, None, Option, ◌==◌, nat_le}
use Rattle.std.specs.Int.Digits.{AllBelowBase}
use Rattle.fields.specs.Options.{and_then}

-- a field of a form: its tag, and how many bytes its value has
pub record Field : Type 0 where
  pub tag : ℕ
  pub width : ℕ

abbrev pub field : ℕ → ℕ → Field
field tag width = record { tag = tag; width = width }

-- the bytes of a field: tag, two bytes of width, value
abbrev pub written : Field → List ℕ → List ℕ
written f value = f.tag ∷ f.width / 256 ∷ f.width % 256 ∷ value

-- a field in a row of bytes: its tag, its value, and the bytes after it
pub record Part : Type 0 where
  pub tag : ℕ
  pub value : List ℕ
  pub rest : List ℕ

abbrev pub cut_at : ℕ → ℕ → List ℕ → Option Part
cut_at tag width rest = cond (nat_le width (length rest)) (Some (record { tag = tag; value = take width rest; rest = drop width rest })) None

-- the first field, of any tag and width; none where the bytes end before it does
abbrev pub cut : List ℕ → Option Part
cut [] = None
cut (tag ∷ []) = None
cut (tag ∷ high ∷ []) = None
cut (tag ∷ high ∷ low ∷ rest) = cut_at tag (high * 256 + low) rest

abbrev pub fitting : Field → Part → Option Part
fitting f p = cond (p.tag == f.tag && length p.value == f.width) (Some p) None

-- the first field, where it has this tag and width
abbrev pub taken : Field → List ℕ → Option Part
taken f bytes = and_then (cut bytes) (fitting f)

-- the fields of a form, one after the other, with these values
abbrev pub row_of : List Field → List (List ℕ) → List ℕ
row_of [] values = []
row_of (f ∷ form) [] = []
row_of (f ∷ form) (v ∷ values) = written f v ++ row_of form values

-- the values that were read, and the bytes after the last field
pub record Reading : Type 0 where
  pub values : List (List ℕ)
  pub rest : List ℕ

-- the values of the fields of a form, where just these fields come first
abbrev pub read : List Field → List ℕ → Option Reading
read [] bytes = Some (record { values = []; rest = bytes })
read (f ∷ form) bytes =
    and_then (taken f bytes) (λ p.
    and_then (read form p.rest) (λ q.
    Some (record { values = p.value ∷ q.values; rest = q.rest })))

-- how many bytes the fields of a form take
abbrev pub size : List Field → ℕ
size [] = 0
size (f ∷ form) = 3 + f.width + size form

-- one value for each field, of its width
abbrev pub Fit : List Field → List (List ℕ) → Type 0
Fit form values = map length values ≡ map (λ f. f.width) form

-- each is a byte
abbrev pub Bytes : List ℕ → Type 0
Bytes xs = AllBelowBase 256 xs
