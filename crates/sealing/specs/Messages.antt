-- What a slip's tag is computed over, and the tag field: index_for, nonce, head, message; front and tag_field.
use Rattle.std.specs.Prelude.{ℕ, ◌+◌, ◌*◌, List, [], ◌∷◌, ◌++◌, slice_index}
use Rattle.std.specs.List.{flat_map}
use Rattle.spelling.specs.Spelling.{bytes_of, spelled}
use Rattle.token.specs.declared.subclass.SubClass.{SubClass}
use Rattle.token.specs.declared.subclass.SubClass.TheVariants.{Clear, Enciphered, Rates}
use Rattle.token.specs.declared.first.FirstBlock.{FirstBlock}
use Rattle.sealing.specs.declared.settings.Settings.{Settings}

-- the function index in the message, by the index that the till or the meter keeps
abbrev pub index_for : SubClass → ℕ → ℕ
index_for Clear index = 0
index_for Enciphered index = index
index_for Rates index = index + 1

-- SupplierID in eight bytes, number in four
unfoldable pub nonce : Settings → ℕ → List ℕ
nonce s number = spelled ((8, s.supplier) ∷ (4, number) ∷ [])

-- SupplierID, MeterID, the origin 1, number, function index, SubClass, AMTConfig and AMT
unfoldable pub head : Settings → ℕ → ℕ → FirstBlock → List ℕ
head s number index first =
    spelled ((8, s.supplier) ∷ (8, s.meter) ∷ (1, 1) ∷ (4, number) ∷ (2, index)
    ∷ (1, first.subclass) ∷ (1, first.config) ∷ (2, first.amt) ∷ [])

-- then each further block in clear, its sequence included, in eight bytes
unfoldable pub message : Settings → ℕ → ℕ → FirstBlock → List ℕ → List ℕ
message s number index first further = head s number index first ++ flat_map (bytes_of 8) further

-- the first four bytes of a tag, as a number
abbrev pub front : List ℕ → ℕ
front tag = slice_index tag 0 * 16777216 + slice_index tag 1 * 65536 + slice_index tag 2 * 256 + slice_index tag 3

-- the tag field of a slip in clear, for a number and the function index that goes into the message
unfoldable pub tag_field : Settings → (List ℕ → List ℕ → List ℕ) → ℕ → ℕ → FirstBlock → List ℕ → ℕ
tag_field s tagged number index first further = front (tagged (nonce s number) (message s number index first further))
