-- The fields of an image, written one after the other: put_parts, one field by its head and its value; put_five, those of a
-- record; put_all, those of an image. Assumes nothing.
use Rattle.std.proofs.Common.{◌≡◌, ℕ, ◌+◌, ◌-◌, ◌/◌, ◌%◌, ◌≤◌, List, [], ◌∷◌, ◌++◌, length, drop, Some, None, Option, sym, refl, ap, ◌∙◌, append-nil, arith}
use borrow.Rule.Slice.PartMut.{put_mid}
use Rattle.token.specs.declared.tariff.Tariff.{Tariff}
use Rattle.token.proofs.Tariffs.{long}
use Rattle.record.specs.declared.Record.{Record}
use Rattle.fields.specs.Spelling.{spell}
use Rattle.fields.specs.Fields.{field, written, row_of, Fit}
use Rattle.fields.specs.Puts.{over}
use Rattle.fields.proofs.Pasted.{two_puts, over_next}
use Rattle.fields.proofs.Rows.{row_long, row-append}
use Rattle.image.specs.Forms.{record_form, image_form}
use Rattle.image.specs.Tariffs.{tariff_bytes}
use Rattle.image.specs.Images.{record_values, image_values, image_over}
use Rattle.image.proofs.Halves.{length-halves}

pub put_parts : (at tag tag' : ℕ) (v v' old h w : List ℕ) → at + 3 + length v ≤ length old → tag' ≡ tag → v' ≡ v → h ≡ tag' ∷ (length v' / 256) ∷ (length v' % 256) ∷ [] → w ≡ v'
    → put_mid (at + 3) (at + 3 + length v' - (at + 3)) (put_mid at (at + 3 - at) old h) w ≡ over at tag v old
put_parts at tag tag' v v' old h w room p q e f =
    let h' : List ℕ = tag ∷ (length v / 256) ∷ (length v % 256) ∷ [] in
    let head : h ≡ h' = e ∙ (λ i. p i ∷ (length (q i) / 256) ∷ (length (q i) % 256) ∷ []) in
    let value : w ≡ v = f ∙ q in
    (λ i. put_mid (at + 3) (at + 3 + length (q i) - (at + 3)) (put_mid at (at + 3 - at) old (head i)) (value i)) ∙ two_puts at old h' v room refl

pub length_tariff : (t : Option Tariff) → length (tariff_bytes t) ≡ 20
length_tariff None = refl
length_tariff (Some t) = omega (arith, length-halves t.prices, long t)

-- the values have the widths of the form
pub fit_record : (r : Record) → Fit record_form (record_values r)
fit_record r = let l = length_tariff r.tariff in λ i. 4 ∷ 4 ∷ 16 ∷ 2 ∷ l i ∷ []

pub fit_image : (r : Record) (n : ℕ) → Fit image_form (image_values r n)
fit_image r n = let l = length_tariff r.tariff in λ i. 4 ∷ 4 ∷ 16 ∷ 2 ∷ l i ∷ 4 ∷ []

pub put_five : (r : Record) (a b m x t m0 m1 m2 m3 m4 m5 : List ℕ)
    → a ≡ spell 4 r.credit → b ≡ spell 4 r.window.highest → m ≡ spell 16 r.window.marks → x ≡ spell 2 r.index → t ≡ tariff_bytes r.tariff
    → m1 ≡ over 0 1 a m0 → m2 ≡ over 7 2 b m1 → m3 ≡ over 14 3 m m2 → m4 ≡ over 33 4 x m3 → m5 ≡ over 38 5 t m4
    → m5 ≡ row_of record_form (record_values r) ++ drop 61 m0
put_five r a b m x t m0 m1 m2 m3 m4 m5 pa pb pm px pt e1 e2 e3 e4 e5 =
    let v1 = spell 4 r.credit in
    let v2 = spell 4 r.window.highest in
    let v3 = spell 16 r.window.marks in
    let v4 = spell 2 r.index in
    let v5 = tariff_bytes r.tariff in
    let d1 : List ℕ = written (field 1 4) v1 in
    let d2 : List ℕ = d1 ++ written (field 2 4) v2 in
    let d3 : List ℕ = d2 ++ written (field 3 16) v3 in
    let d4 : List ℕ = d3 ++ written (field 4 2) v4 in
    let one : m1 ≡ d1 ++ drop 7 m0 = e1 ∙ ap (λ (v : List ℕ). over 0 1 v m0) pa ∙ over_next 0 1 v1 [] m0 m0 refl refl in
    let two : m2 ≡ d2 ++ drop 14 m0 = e2 ∙ ap (λ (v : List ℕ). over 7 2 v m1) pb ∙ over_next 7 2 v2 d1 m0 m1 refl one in
    let three : m3 ≡ d3 ++ drop 33 m0 = e3 ∙ ap (λ (v : List ℕ). over 14 3 v m2) pm ∙ over_next 14 3 v3 d2 m0 m2 refl two in
    let four : m4 ≡ d4 ++ drop 38 m0 = e4 ∙ ap (λ (v : List ℕ). over 33 4 v m3) px ∙ over_next 33 4 v4 d3 m0 m3 refl three in
    let five : m5 ≡ (d4 ++ written (field 5 (length v5)) v5) ++ drop (38 + 3 + length v5) m0 = e5 ∙ ap (λ (v : List ℕ). over 38 5 v m4) pt ∙ over_next 38 5 v5 d4 m0 m4 refl four in
    let wide : (d4 ++ written (field 5 (length v5)) v5) ++ drop (38 + 3 + length v5) m0 ≡ (d4 ++ written (field 5 20) v5) ++ drop 61 m0 =
    ap (λ (n : ℕ). (d4 ++ written (field 5 n) v5) ++ drop (38 + 3 + n) m0) (length_tariff r.tariff) in
    five ∙ wide ∙ ap (λ (v : List ℕ). (d4 ++ written (field 5 20) v) ++ drop 61 m0) (sym (append-nil v5))

pub put_all : (r : Record) (n : ℕ) (b m0 m1 m2 : List ℕ) → b ≡ spell 4 n → m1 ≡ row_of record_form (record_values r) ++ drop 61 m0 → m2 ≡ over 61 6 b m1 → m2 ≡ image_over r n m0
unfolding image_over
put_all r n b m0 m1 m2 p e f =
    let done = row_of record_form (record_values r) in
    let last = spell 4 n in
    let long : length done ≡ 61 = row_long record_form (record_values r) (fit_record r) in
    let next : m2 ≡ (done ++ written (field 6 4) last) ++ drop 68 m0 = f ∙ ap (λ (v : List ℕ). over 61 6 v m1) p ∙ over_next 61 6 last done m0 m1 long e in
    next ∙ ap (λ (z : List ℕ). z ++ drop 68 m0) (sym (row-append record_form (field 6 4 ∷ []) (record_values r) (last ∷ []) (fit_record r)))
