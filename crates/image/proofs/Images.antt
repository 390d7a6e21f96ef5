-- An image, there and back: image_there, image_back; image_long, a well-formed image is there in full. Assumes nothing.
use Rattle.std.proofs.Common.{◌≡◌, ℕ, ◌≤◌, List, [], ◌∷◌, ◌++◌, length, drop, Some, Option, sym, refl, ap, ◌∙◌, arith, drop_at}
use Rattle.std.specs.Int.Digits.{number_from_digits}
use Rattle.std.specs.List.{AllByRecursion}
use Rattle.refusal.proofs.Making.{so, made_so}
use Rattle.window.specs.Limits.{markable}
use Rattle.window.specs.Marks.{window_of}
use Rattle.window.specs.declared.state.Window.{Window}
use Rattle.token.specs.declared.tariff.Tariff.{Tariff}
use Rattle.record.specs.declared.Record.{Record}
use Rattle.record.specs.Changes.{record_of}
use Rattle.fields.specs.Options.{and_then}
use Rattle.fields.specs.Spelling.{spell}
use Rattle.fields.specs.Fields.{row_of, Reading, read, Fit, Bytes}
use Rattle.fields.proofs.Steps.{came}
use Rattle.fields.proofs.Rows.{there, back, read_long, row_long}
use Rattle.fields.proofs.Spells.{number_spell, spell_number}
use Rattle.image.specs.Forms.{image_form}
use Rattle.image.specs.Tariffs.{tariff_in, tariff_bytes}
use Rattle.image.specs.Images.{image_values, record_in, image_in, decoded, image_over}
use Rattle.image.specs.declared.content.Image.{Image}
use Rattle.image.proofs.Puts.{fit_image}
use Rattle.image.proofs.Tariffs.{tariff_there, tariff_back}

-- the parts of a window make it again
window_there : (w : Window) (h m : ℕ) → h ≡ w.highest → m ≡ w.marks → window_of h m ≡ Some w
window_there w h m p q = rw (p, q) (sym (so (markable w.highest w.marks) (λ o. record { highest = w.highest; marks = w.marks; ok = o }) w.ok))

window_back : (w : Window) (h m : ℕ) → window_of h m ≡ Some w → (w.highest ≡ h) × (w.marks ≡ m)
window_back w h m e =
    let p = (made_so (markable h m) (λ o. record { highest = h; marks = m; ok = o }) w e).1 in
    (sym (ap (λ (x : Window). x.highest) p), sym (ap (λ (x : Window). x.marks) p))

two_steps : {X Y Z : Type 0} (o : Option X) (p : Option Y) (k : X → Y → Z) (x : X) (y : Y) → o ≡ Some x → p ≡ Some y → and_then o (λ a. and_then p (λ b. Some (k a b))) ≡ Some (k x y)
two_steps o p k x y e f = rw (e, f) refl

record_there : (r : Record) (n : ℕ) → record_in (image_values r n) ≡ Some r
record_there r n =
    let make : ℕ → ℕ → Window → Option Tariff → Record = λ c x w t. record_of c w x t in
    two_steps (window_of (number_from_digits 256 (spell 4 r.window.highest)) (number_from_digits 256 (spell 16 r.window.marks))) (tariff_in (tariff_bytes r.tariff))
    (make (number_from_digits 256 (spell 4 r.credit)) (number_from_digits 256 (spell 2 r.index))) r.window r.tariff
    (window_there r.window _ _ (number_spell 3 r.window.highest) (number_spell 15 r.window.marks)) (tariff_there r.tariff)
    ∙ (λ i. Some (make (number_spell 3 r.credit i) (number_spell 1 r.index i) r.window r.tariff))

values_there : (r : Record) (n : ℕ) → image_in (image_values r n) ≡ Some (record { kept = r; writes = n })
values_there r n =
    let w = number_spell 3 n in
    ap (λ (o : Option Record). and_then o (λ k. Some (record { kept = k; writes = number_from_digits 256 (spell 4 n) }))) (record_there r n) ∙ (λ i. Some (record { kept = r; writes = w i }))

pub image_there : (r : Record) (n : ℕ) (bytes : List ℕ) → decoded (image_over r n bytes) ≡ Some (record { kept = r; writes = n })
unfolding decoded image_over
image_there r n bytes =
    ap (λ (o : Option Reading). and_then o (λ q. image_in q.values)) (there image_form (image_values r n) (drop 68 bytes) (fit_image r n)) ∙ values_there r n

-- six values that tell an image are its values
six_back : (a b c d e f : List ℕ) (m : Image) → Fit image_form (a ∷ b ∷ c ∷ d ∷ e ∷ f ∷ []) → AllByRecursion Bytes (a ∷ b ∷ c ∷ d ∷ e ∷ f ∷ []) → image_in (a ∷ b ∷ c ∷ d ∷ e ∷ f ∷ []) ≡ Some m
    → a ∷ b ∷ c ∷ d ∷ e ∷ f ∷ [] ≡ image_values m.kept m.writes
six_back a b c d e f m fit u h =
    let vs = a ∷ b ∷ c ∷ d ∷ e ∷ f ∷ [] in
    let la : length a ≡ 4 = cc in
    let lb : length b ≡ 4 = cc in
    let lc : length c ≡ 16 = cc in
    let ld : length d ≡ 2 = cc in
    let le : length e ≡ 20 = cc in
    let lf : length f ≡ 4 = cc in
    let x = came (record_in vs) (λ k. Some (record { kept = k; writes = number_from_digits 256 f })) m h in
    let whole : ◌≡◌ {A = Image} (record { kept = x.0; writes = number_from_digits 256 f }) m = cc in
    let y = came (window_of (number_from_digits 256 b) (number_from_digits 256 c)) (λ w. and_then (tariff_in e) (λ t. Some (record_of (number_from_digits 256 a) w (number_from_digits 256 d) t))) x.0 x.1 in
    let w = y.0 in
    let z = came (tariff_in e) (λ t. Some (record_of (number_from_digits 256 a) w (number_from_digits 256 d) t)) x.0 y.2 in
    let t = z.0 in
    let made : record_of (number_from_digits 256 a) w (number_from_digits 256 d) t ≡ x.0 = cc in
    let win = window_back w (number_from_digits 256 b) (number_from_digits 256 c) y.1 in
    let pa : spell 4 (number_from_digits 256 a) ≡ a = spell_number 3 a u.0 la in
    let pb : spell 4 w.highest ≡ b = ap (spell 4) win.0 ∙ spell_number 3 b u.1.0 lb in
    let pc : spell 16 w.marks ≡ c = ap (spell 16) win.1 ∙ spell_number 15 c u.1.1.0 lc in
    let pd : spell 2 (number_from_digits 256 d) ≡ d = spell_number 1 d u.1.1.1.0 ld in
    let pe : tariff_bytes t ≡ e = tariff_back e t u.1.1.1.1.0 le z.1 in
    let pf : spell 4 (number_from_digits 256 f) ≡ f = spell_number 3 f u.1.1.1.1.1.0 lf in
    let values : image_values (record_of (number_from_digits 256 a) w (number_from_digits 256 d) t) (number_from_digits 256 f) ≡ vs = λ i. pa i ∷ pb i ∷ pc i ∷ pd i ∷ pe i ∷ pf i ∷ [] in
    sym values ∙ ap (λ (k : Record). image_values k (number_from_digits 256 f)) made ∙ ap (λ (i : Image). image_values i.kept i.writes) whole

values_back : (vs : List (List ℕ)) (m : Image) → Fit image_form vs → AllByRecursion Bytes vs → image_in vs ≡ Some m → vs ≡ image_values m.kept m.writes
values_back [] m fit u h = absurd (omega (arith, ap length fit))
values_back (a ∷ []) m fit u h = absurd (omega (arith, ap length fit))
values_back (a ∷ b ∷ []) m fit u h = absurd (omega (arith, ap length fit))
values_back (a ∷ b ∷ c ∷ []) m fit u h = absurd (omega (arith, ap length fit))
values_back (a ∷ b ∷ c ∷ d ∷ []) m fit u h = absurd (omega (arith, ap length fit))
values_back (a ∷ b ∷ c ∷ d ∷ e ∷ []) m fit u h = absurd (omega (arith, ap length fit))
values_back (a ∷ b ∷ c ∷ d ∷ e ∷ f ∷ []) m fit u h = six_back a b c d e f m fit u h
values_back (a ∷ b ∷ c ∷ d ∷ e ∷ f ∷ g ∷ vs) m fit u h = absurd (omega (arith, ap length fit))

pub image_back : (bytes : List ℕ) (m : Image) → Bytes bytes → decoded bytes ≡ Some m → bytes ≡ image_over m.kept m.writes bytes
unfolding decoded image_over
image_back bytes m u h =
    let c = came (read image_form bytes) (λ q. image_in q.values) m h in
    let q = c.0 in
    let b = back image_form bytes q u c.1 in
    let row = row_of image_form q.values in
    let values = values_back q.values m b.fit b.bytes c.2 in
    let rest : q.rest ≡ drop 68 bytes = sym (drop_at row q.rest 68 (row_long image_form q.values b.fit)) ∙ ap (drop 68) (sym b.is) in
    b.is ∙ (λ i. row_of image_form (values i) ++ rest i)

pub image_long : (bytes : List ℕ) (m : Image) → decoded bytes ≡ Some m → 68 ≤ length bytes
unfolding decoded
image_long bytes m h =
    let c = came (read image_form bytes) (λ q. image_in q.values) m h in
    read_long image_form bytes c.0 c.1
