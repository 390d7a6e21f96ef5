-- The checks made in stages come to the rules in their order: brings, reads, opens, reckons, weighs, staged.
use Rattle.std.proofs.Common.{◌≡◌, ℕ, ◌+◌, not, ltb, leb, List, Some, None, Ok, Option, Result, refl, ap, ◌∙◌}
use Rattle.refusal.specs.Checks.{provided, and_then, found, checked}
use Rattle.refusal.proofs.Passing.{and_then-found, through}
use Rattle.refusal.specs.declared.Refusal.{Refusal}
use Rattle.refusal.specs.declared.Refusal.TheVariants.{IndexFull, OutsideWindow, WrongTag, AlreadyCounted, ReservedConfig, RatePrices, AboveCeiling, NoWrites}
use Rattle.token.specs.declared.subclass.SubClass.{SubClass}
use Rattle.token.specs.declared.subclass.SubClass.TheVariants.{Clear, Enciphered, Rates}
use Rattle.token.specs.declared.tariff.Tariff.{Tariff}
use Rattle.token.specs.Shapes.{shape_of}
use Rattle.token.specs.RatePrices.{tariff_in}
use Rattle.decimal.specs.Groups.{blocks_of, blocks_in}
use Rattle.arrayvec.specs.ArrayVec.{ArrayVec}
use Rattle.window.specs.Recovery.{in_reach}
use Rattle.window.specs.Marks.{marked}
use Rattle.record.specs.declared.Record.{Record}
use Rattle.record.specs.Changes.{taken}
use Rattle.sealing.specs.Suites.{Suite, multiplier_of}
use Rattle.sealing.specs.Opening.{parts_of, through_low, opened_as, opened}
use Rattle.sealing.specs.declared.opening.Opened.{Opened}
use Rattle.entry.specs.declared.worth.Worth.{Worth}
use Rattle.entry.specs.Reading.{sub_class_read, slip_read, amount_in, brought_by, tariff_brought}
use Rattle.entry.specs.Rules.{standing, raisable, number_in, authentic, priced, digit_rules, shape_rules, number_rules, slip_rules}
use Rattle.entry.specs.Judging.{worth_of, judged}
use Rattle.entry.specs.Stages.{tariff_by, tariff_from, within, reckoned, weighed, judged_by}

-- the tariff of a slip
brings : {X : Type 0} (k : SubClass) (t : Option Tariff) (f : Option Tariff → Result X Refusal) →
    and_then (tariff_by k t) f ≡ provided (priced k t) RatePrices (f (brought_by k t))
brings Clear t f = refl
brings Enciphered t f = refl
brings Rates (Some t) f = refl
brings Rates None f = refl

-- digits to a slip in clear
reads : (text : List ℕ) (f : ArrayVec ℕ → Result Worth Refusal) → and_then (blocks_of text) f ≡ checked (digit_rules text) (f (record { items = blocks_in text }))
unfolding blocks_of
reads text f = through (digit_rules text) (Ok (record { items = blocks_in text })) f

opens : (s : Suite) (text : List ℕ) (f : Opened → Result Worth Refusal) →
    and_then (opened s.deciphered (blocks_in text)) f ≡ checked (shape_rules (blocks_in text)) (f (slip_read s text))
unfolding opened shape_of slip_read
opens s text f =
    let rules = shape_rules (blocks_in text) in
    let open_as : SubClass → Result Opened Refusal = λ k. Ok (opened_as k (through_low s.deciphered k (blocks_in text))) in
    ap (λ (r : Result Opened Refusal). and_then r f) (through rules (Ok (sub_class_read text)) open_as) ∙ through rules (Ok (slip_read s text)) f

-- from the tag on
reckons : (s : Suite) (r : Record) (writes : ℕ) (slip : Opened) →
    reckoned s.settings s.tagged r slip (number_in (standing r writes) slip)
    ≡ checked (number_rules s.settings s.tagged (standing r writes) slip (number_in (standing r writes) slip))
    (Ok (worth_of s.settings r (number_in (standing r writes) slip) slip))
unfolding reckoned tariff_from
reckons s r writes slip =
    let number = number_in (standing r writes) slip in
    let amount = amount_in s.settings slip in
    let fits = leb (r.credit + amount) s.settings.ceiling in
    let with_record : Record → Result Worth Refusal = λ next. Ok (record { number = number; amount = amount; next = next }) in
    let with_tariff : Option Tariff → Result Worth Refusal = λ tariff. and_then (found (within s.settings r slip number tariff) AboveCeiling) with_record in
    let last : with_tariff (tariff_brought slip) ≡ provided fits AboveCeiling (with_record (taken r number amount (tariff_brought slip))) =
    and_then-found fits (taken r number amount (tariff_brought slip)) AboveCeiling with_record in
    ap (λ (rest : Result Worth Refusal).
    provided (authentic s.settings s.tagged r.index slip number) WrongTag
    (provided (not (marked r.window number)) AlreadyCounted
    (provided (ltb 0 (multiplier_of s.settings slip.first.config)) ReservedConfig rest)))
    (brings slip.subclass (tariff_in (parts_of slip)) with_tariff ∙ ap (provided (priced slip.subclass (tariff_in (parts_of slip))) RatePrices) last)

weighs : (s : Suite) (r : Record) (writes : ℕ) (slip : Opened) →
    weighed s.settings s.tagged r slip
    ≡ checked (slip_rules s.settings s.tagged (standing r writes) slip)
    (Ok (worth_of s.settings r (number_in (standing r writes) slip) slip))
unfolding weighed
weighs s r writes slip =
    let m = standing r writes in
    ap (provided (raisable slip.subclass r.index) IndexFull)
    (and_then-found (in_reach m.highest slip.first.tstn) (number_in m slip) OutsideWindow (λ number. reckoned s.settings s.tagged r slip number)
    ∙ ap (provided (in_reach m.highest slip.first.tstn) OutsideWindow) (reckons s r writes slip))

-- all checks, the store's the last
pub staged : (s : Suite) (r : Record) (writes : ℕ) (text : List ℕ) →
    and_then (judged_by s r text) (λ w. provided (ltb 0 writes) NoWrites (Ok w)) ≡ judged s r writes text
unfolding judged
staged s r writes text =
    let m = standing r writes in
    let slip = slip_read s text in
    let written : Worth → Result Worth Refusal = λ w. provided (ltb 0 writes) NoWrites (Ok w) in
    let weigh : Opened → Result Worth Refusal = λ o. weighed s.settings s.tagged r o in
    let open_then : ArrayVec ℕ → Result Worth Refusal = λ b. and_then (opened s.deciphered b.items) weigh in
    let first = digit_rules text in
    let second = shape_rules (blocks_in text) in
    let third = slip_rules s.settings s.tagged m slip in
    let worth : Result Worth Refusal = Ok (worth_of s.settings r (number_in m slip) slip) in
    let all : judged_by s r text ≡ checked first (checked second (checked third worth)) =
    reads text open_then ∙ ap (checked first) (opens s text weigh ∙ ap (checked second) (weighs s r writes slip)) in
    ap (λ (v : Result Worth Refusal). and_then v written) all
    ∙ through first (checked second (checked third worth)) written
    ∙ ap (checked first) (through second (checked third worth) written ∙ ap (checked second) (through third worth written))
