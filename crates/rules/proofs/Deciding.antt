-- The tests of an entry tell the rules in words, at any standing: listed, tells_tag, in_order, none_before, all_said, refuses,
-- rules_at_any_standing. So every entry is judged by them: sets, takes, verdict, rules_decide. Assumes nothing.
use Rattle.std.proofs.Common.{◌≡◌, ℕ, ◌+◌, ◌<◌, ◌≤◌, false, not, List, Some, Ok, Err, Decides, Result, refl, subst, ⊎_elim, arith, lit≤}
use Rattle.std.proofs.lemmas.Bool.{not-true, not_from_false, leb-true, le-leb, cases_lt}
use Rattle.std.proofs.lemmas.Bool.Decides.{Decides-eqb, Decides-ltb}
use Rattle.refusal.specs.Checks.{AllKept, FirstBroken}
use Rattle.refusal.specs.Numbers.{number_of}
use Rattle.refusal.specs.declared.Refusal.{Refusal}
use Rattle.refusal.specs.declared.Refusal.TheVariants.{Length, NotADigit, CheckDigit, NoBlock, OtherSubClass, WrongBlocks, IndexFull, OutsideWindow, WrongTag, AlreadyCounted, ReservedConfig, RatePrices, AboveCeiling, NoWrites, SpendAmount, SpendAboveCredit, Settings, Sale, TillIndexFull, NoMoreNumbers, ShortMemory, WriteBehindLength}
use Rattle.refusal.proofs.Passing.{checked_ok, checked_err}
use Rattle.decimal.specs.Groups.{blocks_in}
use Rattle.token.specs.declared.subclass.SubClass.{SubClass}
use Rattle.token.specs.declared.subclass.SubClass.TheVariants.{Clear, Enciphered, Rates}
use Rattle.token.specs.declared.tariff.Tariff.{Tariff}
use Rattle.token.specs.RatePrices.{tariff_in, Reads}
use Rattle.window.proofs.Recovery.{reached}
use Rattle.record.specs.declared.Record.{Record}
use Rattle.record.specs.Changes.{taken}
use Rattle.sealing.specs.Suites.{Suite, multiplier_of}
use Rattle.sealing.specs.Messages.{index_for, tag_field}
use Rattle.sealing.specs.Opening.{further_of, parts_of}
use Rattle.entry.specs.declared.worth.Worth.{Worth}
use Rattle.entry.specs.Reading.{slip_read, amount_read, brought_by}
use Rattle.entry.specs.Rules.{Standing, standing, number_in, authentic, entry_rules}
use Rattle.entry.specs.Judging.{worth_of, judged}
use Rattle.rules.specs.InWords.{Tagged, Says, Sets, Takes, Refuses, Verdict, RulesDecide, RulesAtAnyStanding}
use Rattle.rules.proofs.Walking.{Listed, Below, InOrder, walk_kept, walk_broken}
use Rattle.rules.proofs.Telling.{tells_length, tells_digits, tells_sealed, tells_blocks, tells_served, tells_fitting, tells_index, tells_reach, tells_of_number, reads_back, tells_priced}

listed : (s : Suite) (m : Standing) (text : List ℕ) (f : Refusal) → Listed (Says s m text) f
listed s m text Length = record { some = lit≤ tt; own = refl; other = λ h. absurd (omega arith) }
listed s m text NotADigit = record { some = lit≤ tt; own = refl; other = λ h. absurd (omega arith) }
listed s m text CheckDigit = record { some = lit≤ tt; own = refl; other = λ h. absurd (omega arith) }
listed s m text NoBlock = record { some = lit≤ tt; own = refl; other = λ h. absurd (omega arith) }
listed s m text OtherSubClass = record { some = lit≤ tt; own = refl; other = λ h. absurd (omega arith) }
listed s m text WrongBlocks = record { some = lit≤ tt; own = refl; other = λ h. absurd (omega arith) }
listed s m text IndexFull = record { some = lit≤ tt; own = refl; other = λ h. absurd (omega arith) }
listed s m text OutsideWindow = record { some = lit≤ tt; own = refl; other = λ h. absurd (omega arith) }
listed s m text WrongTag = record { some = lit≤ tt; own = refl; other = λ h. absurd (omega arith) }
listed s m text AlreadyCounted = record { some = lit≤ tt; own = refl; other = λ h. absurd (omega arith) }
listed s m text ReservedConfig = record { some = lit≤ tt; own = refl; other = λ h. absurd (omega arith) }
listed s m text RatePrices = record { some = lit≤ tt; own = refl; other = λ h. absurd (omega arith) }
listed s m text AboveCeiling = record { some = lit≤ tt; own = refl; other = λ h. absurd (omega arith) }
listed s m text NoWrites = record { some = lit≤ tt; own = refl; other = λ h. absurd (omega arith) }
listed s m text SpendAmount = record { some = lit≤ tt; own = refl; other = λ h. tt }
listed s m text SpendAboveCredit = record { some = lit≤ tt; own = refl; other = λ h. tt }
listed s m text Settings = record { some = lit≤ tt; own = refl; other = λ h. tt }
listed s m text Sale = record { some = lit≤ tt; own = refl; other = λ h. tt }
listed s m text TillIndexFull = record { some = lit≤ tt; own = refl; other = λ h. tt }
listed s m text NoMoreNumbers = record { some = lit≤ tt; own = refl; other = λ h. tt }
listed s m text ShortMemory = record { some = lit≤ tt; own = refl; other = λ h. tt }
listed s m text WriteBehindLength = record { some = lit≤ tt; own = refl; other = λ h. tt }

-- the tag, where there is a number
tells_tag : (s : Suite) (m : Standing) (text : List ℕ) → Says s m text OutsideWindow →
    Decides (authentic s.settings s.tagged m.index (slip_read s text) (number_in m (slip_read s text))) (Says s m text WrongTag)
unfolding authentic
tells_tag s m text p =
    let slip = slip_read s text in
    tells_of_number m.highest slip.first.tstn (Tagged s m slip) _ p
    (Decides-eqb slip.first.tmac
    (tag_field s.settings s.tagged (number_in m slip) (index_for slip.subclass m.index) slip.first (further_of slip)))

-- a rule with its number and what its test decides, and the rules after it
with_rest : {A B C : Type 0} → A → B → C → A × B × C
with_rest number test rest = (number, test, rest)

-- the rules stand in the order of their numbers, and each test decides what its rule says
in_order : (s : Suite) (m : Standing) (text : List ℕ) → InOrder (Says s m text) 1 (entry_rules s m text)
in_order s m text =
    let slip = slip_read s text in
    let blocks = blocks_in text in
    let low = slip.first.tstn in
    let marked = m.counted (number_in m slip) in
    let sum = m.credit + amount_read s text in
    with_rest refl (tells_length text) (λ _.
    with_rest refl (tells_digits text) (λ digits.
    with_rest refl (tells_sealed text digits) (λ _.
    with_rest refl (tells_blocks text) (λ _.
    with_rest refl (tells_served blocks) (λ known.
    with_rest refl (tells_fitting blocks known) (λ _.
    with_rest refl (tells_index slip.subclass m.index) (λ _.
    with_rest refl (tells_reach m.highest low) (λ there.
    with_rest refl (tells_tag s m text there) (λ _.
    with_rest refl (tells_of_number m.highest low (λ k. m.counted k ≡ false) (not marked) there (not-true marked, not_from_false marked)) (λ _.
    with_rest refl (Decides-ltb 0 (multiplier_of s.settings slip.first.config)) (λ _.
    with_rest refl (tells_priced slip.subclass (further_of slip)) (λ _.
    with_rest refl (leb-true sum s.settings.ceiling, le-leb sum s.settings.ceiling) (λ _.
    with_rest refl (Decides-ltb 0 m.writes) (λ _. refl))))))))))))))

-- no rule has a number below 1
none_before : (s : Suite) (m : Standing) (text : List ℕ) → Below (Says s m text) 1
none_before s m text f l = let some = (listed s m text f).some in absurd (omega arith)

all_said : (s : Suite) (m : Standing) (text : List ℕ) → AllKept (entry_rules s m text) → (e : Refusal) → Says s m text e
all_said s m text k e =
    let upto = walk_kept (Says s m text) (listed s m text) 1 (entry_rules s m text) (in_order s m text) (none_before s m text) k in
    ⊎_elim (λ l. upto e l) (λ h. (listed s m text e).other (omega arith)) (cases_lt (number_of e) 15)

refuses : (s : Suite) (m : Standing) (text : List ℕ) (e : Refusal) → FirstBroken (entry_rules s m text) e → Refuses s m text e
refuses s m text e b =
    let order = subst (InOrder (Says s m text) 1) b.split (in_order s m text) in
    let o = walk_broken (Says s m text) (listed s m text) 1 b.before b.after e order (none_before s m text) b.upheld in
    record {
      from = (listed s m text e).some;
      upto =
          ⊎_elim
          (λ (l : number_of e < 15). omega arith)
          (λ (h : 15 ≤ number_of e). absurd (o.1 ((listed s m text e).other (omega arith))))
          (cases_lt (number_of e) 15);
      earlier = o.0;
      broken = o.1;
    }

pub rules_at_any_standing : RulesAtAnyStanding
rules_at_any_standing s m text = (all_said s m text, refuses s m text)

-- what a slip that keeps its rules does to index and tariff
sets : (k : SubClass) (ps : List ℕ) (r : Record) (n a : ℕ) → (k ≡ Rates → r.index < 65535) → (k ≡ Rates → (t : Tariff) × Reads ps t) →
    Sets k ps r (taken r n a (brought_by k (tariff_in ps)))
sets Clear ps r n a i p = (refl, refl)
sets Enciphered ps r n a i p = (refl, refl)
sets Rates ps r n a i p =
    let t = (p refl).0 in
    let l = i refl in
    let e : tariff_in ps ≡ Some t = reads_back ps t (p refl).1 in
    rw e (omega arith, (t, (p refl).1, refl))

takes : (s : Suite) (r : Record) (writes : ℕ) (text : List ℕ) → ((e : Refusal) → Says s (standing r writes) text e) →
    Takes s r writes text (worth_of s.settings r (number_in (standing r writes) (slip_read s text)) (slip_read s text))
takes s r writes text kept =
    let m = standing r writes in
    let slip = slip_read s text in
    record {
      kept = kept;
      stands = reached m.highest slip.first.tstn ((tells_reach m.highest slip.first.tstn).1 (kept OutsideWindow));
      amount = refl;
      next = refl;
      sets = sets slip.subclass (parts_of slip) r (number_in m slip) (amount_read s text) (kept IndexFull) (kept RatePrices);
    }

verdict : (s : Suite) (r : Record) (writes : ℕ) (text : List ℕ) (v : Result Worth Refusal) → judged s r writes text ≡ v → Verdict s r writes text v
unfolding judged
verdict s r writes text (Ok w) p =
    let m = standing r writes in
    let worth = worth_of s.settings r (number_in m (slip_read s text)) (slip_read s text) in
    let passed = checked_ok (entry_rules s m text) worth w p in
    let P : Worth → Type 0 = λ w. Takes s r writes text w in
    subst P passed.1 (takes s r writes text (all_said s m text passed.0))
verdict s r writes text (Err e) p =
    let m = standing r writes in
    let worth = worth_of s.settings r (number_in m (slip_read s text)) (slip_read s text) in
    refuses s m text e (checked_err (entry_rules s m text) worth e p)

pub rules_decide : RulesDecide
rules_decide s r writes text = verdict s r writes text (judged s r writes text) refl
