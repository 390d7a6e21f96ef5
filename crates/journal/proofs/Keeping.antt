-- The law, carried from call to call: law_of, parts_of; opened, continued; performed_more.
use Rattle.std.proofs.Common.{◌≡◌, ℕ, List, [], ◌∷◌, ◌++◌, sym, refl, ◌∙◌, subst}
use Rattle.sealing.specs.Suites.{Suite, Sound}
use Rattle.journal.specs.declared.answers.Answer.{Answer}
use Rattle.journal.specs.declared.calls.Call.{Call}
use Rattle.journal.specs.Noted.{Line}
use Rattle.journal.specs.Standings.{World}
use Rattle.journal.specs.Law.{Law, NewRunKeeps}
use Rattle.journal.specs.Steps.{Performed, AllPerformed}
use Rattle.journal.proofs.Accounts.{Core}
use Rattle.journal.proofs.NextCall.{core_none, core_more}
use Rattle.journal.proofs.Honouring.{honours}

-- the law, from its parts
law_of : (s : Suite) → Sound s → (start : World) (lines : List Line) (end : World) → Core s start lines end → Law s start lines end
law_of s sound start lines end core =
    let m = core.meter in
    let t = core.till in
    record {
      credit = m.credit;
      numbers = record {
        marks = m.marks;
        once = m.once;
        drawn = t.drawn;
        each = t.each;
        drawn_count = t.drawn_count;
        issued_count = t.issued_count;
        voided_count = t.voided_count;
        balance = t.balance;
        fits = t.fits;
      };
      honoured = honours s sound start.kept.credit start.writes lines core.right;
      highest = m.highest;
      index = m.index;
      tariff = m.tariff;
      till_index = t.till_index;
      till_index_fits = t.index_fits;
      store = m.store;
      right = core.right;
    }

-- and back
parts_of : (s : Suite) (start : World) (lines : List Line) (end : World) → Law s start lines end → Core s start lines end
parts_of s start lines end law =
    let n = law.numbers in
    record {
      meter = record {
        credit = law.credit;
        marks = n.marks;
        once = n.once;
        highest = law.highest;
        index = law.index;
        tariff = law.tariff;
        store = law.store;
      };
      till = record {
        drawn = n.drawn;
        each = n.each;
        drawn_count = n.drawn_count;
        issued_count = n.issued_count;
        voided_count = n.voided_count;
        balance = n.balance;
        till_index = law.till_index;
        fits = n.fits;
        index_fits = law.till_index_fits;
      };
      right = law.right;
    }

-- a call with its answer and the writes left afterwards
abbrev pub line_of : Call → Answer → ℕ → Line
line_of c x writes = record { call = c; answer = x; writes = writes }

-- before the first call
pub opened : (t s : Suite) → Sound s → (start end : World) (lines : List Line) → lines ≡ [] → end ≡ start → NewRunKeeps t s start lines end
opened t s sound start end lines none same new agree =
    subst (λ ls. Law s start ls end) (sym none) (subst (Law s start []) (sym same) (law_of s sound start [] start (core_none s start new)))

-- one call more, by a till and a meter whose suites it leaves as they were
pub continued : (t t' s s' : Suite) → Sound s → (start : World) (h lines : List Line) (w v : World) (c : Call) (x : Answer) → t' ≡ t → s' ≡ s →
    lines ≡ h ++ line_of c x v.writes ∷ [] → Performed t s c x w v → NewRunKeeps t s start h w → NewRunKeeps t' s' start lines v
continued t t' s s' sound start h lines w v c x same_till same-meter one_more did before new agree =
    let same : t ≡ s = sym same_till ∙ agree ∙ same-meter in
    let law = law_of s sound start (h ++ line_of c x v.writes ∷ []) v
    (core_more s start h w v (parts_of s start h w (before new same)) c x (subst (λ u. Performed u s c x w v) same did)) in
    subst (λ u. Law u start lines v) (sym same-meter) (subst (λ ls. Law s start ls v) (sym one_more) law)

-- one call more is performed, of a journal at any till and meter
pub performed_more : (t s : Suite) (w : World) (h : List Line) (old new : World) (c : Call) (x : Answer) → AllPerformed t s w h old → Performed t s c x old new →
    AllPerformed t s w (h ++ line_of c x new.writes ∷ []) new
performed_more t s w [] old new c x same did = (new, subst (λ q. Performed t s c x q new) same did, refl, refl)
performed_more t s w (l ∷ ls) old new c x (next, first, noted, rest) did = (next, first, noted, performed_more t s next ls old new c x rest did)
