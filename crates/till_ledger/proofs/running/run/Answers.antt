use Rattle.std.proofs.Common.{◌≡◌, ◌+◌, ◌≤◌, [], ◌++◌, vec_items, vec_len, vec_capacity, sym, refl, ap, ◌∙◌, subst, arith, rules}
use Rattle.std.specs.Vec.Iter.{into_iter_items}
use Rattle.meter.specs.Meters.{with_store, suite_at}
use Rattle.till.specs.Tills.{with_desk, till_suite}
use Rattle.journal.specs.Law.{NewRunKeeps}
use Rattle.journal.specs.Standings.{World}
use Rattle.journal.specs.Steps.{Performed, AllPerformed}
use Rattle.journal.proofs.Keeping.{performed_more}
use Rattle.till_ledger.specs.Ledgers.{world_of, calls_of, journal_of, start_of, world_at}
use Rattle.till_ledger.proofs.Listing.{calls_more, calls_all, length_more, hand_long}
use Rattle.till_ledger.proofs.running.run.Goals as goal

pub loop-call-init : goal.loop-call-init
loop-call-init g c =
    let opened = c.open-ledger.result in
    let of_till = till_suite g.C.Cipher.enciphered g.C.Cipher.deciphered g.A.Authenticator.tagged opened.till in
    let of_meter = suite_at g.C.Cipher.enciphered g.C.Cipher.deciphered g.A.Authenticator.tagged opened.meter in
    let it = c.into_iter-call-iterator.result in
    let items : vec_items c.reserve.new.self ≡ vec_items opened.lines = c.reserve.ensures.items in
    let held : vec_items c.reserve-2.new.self ≡ vec_items opened.hand = c.reserve-2.ensures.items in
    let none : vec_items c.reserve.new.self ≡ [] = items ∙ c.open-ledger.ensures.journal in
    let at : World = world_of g.S.Store.kept g.S.Store.writes opened.till (vec_items c.reserve-2.new.self) opened.meter in
    let room : vec_len c.reserve.new.self + c.len.result ≤ vec_capacity c.reserve.new.self = search rules in
    let place : vec_len c.reserve-2.new.self + c.len-2.result ≤ vec_capacity c.reserve-2.new.self = search rules in (
      tt,
      tt,
      ap (λ ls. calls_of ls ++ into_iter_items it) none,
      omega (arith, room, c.len.ensures, c.into_iter-call-iterator.ensures.into_iter_gives.1),
      omega (arith, place, c.len-2.ensures, c.into_iter-call-iterator.ensures.into_iter_gives.1),
      refl,
      refl,
      refl,
      subst (λ ls. NewRunKeeps of_till of_meter (start_of opened) ls at) (sym items)
          (subst (λ hand. NewRunKeeps of_till of_meter (start_of opened) (vec_items opened.lines) (world_of g.S.Store.kept g.S.Store.writes opened.till hand opened.meter)) (sym held)
          c.open-ledger.ensures.lawful),
      subst (λ ls. AllPerformed of_till of_meter at ls at) (sym none) refl,
    )

pub loop-call-preserved : goal.loop-call-preserved
loop-call-preserved g c =
    let inv = c.loop-call.invariant in
    let old = c.loop-call.ledger in
    let new = c.note.new.self in
    let first = c.open-ledger.result in
    let call = c.in-Some.call in
    let of_till = till_suite g.C.Cipher.enciphered g.C.Cipher.deciphered g.A.Authenticator.tagged in
    let of_meter = suite_at {S = g.row.S.Denot} g.C.Cipher.enciphered g.C.Cipher.deciphered g.A.Authenticator.tagged in
    let at = world_at {C = g.row.C.Denot} {A = g.row.A.Denot} g.S.Store.kept g.S.Store.writes in
    let begun = world_of g.S.Store.kept g.S.Store.writes first.till (vec_items c.reserve-2.new.self) first.meter in
    let steps = c.in-Some.ensures.steps in
    let noted = c.note.ensures.noted in
    let more = length_more (journal_of old) (journal_of new) _ noted in
    let did = c.note.ensures.did in
    let long = hand_long (of_till old.till) (of_meter old.meter) call c.note.result (at old) (at new) did in
    let same : Performed (of_till first.till) (of_meter first.meter) call c.note.result (at old) (at new) =
    subst (λ t. Performed t (of_meter first.meter) call c.note.result (at old) (at new)) (ap of_till inv.6)
    (subst (λ s. Performed (of_till old.till) s call c.note.result (at old) (at new)) (ap of_meter inv.5) did) in (
      tt,
      tt,
      calls_more (journal_of old) (journal_of new) call c.note.result _ _ _ _ noted steps.0 inv.2,
      omega (arith, inv.3, steps.1, more, new.lines.ok.0, old.lines.ok.0, c.note.ensures.capacity),
      omega (arith, inv.4, steps.1, long, new.hand.ok.0, old.hand.ok.0, c.note.ensures.hand_capacity),
      c.note.ensures.meter ∙ ap (λ n. with_store n new.meter.parts.store) inv.5,
      c.note.ensures.till ∙ ap (λ t. with_desk t new.till.index new.till.counts) inv.6,
      c.note.ensures.opening ∙ inv.7,
      c.note.ensures.lawful inv.8,
      subst (λ ls. AllPerformed (of_till first.till) (of_meter first.meter) begun ls (at new)) (sym noted)
          (performed_more (of_till first.till) (of_meter first.meter) begun (journal_of old) (at old) (at new) call c.note.result inv.9 same),
    )

pub returns : goal.returns
returns g c =
    let inv = c.loop-call.invariant in
    let last = c.loop-call.ledger in
    let it = c.loop-call.call-iterator in
    let opened = c.open-ledger.ensures in
    let kept = g.S.Store.kept in
    let writes = g.S.Store.writes in
    let of_till = till_suite g.C.Cipher.enciphered g.C.Cipher.deciphered g.A.Authenticator.tagged in
    let of_meter = suite_at {S = g.row.S.Denot} g.C.Cipher.enciphered g.C.Cipher.deciphered g.A.Authenticator.tagged in
    let at = world_at {C = g.row.C.Denot} {A = g.row.A.Denot} kept writes last in
    let begun = world_of kept writes c.args.till [] c.args.meter in
    let all : calls_of (journal_of last) ≡ into_iter_items c.into_iter-call-iterator.result =
    calls_all (journal_of last) (into_iter_items it) _ (omega (arith, it.rest.ok.0, c.in-None.ensures.steps.0)) inv.2 in
    let hand : vec_items c.reserve-2.new.self ≡ [] = c.reserve-2.ensures.items ∙ opened.hand in
    let meter : last.meter ≡ with_store c.args.meter last.meter.parts.store =
    inv.5 ∙ ap (λ n. with_store n last.meter.parts.store) opened.meter in
    let till : last.till ≡ with_desk c.args.till last.till.index last.till.counts =
    inv.6 ∙ ap (λ t. with_desk t last.till.index last.till.counts) opened.till in
    let start : start_of last ≡ begun =
    (λ i. record { kept = (inv.7 i).kept; writes = (inv.7 i).writes; counts = (inv.7 i).counts; index = (inv.7 i).index; hand = [] }) ∙ opened.start in
    record {
      calls = all ∙ c.into_iter-call-iterator.ensures.into_iter_gives.0;
      meter = meter;
      till = till;
      start = start;
      memory = tt;
      performed =
          subst (λ t. AllPerformed (of_till t) (of_meter c.args.meter) (world_of kept writes t [] c.args.meter) (journal_of last) at) opened.till
          (subst (λ m. AllPerformed (of_till c.open-ledger.result.till) (of_meter m) (world_of kept writes c.open-ledger.result.till [] m) (journal_of last) at) opened.meter
          (subst (λ h. AllPerformed (of_till c.open-ledger.result.till) (of_meter c.open-ledger.result.meter) (world_of kept writes c.open-ledger.result.till h c.open-ledger.result.meter) (journal_of last) at) hand inv.9));
      law =
          subst (λ t. NewRunKeeps t (of_meter c.args.meter) begun (journal_of last) at) (ap of_till till)
          (subst (λ m. NewRunKeeps (of_till last.till) m begun (journal_of last) at) (ap of_meter meter)
          (subst (λ w. NewRunKeeps (of_till last.till) (of_meter last.meter) w (journal_of last) at) start inv.8));
    }
