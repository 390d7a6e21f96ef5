use Rattle.std.proofs.Common.{◌≡◌, ◌+◌, ◌≤◌, ◌++◌, vec_items, vec_len, vec_capacity, sym, refl, ap, ◌∙◌, subst, arith, rules}
use Rattle.std.specs.Vec.Iter.{into_iter_items}
use Rattle.sealing.specs.Suites.{Suite}
use Rattle.meter.specs.Meters.{with_store, suite_at}
use Rattle.meter.specs.declared.service.Meter.{Meter}
use Rattle.ledger.specs.Law.{Law}
use Rattle.ledger.specs.Steps.{Performed, AllPerformed}
use Rattle.ledger.specs.Ledgers.{calls_of, journal_of, NewMeterKeeps}
use Rattle.ledger.proofs.Listing.{calls_more, calls_all, length_more, performed_more}
use Rattle.ledger.proofs.running.run.Given as given
use Rattle.ledger.proofs.running.run.Goals as goal

abbrev agreed : (g : given.Over) → Meter g.row.S.Denot g.row.C.Denot g.row.A.Denot → Suite
agreed g m = suite_at g.C.Cipher.enciphered g.C.Cipher.deciphered g.A.Authenticator.tagged m

pub loop-call-init : goal.loop-call-init
loop-call-init g c =
    let opened = c.open-ledger.result in
    let m = opened.meter in
    let it = c.into_iter-call-iterator.result in
    let items : vec_items c.reserve.new.self ≡ vec_items opened.lines = c.reserve.ensures.items in
    let room : vec_len c.reserve.new.self + c.len.result ≤ vec_capacity c.reserve.new.self = search rules in (
      tt,
      tt,
      ap (λ ls. calls_of ls ++ into_iter_items it) (items ∙ c.open-ledger.ensures.journal),
      omega (arith, room, c.len.ensures, c.into_iter-call-iterator.ensures.into_iter_gives.1),
      refl,
      refl,
      λ new.
          subst (λ ls. Law (agreed g m) opened.opening.kept.credit opened.opening.writes ls (g.S.Store.kept m.parts.store) (g.S.Store.writes m.parts.store))
          (sym items) (c.open-ledger.ensures.lawful new),
      subst (λ ls. AllPerformed (agreed g m) (g.S.Store.kept m.parts.store) (g.S.Store.writes m.parts.store) ls (g.S.Store.kept m.parts.store) (g.S.Store.writes m.parts.store))
          (sym (items ∙ c.open-ledger.ensures.journal)) (refl, refl),
    )

pub loop-call-preserved : goal.loop-call-preserved
loop-call-preserved g c =
    let inv = c.loop-call.invariant in
    let old = c.loop-call.ledger in
    let new = c.note.new.self in
    let m = c.open-ledger.result.meter in
    let kept = g.S.Store.kept in
    let writes = g.S.Store.writes in
    let steps = c.in-Some.ensures.steps in
    let noted = c.note.ensures.noted in
    let more = length_more (journal_of old) (journal_of new) _ noted in (
      tt,
      tt,
      calls_more (journal_of old) (journal_of new) c.in-Some.call c.note.result _ _ _ _ noted steps.0 inv.2,
      omega (arith, inv.3, steps.1, more, new.lines.ok.0, old.lines.ok.0, c.note.ensures.capacity),
      c.note.ensures.same ∙ ap (λ n. with_store n new.meter.parts.store) inv.4,
      c.note.ensures.opening ∙ inv.5,
      c.note.ensures.lawful inv.6,
      subst (λ ls. AllPerformed (agreed g m) (kept m.parts.store) (writes m.parts.store) ls (kept new.meter.parts.store) (writes new.meter.parts.store))
          (sym noted)
          (performed_more (agreed g m) (kept m.parts.store) (writes m.parts.store) (journal_of old) (kept old.meter.parts.store) (writes old.meter.parts.store) c.in-Some.call c.note.result (kept new.meter.parts.store) (writes new.meter.parts.store) inv.7
          (subst (λ s. Performed s c.in-Some.call c.note.result (kept old.meter.parts.store) (writes old.meter.parts.store) (kept new.meter.parts.store) (writes new.meter.parts.store)) (ap (agreed g) inv.4) c.note.ensures.did)),
    )

pub returns : goal.returns
returns g c =
    let inv = c.loop-call.invariant in
    let last = c.loop-call.ledger in
    let it = c.loop-call.call-iterator in
    let opened = c.open-ledger.ensures in
    let meter : c.open-ledger.result.meter ≡ c.args.meter = opened.meter in
    let kept = g.S.Store.kept in
    let writes = g.S.Store.writes in
    let all : calls_of (journal_of last) ≡ into_iter_items c.into_iter-call-iterator.result =
    calls_all (journal_of last) (into_iter_items it) _ (omega (arith, it.rest.ok.0, c.in-None.ensures.steps.0)) inv.2 in
    let only : last.meter ≡ with_store c.args.meter last.meter.parts.store =
    inv.4 ∙ ap (λ n. with_store n last.meter.parts.store) meter in
    let opening : last.opening.kept ≡ kept c.args.meter.parts.store = ap (λ o. o.kept) inv.5 ∙ opened.opening in
    let at_first : last.opening.writes ≡ writes c.args.meter.parts.store = ap (λ o. o.writes) inv.5 ∙ opened.writes in
    record {
      calls = all ∙ c.into_iter-call-iterator.ensures.into_iter_gives.0;
      same = only;
      memory = tt;
      performed =
          subst (λ n. AllPerformed (agreed g n) (kept n.parts.store) (writes n.parts.store) (journal_of last) (kept last.meter.parts.store) (writes last.meter.parts.store)) meter inv.7;
      opening = opening;
      writes = at_first;
      law =
          subst (λ r. NewMeterKeeps (agreed g c.args.meter) r (writes c.args.meter.parts.store) (journal_of last) (kept last.meter.parts.store) (writes last.meter.parts.store)) opening
          (subst (λ w. NewMeterKeeps (agreed g c.args.meter) last.opening.kept w (journal_of last) (kept last.meter.parts.store) (writes last.meter.parts.store)) at_first
          (subst (λ s. NewMeterKeeps s last.opening.kept last.opening.writes (journal_of last) (kept last.meter.parts.store) (writes last.meter.parts.store)) (ap (agreed g) only) inv.6));
    }
