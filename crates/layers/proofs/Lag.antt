-- How far a write-behind layer runs ahead, one write after the other: lags. It takes two laws of the store below: a write
-- that is done is then meant, and lowers the count by one at most.
use Rattle.std.proofs.Common.{◌≡◌, ℕ, ◌-◌, ◌<◌, ◌≤◌, Bool, true, false, cond, ltb, List, [], ◌∷◌, ◌++◌, length, sym, refl, ap, ◌∙◌, subst, append_assoc, append-nil, arith, length-append}
use Rattle.std.proofs.lemmas.Bool.{and_parts, ltb-true, lt-ltb}
use Rattle.refusal.proofs.Making.{holds}
use Rattle.record.specs.declared.Record.{Record}
use Rattle.layers.specs.declared.length.Length.{Length}
use Rattle.layers.specs.declared.write_behind.WriteBehind.{WriteBehind}
use Rattle.layers.specs.Limits.{lengthable}
use Rattle.layers.specs.WriteBehind.{behind_over, count_of, keeping, writing, behind_kept, only_keeps, behind_after}
use Rattle.layers.specs.WriteBehindLaws.{none_newest, some_newest, behind_least}
use Rattle.layers.specs.Lag.{last_of, Falls, all_written, Lags, LagLaw}

last_append : (first : Record) (xs ys : List Record) → last_of first (xs ++ ys) ≡ last_of (last_of first xs) ys
last_append first [] ys = refl
last_append first (x ∷ xs) ys = last_append x xs ys

falls_push : (first : Record) (xs : List Record) (r : Record) → Falls first xs → r.credit < (last_of first xs).credit → Falls first (xs ++ r ∷ [])
falls_push first [] r f h = (h, tt)
falls_push first (x ∷ xs) r f h = (f.0, falls_push x xs r f.1 h)

long : (k : Length) → 0 < k.value
long k = ltb-true 0 k.value (and_parts _ _ (holds (lengthable k.value) k.ok)).0

module _ {S : Type 0} (kept : S → Record) (writes : S → ℕ) (after : S → Record → S)
    (held : (s : S) (r : Record) → 0 < writes s → kept (after s r) ≡ r) (least : (s : S) (r : Record) → 0 < writes s → writes s - 1 ≤ writes (after s r)) where
  -- one write that is only kept
  kept_on : (first : Record) (rs : List Record) (s : WriteBehind S) (r : Record) → Lags kept writes after first rs s → 0 < writes s.below → only_keeps kept writes s r ≡ true → Lags kept writes after first (rs ++ r ∷ []) (keeping s r)
  kept_on first rs s r g w e =
      let both = and_parts (ltb r.credit (behind_kept kept writes s).credit) (ltb (count_of s.kept) (s.length.value - 1)) e in
      let lower : r.credit < (behind_kept kept writes s).credit = ltb-true _ _ both.0 in
      let room : count_of s.kept < s.length.value - 1 = ltb-true _ _ both.1 in
      let end : behind_kept kept writes s ≡ last_of (kept s.below) g.ahead =
      g.newest ∙ ap (last_of first) g.split ∙ last_append first g.below g.ahead ∙ ap (λ (x : Record). last_of x g.ahead) (sym g.reached) in
      let longer = length-append g.ahead (r ∷ []) in
      record {
        below = g.below;
        ahead = g.ahead ++ r ∷ [];
        split = ap (λ (xs : List Record). xs ++ r ∷ []) g.split ∙ append_assoc g.below g.ahead (r ∷ []);
        newest = some_newest (ltb 0 (writes s.below)) _ _ (lt-ltb 0 (writes s.below) w) ∙ sym (last_append first rs (r ∷ []));
        reached = g.reached;
        falls = falls_push (kept s.below) g.ahead r g.falls (subst (λ (x : Record). r.credit < x.credit) end lower);
        few = omega (arith, longer, room, g.count);
        count = omega (arith, longer, g.count);
      }

  -- one write that goes below
  gone_below : (first : Record) (rs : List Record) (s : WriteBehind S) (r : Record) → 0 < writes s.below → Lags kept writes after first (rs ++ r ∷ []) (writing after s r)
  gone_below first rs s r w =
      let last : r ≡ last_of first (rs ++ r ∷ []) = sym (last_append first rs (r ∷ [])) in
      record {
        below = rs ++ r ∷ [];
        ahead = [];
        split = sym (append-nil (rs ++ r ∷ []));
        newest = none_newest (ltb 0 (writes (after s.below r))) (kept (after s.below r)) ∙ held s.below r w ∙ last;
        reached = held s.below r w ∙ last;
        falls = tt;
        few = long s.length;
        count = refl;
      }

  step_by : (b : Bool) (first : Record) (rs : List Record) (s : WriteBehind S) (r : Record) → only_keeps kept writes s r ≡ b → Lags kept writes after first rs s → 0 < writes s.below
      → Lags kept writes after first (rs ++ r ∷ []) (cond b (keeping s r) (writing after s r))
  step_by true first rs s r e g w = kept_on first rs s r g w e
  step_by false first rs s r e g w = gone_below first rs s r w

  runs : (first : Record) (done rs : List Record) (s : WriteBehind S) → Lags kept writes after first done s → length rs ≤ writes s.below → Lags kept writes after first (done ++ rs) (all_written kept writes after s rs)
  runs first done [] s g h = subst (λ (xs : List Record). Lags kept writes after first xs s) (sym (append-nil done)) g
  runs first done (r ∷ rs) s g h =
      let b = only_keeps kept writes s r in
      let some : 0 < writes s.below = omega arith in
      let next : WriteBehind S = behind_after kept writes after s r in
      let more = runs first (done ++ r ∷ []) rs next (step_by b first done s r refl g some) (omega (arith, behind_least kept writes after least s r some)) in
      subst (λ (xs : List Record). Lags kept writes after first xs (all_written kept writes after next rs)) (append_assoc done (r ∷ []) rs) more

  pub lags : LagLaw kept writes after
  lags store k rs h =
      runs (kept store) [] rs (behind_over store k) (record {
        below = [];
        ahead = [];
        split = refl;
        newest = none_newest (ltb 0 (writes store)) (kept store);
        reached = refl;
        falls = tt;
        few = long k;
        count = refl;
      }) h
