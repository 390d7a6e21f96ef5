-- A list of calls, worked off one by one: calls_more, calls_all, length_more, performed_more.
use Rattle.std.proofs.Common.{◌≡◌, ℕ, ◌+◌, List, [], ◌∷◌, ◌++◌, length, sym, refl, ap, ◌∙◌, subst, append_assoc, arith}
use Rattle.std.proofs.lemmas.List.{append-nil, map_push, length-append}
use Rattle.record.specs.declared.Record.{Record}
use Rattle.sealing.specs.Suites.{Suite}
use Rattle.meter.specs.declared.answers.Answer.{Answer}
use Rattle.ledger.specs.declared.calls.Call.{Call}
use Rattle.ledger.specs.Noted.{Line}
use Rattle.ledger.specs.Steps.{Performed, AllPerformed}
use Rattle.ledger.specs.Ledgers.{line_of, calls_of}

-- the calls noted and the calls left are all calls, when one more is noted
pub calls_more : (journal after : List Line) (call : Call) (x : Answer) (writes : ℕ) (left rest all : List Call) →
    after ≡ journal ++ line_of call x writes ∷ [] → left ≡ call ∷ rest → calls_of journal ++ left ≡ all → calls_of after ++ rest ≡ all
calls_more journal after call x writes left rest all noted next before =
    ap (λ ls. calls_of ls ++ rest) noted
    ∙ ap (λ cs. cs ++ rest) (map_push (λ l. l.call) journal (line_of call x writes))
    ∙ append_assoc (calls_of journal) (call ∷ []) rest
    ∙ ap (λ cs. calls_of journal ++ cs) (sym next)
    ∙ before

-- and when none is left
pub calls_all : (journal : List Line) (left all : List Call) → length left ≡ 0 → calls_of journal ++ left ≡ all → calls_of journal ≡ all
calls_all journal [] all none before = sym (append-nil (calls_of journal)) ∙ before
calls_all journal (c ∷ cs) all none before = absurd (omega (arith, none))

-- the journal is longer by one
pub length_more : (journal after : List Line) (l : Line) → after ≡ journal ++ l ∷ [] → length after ≡ length journal + 1
length_more journal after l noted = ap length noted ∙ length-append journal (l ∷ [])

-- one call more is performed
pub performed_more : (s : Suite) (r : Record) (writes : ℕ) (h : List Line) (old : Record) (had : ℕ) (c : Call) (x : Answer) (new : Record) (left : ℕ) →
    AllPerformed s r writes h old had → Performed s c x old had new left → AllPerformed s r writes (h ++ line_of c x left ∷ []) new left
performed_more s r writes [] old had c x new left (same, as_many) did =
    (new, subst (λ q. Performed s c x q writes new left) same (subst (λ k. Performed s c x old k new left) as_many did), (refl, refl))
performed_more s r writes (l ∷ ls) old had c x new left (next, first, rest) did =
    (next, first, performed_more s next l.writes ls old had c x new left rest did)
