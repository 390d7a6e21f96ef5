-- The rounds taken back undo the rounds, and the other way round: by induction over the rounds, for any sizes and round function.
use Rattle.std.proofs.Common.{◌≡◌, ℕ, zero, suc, ◌+◌, ◌-◌, ◌*◌, ◌/◌, ◌%◌, ◌^◌, ◌<◌, sym, refl, ap, ◌∙◌, subst, ap₂, mod-lt, mul-pos, pow-suc, div-add-mod', arith, lit<, pow-add}
use native.Mathlib.Nat.{pow-zero}
use lib.Arith.{digits_div, digits_mod, digits_lt}
use Rattle.std.proofs.lemmas.Nat.{div_below}
use Rattle.feistel.specs.Feistel.{alternate, round, unround, run, unrun, halves, whole, forward, backward, Undoes, Redoes, Stays}
use Rattle.feistel.proofs.Modular.{add_back, sub_back}

-- the round that comes n rounds after the round i
abbrev pub past : (n i : ℕ) → ℕ
past zero i = i
past (suc n) i = past n (suc i)

module _ (M : ℕ → ℕ) (F : ℕ → ℕ → ℕ) where
  -- the halves before the round i are below their sizes
  abbrev pub In : ℕ → ℕ × ℕ → Type 0
  In i s = (s.0 < M i) × (s.1 < M (suc i))

  -- a round's sizes come back two rounds on
  module _ (two : (i : ℕ) → M (suc (suc i)) ≡ M i) where
    round_in : (i : ℕ) (s : ℕ × ℕ) → In i s → In (suc i) (round M F i s)
    unfolding round
    round_in i s p = (p.1, subst (λ (m : ℕ). (s.0 + F i s.1) % M i < m) (sym (two i)) (mod-lt _ (omega arith)))

    unround_in : (i : ℕ) (s : ℕ × ℕ) → In (suc i) s → In i (unround M F i s)
    unfolding unround
    unround_in i s p = (mod-lt _ (let h = two i in omega arith), p.0)

    back : (i : ℕ) (s : ℕ × ℕ) → In i s → unround M F i (round M F i s) ≡ s
    unfolding round unround
    back i s p = ap (λ (a : ℕ). (a, s.1)) (add_back s.0 (F i s.1) (M i) p.0)

    forth : (i : ℕ) (s : ℕ × ℕ) → In (suc i) s → round M F i (unround M F i s) ≡ s
    unfolding round unround
    forth i s p = ap (λ (b : ℕ). (s.0, b)) (sub_back s.1 (F i s.0) (M i) (let h = two i in omega arith))

    pub run_in : (n i : ℕ) (s : ℕ × ℕ) → In i s → In (past n i) (run M F n i s)
    unfolding run
    run_in zero i s p = p
    run_in (suc n) i s p = run_in n (suc i) (round M F i s) (round_in i s p)

    pub unrun_in : (n i : ℕ) (s : ℕ × ℕ) → In (past n i) s → In i (unrun M F n i s)
    unfolding unrun
    unrun_in zero i s p = p
    unrun_in (suc n) i s p = unround_in i (unrun M F n (suc i) s) (unrun_in n (suc i) s p)

    pub run_back : (n i : ℕ) (s : ℕ × ℕ) → In i s → unrun M F n i (run M F n i s) ≡ s
    unfolding run unrun
    run_back zero i s p = refl
    run_back (suc n) i s p = ap (unround M F i) (run_back n (suc i) (round M F i s) (round_in i s p)) ∙ back i s p

    pub run_forth : (n i : ℕ) (s : ℕ × ℕ) → In (past n i) s → run M F n i (unrun M F n i s) ≡ s
    unfolding run unrun
    run_forth zero i s p = refl
    run_forth (suc n) i s p =
        ap (run M F n (suc i)) (forth i (unrun M F n (suc i) s) (unrun_in n (suc i) s p)) ∙ run_forth n (suc i) s p

-- ---- numbers and their halves

pos : (r k : ℕ) → 0 < r → 0 < r ^ k
pos r zero h = subst (λ (n : ℕ). 0 < n) (sym (pow-zero r)) (lit< tt)
pos r (suc k) h = subst (λ (n : ℕ). 0 < n) (sym (pow-suc r k)) (mul-pos (pos r k h) h)

-- the size of a number of n digits is the product of the sizes of its halves
pub parts : (r n : ℕ) → r ^ n ≡ r ^ (n / 2) * r ^ (n - n / 2)
parts r n =
    let e : n ≡ n / 2 + (n - n / 2) = omega arith in
    ap (λ (k : ℕ). r ^ k) e ∙ pow-add r (n / 2) (n - n / 2)

module _ (r n : ℕ) (F : ℕ → ℕ → ℕ) (h : 0 < r) where
  abbrev pub m : ℕ
  m = r ^ (n - n / 2)

  abbrev pub M : ℕ → ℕ
  M = alternate (r ^ (n / 2)) (r ^ (n - n / 2))

  pub halves_in : (x : ℕ) → x < r ^ n → In M F 0 (halves m x)
  halves_in x l =
      (div_below x m (r ^ (n / 2)) (pos r (n - n / 2) h) (subst (λ (k : ℕ). x < k) (parts r n) l), mod-lt x (pos r (n - n / 2) h))

  pub whole_in : (s : ℕ × ℕ) → In M F 0 s → whole m s < r ^ n
  whole_in s p = subst (λ (k : ℕ). whole m s < k) (sym (parts r n)) (digits_lt p.0 p.1)

  halves-whole : (s : ℕ × ℕ) → In M F 0 s → halves m (whole m s) ≡ s
  halves-whole s p = ap₂ (λ (a b : ℕ). (a, b)) (digits_div s.0 p.1) (digits_mod s.0 p.1)

  two : (i : ℕ) → M (suc (suc i)) ≡ M i
  two i = refl

  pub undoes : (x : ℕ) → x < r ^ n → backward r n F (forward r n F x) ≡ x
  unfolding forward backward
  undoes x l =
      ap (λ (s : ℕ × ℕ). whole m (unrun M F 10 0 s)) (halves-whole _ (run_in M F two 10 0 (halves m x) (halves_in x l)))
      ∙ ap (whole m) (run_back M F two 10 0 (halves m x) (halves_in x l)) ∙ div-add-mod' x m

  pub redoes : (x : ℕ) → x < r ^ n → forward r n F (backward r n F x) ≡ x
  unfolding forward backward
  redoes x l =
      ap (λ (s : ℕ × ℕ). whole m (run M F 10 0 s)) (halves-whole _ (unrun_in M F two 10 0 (halves m x) (halves_in x l)))
      ∙ ap (whole m) (run_forth M F two 10 0 (halves m x) (halves_in x l)) ∙ div-add-mod' x m

  pub stays : (x : ℕ) → x < r ^ n → (forward r n F x < r ^ n) × (backward r n F x < r ^ n)
  unfolding forward backward
  stays x l =
      (whole_in _ (run_in M F two 10 0 (halves m x) (halves_in x l)), whole_in _ (unrun_in M F two 10 0 (halves m x) (halves_in x l)))

pub undoes_all : Undoes
undoes_all r n F x h l = undoes r n F h x l

pub redoes_all : Redoes
redoes_all r n F x h l = redoes r n F h x l

pub stays_all : Stays
stays_all r n F x h l = stays r n F h x l
