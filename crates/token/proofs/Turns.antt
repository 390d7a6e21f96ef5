-- One field more, from the front for packing (turn) and from the back for unpacking (turn_back). Assumes nothing.
use Rattle.std.proofs.Common.{◌≡◌, ℕ, ◌+◌, ◌*◌, ◌/◌, ◌%◌, ◌^◌, ◌<◌, ◌≤◌, ◌⊎◌, inl, inr, List, [], ◌∷◌, ◌++◌, length, drop, set, sym, ap, ◌∙◌, mod-eq_of_lt, mul_assoc, append_assoc, length-append, add-mul, mul-le-mul_left, div-one, arith}
use native.Mathlib.Nat.{pow-le-pow_right}
use Rattle.std.proofs.lemmas.Nat.{pow_pos, pow-add, shr-shr}
use Rattle.std.proofs.lemmas.List.{drop_all, drop-set, length-set, append-nil}
use Rattle.token.specs.Widths.{total, packed, unpacked, Fit}
use Rattle.token.proofs.Packs.{packs}

-- what is packed already, and what is left: widths and values of fields that are still to come
pub record Left (ws vs : List ℕ) (whole word : ℕ) : Type 0 where
  pub fit : Fit ws vs
  pub room : total ws < 64
  pub rest : word * 2 ^ total ws + packed ws vs ≡ whole

-- a turn of packing: the new word is not cut, since all fields together have room
pub record Turn (w v : ℕ) (ws vs : List ℕ) (whole word : ℕ) : Type 0 where
  pub narrow : w < 64
  pub fits : word * 2 ^ w % 2 ^ 64 + v < 2 ^ 64
  pub next : Left ws vs whole (word * 2 ^ w % 2 ^ 64 + v)

pub turn : (w v : ℕ) (ws vs : List ℕ) (whole word : ℕ) → whole < 2 ^ 64 → Left (w ∷ ws) (v ∷ vs) whole word → Turn w v ws vs whole word
turn w v ws vs whole word h l =
    let t = total ws in
    let here : word * 2 ^ (w + t) ≡ word * 2 ^ w * 2 ^ t = ap (λ x. word * x) (pow-add 2 w t) ∙ sym (mul_assoc word (2 ^ w) (2 ^ t)) in
    let rest : (word * 2 ^ w + v) * 2 ^ t + packed ws vs ≡ whole = omega (arith, l.rest, here, add-mul (word * 2 ^ w) v (2 ^ t)) in
    let m = mul-le-mul_left {m = 1} {n = 2 ^ t} (word * 2 ^ w + v) (pow_pos t) in
    let small : word * 2 ^ w + v < 2 ^ 64 = omega (arith, rest, m) in
    let uncut : word * 2 ^ w % 2 ^ 64 ≡ word * 2 ^ w = mod-eq_of_lt (omega (arith, small)) in
    let r = l.room in
    record {
      narrow = omega (arith, r);
      fits = rw uncut small;
      next = rw uncut (record { fit = l.fit.1; room = omega (arith, r); rest = rest });
    }

pub in_word : (ws vs : List ℕ) → Fit ws vs → total ws < 64 → packed ws vs < 2 ^ 64
in_word ws vs f r = omega (arith, (packs ws).below vs f, pow-le-pow_right {n = 2} (omega arith) {i = total ws} {j = 63} (omega arith))

-- where no field is left, the word is whole
pub left_none : (ws vs : List ℕ) (whole word : ℕ) → Left ws vs whole word → (length ws ≡ 0) ⊎ (length vs ≡ 0) → word ≡ whole
left_none [] vs whole word l e = let r = l.rest in omega arith
left_none (w ∷ ws) [] whole word l e = absurd l.fit
left_none (w ∷ ws) (v ∷ vs) whole word l (inl e) = absurd (omega arith)
left_none (w ∷ ws) (v ∷ vs) whole word l (inr e) = absurd (omega arith)

-- what is unpacked already, from the back, where some widths are still to come
pub record Behind (ws fs front : List ℕ) (n left : ℕ) : Type 0 where
  pub after : List ℕ
  pub split : front ++ after ≡ ws
  pub long : length fs ≡ length ws
  pub rest : left ≡ n / 2 ^ total after
  pub fields : drop (length front) fs ≡ unpacked after n

pub behind_none : (ws fs : List ℕ) (n : ℕ) → length fs ≡ length ws → Behind ws fs ws n n
behind_none ws fs n l = record {
  after = [];
  split = append-nil ws;
  long = l;
  rest = sym (div-one n);
  fields = drop_all (length ws) fs (omega arith);
}

part_of_total : (xs ys : List ℕ) → total ys ≤ total (xs ++ ys)
part_of_total [] ys = omega arith
part_of_total (x ∷ xs) ys = omega (arith, part_of_total xs ys)

-- a turn of unpacking, at the last width that is still to come
pub record Back (ws fs front : List ℕ) (n left w i : ℕ) : Type 0 where
  pub narrow : w ≤ total ws
  pub inside : i < length fs
  pub next : Behind ws (set fs i (left % 2 ^ w)) front n (left / 2 ^ w)

pub turn_back : (ws fs front next : List ℕ) (n left w i : ℕ) → front ≡ next ++ w ∷ [] → i ≡ length next → Behind ws fs front n left → Back ws fs next n left w i
turn_back ws fs front next n left w i e at b =
    let t = total b.after in
    let split : next ++ (w ∷ b.after) ≡ ws = sym (append_assoc next (w ∷ []) b.after) ∙ ap (λ (xs : List ℕ). xs ++ b.after) (sym e) ∙ b.split in
    let whole : total (next ++ (w ∷ b.after)) ≡ total ws = ap total split in
    let one : length front ≡ i + 1 = ap length e ∙ length-append next (w ∷ []) ∙ omega arith in
    let all : length (next ++ (w ∷ b.after)) ≡ length ws = ap length split in
    let l = b.long in
    let k : i < length fs = omega (arith, all, length-append next (w ∷ b.after)) in
    let part : left % 2 ^ w ≡ n / 2 ^ t % 2 ^ w = ap (λ (x : ℕ). x % 2 ^ w) b.rest in
    let tail : drop (i + 1) fs ≡ unpacked b.after n = ap (λ (j : ℕ). drop j fs) (sym one) ∙ b.fields in
    record {
      narrow = omega (arith, whole, part_of_total next (w ∷ b.after));
      inside = k;
      next = record {
        after = w ∷ b.after;
        split = split;
        long = length-set fs i (left % 2 ^ w) ∙ l;
        rest = ap (λ (x : ℕ). x / 2 ^ w) b.rest ∙ shr-shr n t w ∙ ap (λ (x : ℕ). n / 2 ^ x) (omega arith);
        fields = ap (λ (j : ℕ). drop j (set fs i (left % 2 ^ w))) (sym at) ∙ drop-set fs i (left % 2 ^ w) k ∙ (λ j. part j ∷ tail j);
      };
    }
