-- Fields written one after the other: two_puts, a head and then a value; over_next, one field more after what is done.
-- Assumes nothing.
use Rattle.std.proofs.Common.{◌≡◌, ℕ, ◌+◌, ◌-◌, ◌≤◌, List, ◌++◌, length, take, drop, sym, ap, ◌∙◌, append_assoc, arith, drop-drop, take_at, drop_at}
use borrow.Rule.Slice.PartMut.{put_mid}
use Rattle.std.proofs.lemmas.Slice.{take-put_mid, drop-put_mid}
use Rattle.fields.specs.Fields.{field, written}
use Rattle.fields.specs.Puts.{over}

-- a head of three bytes, and then the value
pub two_puts : (at : ℕ) (xs h v : List ℕ) → at + 3 + length v ≤ length xs → length h ≡ 3 → put_mid (at + 3) (at + 3 + length v - (at + 3)) (put_mid at (at + 3 - at) xs h) v ≡ take at xs ++ ((h ++ v) ++ drop (at + 3 + length v) xs)
two_puts at xs h v room three =
    let n = length v in
    let ys = put_mid at (at + 3 - at) xs h in
    let front : take (at + 3) ys ≡ take at xs ++ h = take-put_mid at (at + 3 - at) xs h (at + 3) (omega arith) (omega arith) in
    let back : drop (at + 3 + n) ys ≡ drop (at + 3 + n) xs = drop-put_mid at (at + 3 - at) xs h (at + 3 + n) (omega arith) (omega arith) (omega arith) in
    let D = drop (at + 3 + n) xs in
    let tail : drop (at + 3 + n - (at + 3)) (drop (at + 3) ys) ≡ D = drop-drop (at + 3 + n - (at + 3)) (at + 3) ys ∙ ap (λ (j : ℕ). drop j ys) (omega arith) ∙ back in
    let grouped : (take at xs ++ h) ++ (v ++ D) ≡ take at xs ++ ((h ++ v) ++ D) = simp append_assoc in
    ap (λ (z : List ℕ). z ++ (v ++ drop (at + 3 + n - (at + 3)) (drop (at + 3) ys))) front ∙ ap (λ (z : List ℕ). (take at xs ++ h) ++ (v ++ z)) tail ∙ grouped

-- one field more after what is done
pub over_next : (at tag : ℕ) (v done old bytes : List ℕ) → length done ≡ at → bytes ≡ done ++ drop at old → over at tag v bytes ≡ (done ++ written (field tag (length v)) v) ++ drop (at + 3 + length v) old
over_next at tag v done old bytes l e =
    let n = length v in
    let head = written (field tag n) v in
    let front : take at (done ++ drop at old) ≡ done = take_at done (drop at old) at l in
    let skip : drop (3 + n) (drop at (done ++ drop at old)) ≡ drop (at + 3 + n) (done ++ drop at old) =
    drop-drop (3 + n) at (done ++ drop at old) ∙ ap (λ (j : ℕ). drop j (done ++ drop at old)) (omega arith) in
    let rest : drop at (done ++ drop at old) ≡ drop at old = drop_at done (drop at old) at l in
    let further : drop (3 + n) (drop at old) ≡ drop (at + 3 + n) old = drop-drop (3 + n) at old ∙ ap (λ (j : ℕ). drop j old) (omega arith) in
    let back : drop (at + 3 + n) (done ++ drop at old) ≡ drop (at + 3 + n) old = sym skip ∙ ap (drop (3 + n)) rest ∙ further in
    ap (over at tag v) e ∙ (λ i. front i ++ (head ++ back i)) ∙ sym (append_assoc done head (drop (at + 3 + n) old))
