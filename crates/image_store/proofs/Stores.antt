-- Wrote, what a write is to show; wrote, from what was answered and what was put. Assumes nothing.
use Rattle.std.proofs.Common.{◌≡◌, ℕ, ◌-◌, ◌<◌, Bool, true, cond, ltb, List, length, is_ok, Ok, vec_items, Result, ◌≢◌, nat_lt}
use Rattle.std.proofs.Common.{sym, ap, ◌∙◌, subst, arith}
use Rattle.std.proofs.lemmas.Bool.{lt-ltb, le-leb, cond-true}
use Rattle.std.specs.Vec.{with_items}
use Rattle.refusal.specs.Checks.{provided}
use Rattle.refusal.specs.declared.Refusal.{Refusal}
use Rattle.refusal.specs.declared.Refusal.TheVariants.{ShortMemory}
use Rattle.record.specs.declared.Record.{Record}
use Rattle.image.specs.Formats.{has_room, format_answer, formatted}
use Rattle.image.specs.Images.{decoded, image_over}
use Rattle.image_store.specs.Stores.{image_writes, bytes_after, image_after}
use Rattle.image_store.specs.declared.ImageStore.{ImageStore}
use Rattle.image.proofs.Images.{image_long}
use Rattle.image_store.specs.StoreLaws.{some_left, after_bytes}

-- what a write to s is to show, which writes in t
pub record Wrote (s t : ImageStore) (r : Record) (done : Bool) (put : List ℕ) : Type 0 where
  pub test : done ≡ nat_lt 0 (image_writes s)
  pub after : ◌≡◌ {A = ImageStore} (record { memory = with_items t.memory put }) (cond (nat_lt 0 (image_writes s)) (image_after s r) s)
  pub bytes : vec_items (with_items t.memory put) ≡ cond (nat_lt 0 (image_writes s)) (bytes_after s r) (vec_items s.memory)

-- from what was read, and from what formatting answered and put
wrote_in : (s : ImageStore) (r : Record) (n : ℕ) (done : Bool) (answer : Result (Unit {0}) Refusal) (put : List ℕ) → n ≡ image_writes s → (n ≢ 0)
    → answer ≡ format_answer (vec_items s.memory) → done ≡ is_ok answer → put ≡ formatted r (n - 1) (vec_items s.memory) → Wrote s s r done put
wrote_in s r n done answer put w some a d p =
    let items = vec_items s.memory in
    let more : 0 < image_writes s = omega arith in
    let left : ltb 0 (image_writes s) ≡ true = lt-ltb 0 (image_writes s) more in
    let m = some_left (decoded items) more in
    let room : has_room items ≡ true = le-leb 68 (length items) (image_long items m.0 m.1) in
    let ok : done ≡ true = d ∙ ap is_ok (a ∙ ap (λ (b : Bool). provided b ShortMemory (Ok tt)) room) in
    let is : put ≡ bytes_after s r = p ∙ cond-true (has_room items) (image_over r (n - 1) items) items room ∙ ap (λ (k : ℕ). image_over r (k - 1) items) w in
    record {
      test = ok ∙ sym left;
      after = (λ i. record { memory = with_items s.memory (is i) }) ∙ sym (cond-true (nat_lt 0 (image_writes s)) (image_after s r) s left);
      bytes = ap (λ (xs : List ℕ). vec_items (with_items s.memory xs)) is ∙ after_bytes s r more ∙ sym (cond-true (nat_lt 0 (image_writes s)) (bytes_after s r) items left);
    }

-- where the store was only asked before
pub wrote : (s t : ImageStore) (r : Record) (n : ℕ) (done : Bool) (answer : Result (Unit {0}) Refusal) (put : List ℕ) → t ≡ s → n ≡ image_writes s → (n ≢ 0)
    → answer ≡ format_answer (vec_items t.memory) → done ≡ is_ok answer → put ≡ formatted r (n - 1) (vec_items t.memory) → Wrote s t r done put
wrote s t r n done answer put e w some a d p =
    let items : vec_items t.memory ≡ vec_items s.memory = ap (λ (x : ImageStore). vec_items x.memory) e in
    let P : ImageStore → Type 0 = λ x. Wrote s x r done put in
    subst P (sym e) (wrote_in s r n done answer put w some (a ∙ ap format_answer items) d (p ∙ ap (formatted r (n - 1)) items))
