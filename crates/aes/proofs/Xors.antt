-- Words by their bytes: xors of words, a mixed column, a round, a loaded block, the words of bytes and the bytes of words.
use Rattle.std.proofs.Common.{◌≡◌, ℕ, ◌+◌, ◌/◌, ◌%◌, ◌^◌, ◌<◌, List, [], ◌∷◌, map, length, get_or, take, drop, sym, refl, ap, ◌∙◌, ap₂, arith, lit<, get_or-drop, get_or-take}
use native.Mathlib.Nat.{div-div-eq-div-mul}
use Rattle.std.specs.List.{range_with_len}
use Rattle.std.specs.Simd.{first_chunks}
use Rattle.std.proofs.lemmas.List.FromFn.{fill_by_all}
use lib.Bits.{bit_xor, xor_shr, xor_mod, xor_assoc, xor_comm}
use Rattle.aes.specs.Aes.{sub_bytes, shift_rows, mix_columns, add_round_key, key_byte, next_key}
use Rattle.aes.specs.Words.{Bytes, ByColumns, Mixed, once, twice, thrice, top, second, third, low, word, unpacked, packed, full_round, last_round, Last, Turned}

-- the eight bits from the bit k on: of a xor, the xor of those
part : (k : ℕ) (x y : ℕ) → bit_xor x y / 2 ^ k % 2 ^ 8 ≡ bit_xor (x / 2 ^ k % 2 ^ 8) (y / 2 ^ k % 2 ^ 8)
part k x y = ap (λ (n : ℕ). n % 2 ^ 8) (xor_shr x y k) ∙ xor_mod (x / 2 ^ k) (y / 2 ^ k) 8

-- a function that goes under xor, at the xor of five
five : (f : ℕ → ℕ) → ((x y : ℕ) → f (bit_xor x y) ≡ bit_xor (f x) (f y)) → (a b c d k : ℕ) {p q r s : ℕ}
    → f a ≡ p → f b ≡ q → f c ≡ r → f d ≡ s
    → f (bit_xor (bit_xor (bit_xor (bit_xor a b) c) d) k) ≡ bit_xor (bit_xor (bit_xor (bit_xor p q) r) s) (f k)
five f h a b c d k e₁ e₂ e₃ e₄ =
    h (bit_xor (bit_xor (bit_xor a b) c) d) k
    ∙ ap (λ (n : ℕ). bit_xor n (f k))
    (h (bit_xor (bit_xor a b) c) d ∙ ap₂ bit_xor (h (bit_xor a b) c ∙ ap₂ bit_xor (h a b ∙ ap₂ bit_xor e₁ e₂) e₃) e₄)

-- the xor of four, begun at each of them
order0 : (a b c d : ℕ) → bit_xor (bit_xor (bit_xor a b) c) d ≡ bit_xor (bit_xor a b) (bit_xor c d)
order0 a b c d = xor_assoc (bit_xor a b) c d

order1 : (a b c d : ℕ) → bit_xor (bit_xor (bit_xor a b) c) d ≡ bit_xor (bit_xor b c) (bit_xor d a)
order1 a b c d =
    ap (λ (n : ℕ). bit_xor n d) (xor_assoc a b c ∙ xor_comm a (bit_xor b c)) ∙ xor_assoc (bit_xor b c) a d
    ∙ ap (bit_xor (bit_xor b c)) (xor_comm a d)

order2 : (a b c d : ℕ) → bit_xor (bit_xor (bit_xor a b) c) d ≡ bit_xor (bit_xor c d) (bit_xor a b)
order2 a b c d = order0 a b c d ∙ xor_comm (bit_xor a b) (bit_xor c d)

order3 : (a b c d : ℕ) → bit_xor (bit_xor (bit_xor a b) c) d ≡ bit_xor (bit_xor d a) (bit_xor b c)
order3 a b c d = order1 a b c d ∙ xor_comm (bit_xor b c) (bit_xor d a)

pub column_is : (a b c d k : ℕ) {p q r s : ℕ}
    → Bytes p (twice a) (once a) (once a) (thrice a) → Bytes q (thrice b) (twice b) (once b) (once b)
    → Bytes r (once c) (thrice c) (twice c) (once c) → Bytes s (once d) (once d) (thrice d) (twice d)
    → Mixed (bit_xor (bit_xor (bit_xor (bit_xor p q) r) s) k) a b c d k
unfolding once twice thrice
column_is a b c d k {p} {q} {r} {s} hp hq hr hs =
    record {
      is_top = five top (part 24) p q r s k hp.is_top hq.is_top hr.is_top hs.is_top ∙ ap (λ (n : ℕ). bit_xor n (top k)) (order0 (twice a) (thrice b) (once c) (once d));
      is_second = five second (part 16) p q r s k hp.is_second hq.is_second hr.is_second hs.is_second ∙ ap (λ (n : ℕ). bit_xor n (second k)) (order1 (once a) (twice b) (thrice c) (once d));
      is_third = five third (part 8) p q r s k hp.is_third hq.is_third hr.is_third hs.is_third ∙ ap (λ (n : ℕ). bit_xor n (third k)) (order2 (once a) (once b) (twice c) (thrice d));
      is_low = five low (λ x y. xor_mod x y 8) p q r s k hp.is_low hq.is_low hr.is_low hs.is_low ∙ ap (λ (n : ℕ). bit_xor n (low k)) (order3 (thrice a) (once b) (once c) (twice d));
    }

cons4 : {a b c d p q r s : ℕ} {xs ys : List ℕ} → a ≡ p → b ≡ q → c ≡ r → d ≡ s → xs ≡ ys → a ∷ b ∷ c ∷ d ∷ xs ≡ p ∷ q ∷ r ∷ s ∷ ys
cons4 e₁ e₂ e₃ e₄ e = λ i. e₁ i ∷ e₂ i ∷ e₃ i ∷ e₄ i ∷ e i

bytes4 : {w a b c d : ℕ} {xs ys : List ℕ} → Bytes w a b c d → xs ≡ ys → top w ∷ second w ∷ third w ∷ low w ∷ xs ≡ a ∷ b ∷ c ∷ d ∷ ys
bytes4 h e = cons4 h.is_top h.is_second h.is_third h.is_low e

-- a map on the bytes of a column and a word of the round key that gives a mixed column, and one that gives a column of the last state
abbrev pub MixesTo : List ℕ → ℕ → ℕ → Type 0
MixesTo bs k w = Mixed w (get_or bs 0 0) (get_or bs 1 0) (get_or bs 2 0) (get_or bs 3 0) k

abbrev pub EndsIn : List ℕ → ℕ → ℕ → Type 0
EndsIn bs k w = Last w (get_or bs 0 0) (get_or bs 1 0) (get_or bs 2 0) (get_or bs 3 0) k

-- over the words of the lists s and k
pub round_is : (s k r : List ℕ) → ByColumns MixesTo s k r → unpacked r ≡ full_round (unpacked s) (unpacked k)
unfolding full_round add_round_key mix_columns shift_rows sub_bytes
round_is s k r h = bytes4 h.first (bytes4 h.second (bytes4 h.third (bytes4 h.fourth refl)))

pub last_is : (s k r : List ℕ) → ByColumns EndsIn s k r → unpacked r ≡ last_round (unpacked s) (unpacked k)
unfolding last_round add_round_key shift_rows sub_bytes
last_is s k r h = bytes4 h.first (bytes4 h.second (bytes4 h.third (bytes4 h.fourth refl)))

-- the bytes of the xor of two words
pub xor_bytes : (w v : ℕ) {a b c d e f g h : ℕ} → Bytes w a b c d → Bytes v e f g h → Bytes (bit_xor w v) (bit_xor a e) (bit_xor b f) (bit_xor c g) (bit_xor d h)
xor_bytes w v p q =
    record {
      is_top = part 24 w v ∙ ap₂ bit_xor p.is_top q.is_top;
      is_second = part 16 w v ∙ ap₂ bit_xor p.is_second q.is_second;
      is_third = part 8 w v ∙ ap₂ bit_xor p.is_third q.is_third;
      is_low = xor_mod w v 8 ∙ ap₂ bit_xor p.is_low q.is_low;
    }

pub own_bytes : (w : ℕ) → Bytes w (top w) (second w) (third w) (low w)
own_bytes w = record { is_top = refl; is_second = refl; is_third = refl; is_low = refl }

pub add_is : (s k : List ℕ)
    → unpacked (bit_xor (get_or s 0 0) (get_or k 0 0) ∷ bit_xor (get_or s 1 0) (get_or k 1 0) ∷ bit_xor (get_or s 2 0) (get_or k 2 0) ∷ bit_xor (get_or s 3 0) (get_or k 3 0) ∷ [])
    ≡ add_round_key (unpacked s) (unpacked k)
unfolding add_round_key
add_is s k =
    bytes4 (xor_bytes (get_or s 0 0) (get_or k 0 0) (own_bytes _) (own_bytes _)) (bytes4 (xor_bytes (get_or s 1 0) (get_or k 1 0) (own_bytes _) (own_bytes _))
    (bytes4 (xor_bytes (get_or s 2 0) (get_or k 2 0) (own_bytes _) (own_bytes _)) (bytes4 (xor_bytes (get_or s 3 0) (get_or k 3 0) (own_bytes _) (own_bytes _)) refl)))

pub joined_bytes : (a b c d : ℕ) → a < 256 → b < 256 → c < 256 → d < 256 → Bytes (word a b c d) a b c d
joined_bytes a b c d ha hb hc hd = record { is_top = omega arith; is_second = omega arith; is_third = omega arith; is_low = omega arith }

pub load_is : (xs : List ℕ) {p q r t : ℕ} → length xs ≡ 16
    → Bytes p (get_or xs 0 0) (get_or xs 1 0) (get_or xs 2 0) (get_or xs 3 0) → Bytes q (get_or xs 4 0) (get_or xs 5 0) (get_or xs 6 0) (get_or xs 7 0)
    → Bytes r (get_or xs 8 0) (get_or xs 9 0) (get_or xs 10 0) (get_or xs 11 0) → Bytes t (get_or xs 12 0) (get_or xs 13 0) (get_or xs 14 0) (get_or xs 15 0)
    → unpacked (p ∷ q ∷ r ∷ t ∷ []) ≡ xs
load_is xs e hp hq hr ht =
    bytes4 hp (bytes4 hq (bytes4 hr (bytes4 ht refl))) ∙ sym (fill_by_all (λ (i : ℕ). get_or xs i 0) xs 16 0 e (λ k h. refl))

pub alike : {v w a b c d p q r s : ℕ} → v ≡ w → a ≡ p → b ≡ q → c ≡ r → d ≡ s → Bytes v a b c d → Bytes w p q r s
alike {v} {w} e e₁ e₂ e₃ e₄ h =
    record {
      is_top = sym (ap top e) ∙ h.is_top ∙ e₁;
      is_second = sym (ap second e) ∙ h.is_second ∙ e₂;
      is_third = sym (ap third e) ∙ h.is_third ∙ e₃;
      is_low = sym (ap low e) ∙ h.is_low ∙ e₄;
    }

-- the round key after the words k, where t is its last column, turned
pub next_is : (c : ℕ) (k : List ℕ) (t : ℕ) → Turned t (get_or k 3 0) c
    → let e = bit_xor (get_or k 0 0) t in let f = bit_xor (get_or k 1 0) e in let g = bit_xor (get_or k 2 0) f in
    unpacked (e ∷ f ∷ g ∷ bit_xor (get_or k 3 0) g ∷ []) ≡ next_key c (unpacked k)
unfolding next_key key_byte
next_is c k t p =
    let e = bit_xor (get_or k 0 0) t in
    let f = bit_xor (get_or k 1 0) e in
    let g = bit_xor (get_or k 2 0) f in
    let hₑ = xor_bytes (get_or k 0 0) t (own_bytes _) p in
    let hf = xor_bytes (get_or k 1 0) e (own_bytes _) hₑ in
    let hg = xor_bytes (get_or k 2 0) f (own_bytes _) hf in
    let hh = xor_bytes (get_or k 3 0) g (own_bytes _) hg in
    bytes4 hₑ (bytes4 hf (bytes4 hg (bytes4 hh refl)))

by_digits : (w a b c : ℕ) → w / 256 ≡ c → c / 256 ≡ b → b / 256 ≡ a → a < 256 → w ≡ word (a % 256) (b % 256) (c % 256) (w % 256)
by_digits w a b c p q r h = omega arith

-- four words of 32 bits are those of their bytes
word_own : (w : ℕ) → w < 2 ^ 32 → w ≡ word (top w) (second w) (third w) (low w)
word_own w h =
    by_digits w (w / 16777216) (w / 65536) (w / 256) refl (div-div-eq-div-mul w 256 256) (div-div-eq-div-mul w 65536 256) (omega arith)

pub packed_own : (ws : List ℕ) → length ws ≡ 4 → ((i : ℕ) → get_or ws i 0 < 2 ^ 32) → ws ≡ packed (unpacked ws)
packed_own ws e h =
    fill_by_all (λ (i : ℕ). get_or ws i 0) ws 4 0 e (λ k l. refl)
    ∙ (λ i. word_own (get_or ws 0 0) (h 0) i ∷ word_own (get_or ws 1 0) (h 1) i ∷ word_own (get_or ws 2 0) (h 2) i ∷ word_own (get_or ws 3 0) (h 3) i ∷ [])

-- and sixteen bytes are those of their words
pub unpacked_own : (bs : List ℕ) → length bs ≡ 16 → ((i : ℕ) → get_or bs i 0 < 256) → unpacked (packed bs) ≡ bs
unpacked_own bs e h =
    load_is bs e (joined_bytes _ _ _ _ (h 0) (h 1) (h 2) (h 3)) (joined_bytes _ _ _ _ (h 4) (h 5) (h 6) (h 7))
    (joined_bytes _ _ _ _ (h 8) (h 9) (h 10) (h 11)) (joined_bytes _ _ _ _ (h 12) (h 13) (h 14) (h 15))

-- the word of each four bytes, as `as_chunks` cuts a block
abbrev pub column_at : List (List ℕ) → ℕ → ℕ
column_at cs i = let c = get_or cs i [] in word (get_or c 0 0) (get_or c 1 0) (get_or c 2 0) (get_or c 3 0)

-- the first four bytes of ys, which are those of xs from the place k on
word_cut : (xs ys : List ℕ) (k : ℕ) → ((j : ℕ) → get_or ys j 0 ≡ get_or xs (k + j) 0)
    → word (get_or (take 4 ys) 0 0) (get_or (take 4 ys) 1 0) (get_or (take 4 ys) 2 0) (get_or (take 4 ys) 3 0)
    ≡ word (get_or xs (k + 0) 0) (get_or xs (k + 1) 0) (get_or xs (k + 2) 0) (get_or xs (k + 3) 0)
word_cut xs ys k e =
    let p : (j : ℕ) → j < 4 → get_or (take 4 ys) j 0 ≡ get_or xs (k + j) 0 = λ j h. get_or-take 4 ys j 0 h ∙ e j in
    λ i. word (p 0 (lit< tt) i) (p 1 (lit< tt) i) (p 2 (lit< tt) i) (p 3 (lit< tt) i)

cut_on : (xs ys : List ℕ) (k m : ℕ) → k + 4 ≡ m → ((j : ℕ) → get_or ys j 0 ≡ get_or xs (k + j) 0) → (j : ℕ) → get_or (drop 4 ys) j 0 ≡ get_or xs (m + j) 0
cut_on xs ys k m e h j = get_or-drop 4 ys j 0 ∙ h (4 + j) ∙ ap (λ (i : ℕ). get_or xs i 0) (let f : k + (4 + j) ≡ m + j = omega arith in f)

pub columns_are : (xs : List ℕ) (cs : List (List ℕ)) → cs ≡ first_chunks 4 4 xs → map (column_at cs) (range_with_len 0 4) ≡ packed xs
columns_are xs cs e =
    let p : (j : ℕ) → get_or xs j 0 ≡ get_or xs (0 + j) 0 = λ j. ap (λ (i : ℕ). get_or xs i 0) (let f : j ≡ 0 + j = omega arith in f) in
    let q = cut_on xs xs 0 4 refl p in
    let r = cut_on xs (drop 4 xs) 4 8 refl q in
    let s = cut_on xs (drop 4 (drop 4 xs)) 8 12 refl r in
    ap (λ (ds : List (List ℕ)). map (column_at ds) (range_with_len 0 4)) e
    ∙ (λ i. word_cut xs xs 0 p i ∷ word_cut xs (drop 4 xs) 4 q i ∷ word_cut xs (drop 4 (drop 4 xs)) 8 r i ∷ word_cut xs (drop 4 (drop 4 (drop 4 xs))) 12 s i ∷ [])
