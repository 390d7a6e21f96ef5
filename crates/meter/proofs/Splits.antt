-- Splits of a list that has one more element: split_push, at_each_none, at_each_push.
use Rattle.std.proofs.Common.{◌≡◌, ◌⊎◌, List, [], ◌∷◌, ◌++◌, length, refl, ap, ◌∙◌, subst, inl, inr, ⊎_elim, arith}
use Rattle.std.proofs.lemmas.List.{length-append}
use Rattle.meter.specs.Journals.{AtEach}

no_nil : {X : Type 0} (xs : List X) (y : X) (ys : List X) → [] ≡ xs ++ y ∷ ys → ⊥
no_nil xs y ys e = omega (arith, ap length e ∙ length-append xs (y ∷ ys))

-- an element of a list with x at its end is x itself, after the whole list, or stands in the list
split_push : {X : Type 0} (h before after : List X) (x y : X) → h ++ x ∷ [] ≡ before ++ y ∷ after →
    ((h ≡ before) × (x ≡ y)) ⊎ ((rest : List X) × (h ≡ before ++ y ∷ rest))
split_push [] [] after x y e = inl (refl, cc)
split_push [] (b ∷ bs) after x y e = absurd (no_nil bs y after (cc))
split_push (a ∷ h) [] after x y e = inr (h, cc)
split_push (a ∷ h) (b ∷ bs) after x y e =
    let head : a ≡ b = cc in
    ⊎_elim (λ p. let p0 = p.0 in inl (cc, p.1)) (λ p. let p1 = p.1 in inr (p.0, cc)) (split_push h bs after x y (cc))

pub at_each_none : {X : Type 0} (P : List X → X → Type 0) → AtEach P []
at_each_none P before after x e = absurd (no_nil before x after e)

pub at_each_push : {X : Type 0} (P : List X → X → Type 0) (h : List X) (x : X) → AtEach P h → P h x → AtEach P (h ++ x ∷ [])
at_each_push P h x each here before after y e =
    ⊎_elim (λ p. subst (λ b. P b y) p.0 (subst (P h) p.1 here)) (λ p. each before p.0 y p.1) (split_push h before after x y e)
