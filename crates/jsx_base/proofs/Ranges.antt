-- A list that is made of a range, number by number.
use Rattle.std.proofs.Common.{◌≡◌, ℕ, zero, suc, ◌+◌, ◌-◌, ◌≤◌, List, [], ◌∷◌, ◌++◌, map, ap, sym, ◌∙◌, arith}
use Rattle.std.specs.List.{range_with_len}
use Rattle.std.proofs.lemmas.List.{map-append}

range_more : (a n : ℕ) → range_with_len a (suc n) ≡ range_with_len a n ++ (a + n) ∷ []
range_more a zero = ap (λ k. k ∷ []) (omega arith)
range_more a (suc n) = ap (λ ks. a ∷ ks) (range_more (a + 1) n) ∙ ap (λ k. a ∷ (range_with_len (a + 1) n ++ k ∷ [])) (omega arith)

pub made_more : {X Z : Type 0} (f : ℕ → Z) (g : X → Z) (xs ys : List X) (x : X) (a i : ℕ) → a ≤ i → map g xs ≡ map f (range_with_len a (i - a)) → g x ≡ f i → ys ≡ xs ++ x ∷ [] → map g ys ≡ map f (range_with_len a (i + 1 - a))
made_more f g xs ys x a i low made is pushed =
    let next : i + 1 - a ≡ suc (i - a) = omega (arith, low) in
    let at : a + (i - a) ≡ i = omega (arith, low) in
    ap (map g) pushed
    ∙ map-append g xs (x ∷ [])
    ∙ ap (λ zs. zs ++ g x ∷ []) made
    ∙ ap (λ z. map f (range_with_len a (i - a)) ++ z ∷ []) (is ∙ ap f (sym at))
    ∙ sym (map-append f (range_with_len a (i - a)) ((a + (i - a)) ∷ []))
    ∙ ap (map f) (sym (range_more a (i - a)))
    ∙ ap (λ n. map f (range_with_len a n)) (sym next)
