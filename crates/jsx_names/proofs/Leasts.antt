-- The first early error is the least of their numbers.
use Rattle.std.proofs.Common.{◌≡◌, ◌≤◌, ℕ, suc, List, [], ◌∷◌, ◌++◌, Bool, true, false, refl, sym, ap, ◌∙◌, arith, subst, append-nil}
use Rattle.std.proofs.lemmas.Grind.{common_steps}
use Rattle.std.specs.Prelude.{cond, ◌||◌, nat_eq, nat_lt, Option, Some, None, ⊤}
use Rattle.std.specs.List.{list_any}
use Rattle.jsx_base.specs.Token.{Text}
use Rattle.jsx_tree.specs.Scopes.{Declaration}
use Rattle.jsx_names.specs.Events.{OfModule, OfScript, OfFunction, OfBlock, OfCatch, OfName, Event, Opens, Enters, Closes, Declares, Refers, Exports, Wants, Evals}
use Rattle.jsx_names.specs.Answers.{all_of, collected}
use Rattle.jsx_names.specs.Faults.{Extent, Noted, again, earlier, exporting, faulty, faulty_exports, first, first_amiss, first_faulty, is_again, is_late_at, is_unknown, late, noting, unknown, within}
use Rattle.jsx_names.specs.Least.{IsLeast, IsLeastOf}

-- numbers that rise, from b on
abbrev Rises : ℕ → List ℕ → Type 0
Rises b [] = ⊤
Rises b (x ∷ xs) = (b ≤ x) × Rises (suc x) xs

rises_from : (a b : ℕ) (xs : List ℕ) → a ≤ b → Rises b xs → Rises a xs
rises_from a b [] l r = tt
rises_from a b (x ∷ xs) l r = (omega (arith, l, r.0), r.1)

rises_if : (i : ℕ) (c : Bool) (xs : List ℕ) → Rises (suc i) xs → Rises i (cond c (i ∷ []) [] ++ xs)
rises_if i true xs r = (omega arith, r)
rises_if i false xs r = rises_from i (suc i) xs (omega arith) r

late_rises : (i : ℕ) (ns : List Extent) (ks : List Noted) (es : List Event) → Rises i (late i ns ks es)
late_rises i ns ks [] = tt
late_rises i ns ks (e ∷ es) = rises_if i (is_late_at i ns ks e) (late (suc i) (within i ns e es) (noting i ns ks e) es) (late_rises (suc i) (within i ns e es) (noting i ns ks e) es)

again_rises : (i : ℕ) (us : List Text) (es : List Event) → Rises i (again i us es)
again_rises i us [] = tt
again_rises i us (e ∷ es) = rises_if i (is_again us e) (again (suc i) (exporting us e) es) (again_rises (suc i) (exporting us e) es)

unknown_rises : (i : ℕ) (ds : List Declaration) (es : List Event) → Rises i (unknown i ds es)
unknown_rises i ds [] = tt
unknown_rises i ds (e ∷ es) = rises_if i (is_unknown ds e) (unknown (suc i) ds es) (unknown_rises (suc i) ds es)

not_less : (x k : ℕ) → k ≤ x → nat_lt x k ≡ false
not_less x k l = grind arith

itself : (x : ℕ) → nat_eq x x ≡ true
itself x = grind arith

none_below : (k b : ℕ) (xs : List ℕ) → k ≤ b → Rises b xs → list_any (λ j. nat_lt j k) xs ≡ false
none_below k b [] l r = refl
none_below k b (x ∷ xs) l r = ap (λ z. z || list_any (λ j. nat_lt j k) xs) (not_less x k (omega (arith, l, r.0))) ∙ none_below k (suc x) xs (omega (arith, l, r.0)) r.1

first_least : (b : ℕ) (xs : List ℕ) → Rises b xs → IsLeastOf (first xs) xs
first_least b [] r = refl
first_least b (x ∷ xs) r = record {
  among = ap (λ z. z || list_any (nat_eq x) xs) (itself x);
  none_less = ap (λ z. z || list_any (λ j. nat_lt j x) xs) (not_less x x (omega arith)) ∙ none_below x (suc x) xs (omega arith) r.1;
}

any_both : (P : ℕ → Bool) (xs ys : List ℕ) → list_any P (xs ++ ys) ≡ list_any P xs || list_any P ys
any_both P xs ys = grind (arith, common_steps)

less_still : (x i j : ℕ) → j ≤ i → nat_lt x i ≡ false → nat_lt x j ≡ false
less_still x i j l e = grind arith

or_first : (a b : Bool) → a || b ≡ false → a ≡ false
or_first true b e = e
or_first false b e = refl

or_second : (a b : Bool) → a || b ≡ false → b ≡ false
or_second true b e = cc
or_second false b e = e

none_still : (i j : ℕ) (xs : List ℕ) → j ≤ i → list_any (λ m. nat_lt m i) xs ≡ false → list_any (λ m. nat_lt m j) xs ≡ false
none_still i j [] l e = refl
none_still i j (x ∷ xs) l e =
    ap (λ z. z || list_any (λ m. nat_lt m j) xs) (less_still x i j l (or_first (nat_lt x i) (list_any (λ m. nat_lt m i) xs) e))
    ∙ none_still i j xs l (or_second (nat_lt x i) (list_any (λ m. nat_lt m i) xs) e)

or_true : (a : Bool) → a || true ≡ true
or_true true = refl
or_true false = refl

lesser : (c : Bool) (i j : ℕ) (xs ys : List ℕ) → nat_lt j i ≡ c → IsLeast i xs → IsLeast j ys → IsLeast (cond c j i) (xs ++ ys)
lesser true i j xs ys e h k = record {
  among = any_both (nat_eq j) xs ys ∙ (ap (λ z. list_any (nat_eq j) xs || z) k.among ∙ or_true (list_any (nat_eq j) xs));
  none_less = any_both (λ m. nat_lt m j) xs ys ∙ (ap (λ z. z || list_any (λ m. nat_lt m j) ys) (none_still i j xs (let l : j ≤ i = grind arith in l) h.none_less) ∙ k.none_less);
}
lesser false i j xs ys e h k = record {
  among = any_both (nat_eq i) xs ys ∙ ap (λ z. z || list_any (nat_eq i) ys) h.among;
  none_less = any_both (λ m. nat_lt m i) xs ys ∙ (ap (λ z. z || list_any (λ m. nat_lt m i) ys) h.none_less ∙ none_still j i ys (let l : i ≤ j = grind arith in l) k.none_less);
}

earlier_least : (o p : Option ℕ) (xs ys : List ℕ) → IsLeastOf o xs → IsLeastOf p ys → IsLeastOf (earlier o p) (xs ++ ys)
earlier_least None p xs ys h k = subst (λ z. IsLeastOf p (z ++ ys)) (sym h) k
earlier_least (Some i) None xs ys h k = subst (λ z. IsLeast i (xs ++ z)) (sym k) (subst (λ z. IsLeast i z) (sym (append-nil xs)) h)
earlier_least (Some i) (Some j) xs ys h k = lesser (nat_lt j i) i j xs ys refl h k

amiss_least : (es : List Event) → IsLeastOf (first_amiss es) (faulty_exports es)
amiss_least [] = refl
amiss_least (Opens OfModule p ∷ es) =
    earlier_least (first (again 1 [] es)) (first (unknown 1 (all_of (collected [] es)) es)) (again 1 [] es) (unknown 1 (all_of (collected [] es)) es)
    (first_least 1 (again 1 [] es) (again_rises 1 [] es)) (first_least 1 (unknown 1 (all_of (collected [] es)) es) (unknown_rises 1 (all_of (collected [] es)) es))
amiss_least (Opens OfScript p ∷ es) = refl
amiss_least (Opens OfFunction p ∷ es) = refl
amiss_least (Opens OfBlock p ∷ es) = refl
amiss_least (Opens OfCatch p ∷ es) = refl
amiss_least (Opens OfName p ∷ es) = refl
amiss_least (Enters ∷ es) = refl
amiss_least (Closes ∷ es) = refl
amiss_least (Declares h s t p ∷ es) = refl
amiss_least (Refers t p ∷ es) = refl
amiss_least (Exports t a ∷ es) = refl
amiss_least (Wants t a ∷ es) = refl
amiss_least (Evals p ∷ es) = refl

pub faulty_least : (es : List Event) → IsLeastOf (first_faulty es) (faulty es)
faulty_least es = earlier_least (first (late 0 [] [] es)) (first_amiss es) (late 0 [] [] es) (faulty_exports es) (first_least 0 (late 0 [] [] es) (late_rises 0 [] [] es)) (amiss_least es)
