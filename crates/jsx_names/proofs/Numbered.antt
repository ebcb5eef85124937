-- Early errors by the numbers of their events are those that the definitions find by their places.
use Rattle.std.proofs.Common.{◌≡◌, ℕ, zero, suc, List, [], ◌∷◌, ◌++◌, drop, map, Bool, true, false, refl, sym, ap, ◌∙◌, arith}
use Rattle.std.proofs.lemmas.Grind.{common_steps}
use Rattle.std.specs.Prelude.{cond, not, ◌||◌, ⊤}
use Rattle.std.specs.List.{list_any}
use Rattle.jsx_base.specs.Token.{Text, same}
use Rattle.jsx_tree.specs.Scopes.{Path, Declaration, is_declared}
use Rattle.jsx_tree.specs.Clashes.{Place, Export, export, exported_twice, is_exported}
use Rattle.jsx_names.specs.Events.{OfModule, OfScript, OfFunction, OfBlock, OfCatch, OfName, Event, Opens, Enters, Closes, Declares, Refers, Exports, Wants, Evals}
use Rattle.jsx_names.specs.Answers.{all_of, amiss, clashing, collected, evals_in, exported_in, faults, missing}
use Rattle.jsx_names.specs.Faults.{Extent, Noted, again, called, called_at, called_first, calls, faulty, faulty_exports, is_among, is_late_at, late, noting, placed, placed_at, placed_first, unknown, within}
use Rattle.jsx_names.proofs.Lateness.{lates, clashing_late}

-- a function that has the places of these events, from number i on
abbrev pub Places : (ℕ → Place) → ℕ → List Event → Type 0
Places F i [] = ⊤
Places F i (e ∷ es) = (F i ≡ placed e) × Places F (suc i) es

abbrev rest : List Event → List Event
rest [] = []
rest (e ∷ es) = es

drop_rest : (i : ℕ) (es : List Event) → rest (drop i es) ≡ drop (suc i) es
drop_rest zero [] = refl
drop_rest zero (e ∷ es) = refl
drop_rest (suc i) [] = refl
drop_rest (suc i) (e ∷ es) = drop_rest i es

places_from : (all es : List Event) (i : ℕ) → drop i all ≡ es → Places (placed_at all) i es
places_from all [] i h = tt
places_from all (e ∷ es) i h = (ap placed_first h, places_from all es (suc i) (sym (drop_rest i all) ∙ ap rest h))

pub places_all : (es : List Event) → Places (placed_at es) 0 es
places_all es = places_from es es 0 refl

any_places : (P : Place → Bool) (xs ys : List Place) → list_any P (xs ++ ys) ≡ list_any P xs || list_any P ys
any_places P xs ys = grind (arith, common_steps)

any_numbers : (P : ℕ → Bool) (xs ys : List ℕ) → list_any P (xs ++ ys) ≡ list_any P xs || list_any P ys
any_numbers P xs ys = grind (arith, common_steps)

one_more : (P : Place → Bool) (F : ℕ → Place) (b : Bool) (i : ℕ) (a : Place) (xs : List Place) (is : List ℕ) → F i ≡ a → list_any P xs ≡ list_any (λ k. P (F k)) is →
    list_any P (cond b (a ∷ []) [] ++ xs) ≡ list_any (λ k. P (F k)) (cond b (i ∷ []) [] ++ is)
one_more P F true i a xs is e h = ap (λ z. P z || list_any P xs) (sym e) ∙ ap (λ z. P (F i) || z) h
one_more P F false i a xs is e h = h

late_numbers : (P : Place → Bool) (F : ℕ → Place) (i : ℕ) (ns : List Extent) (ks : List Noted) (es : List Event) → Places F i es → list_any P (lates i ns ks es) ≡ list_any (λ k. P (F k)) (late i ns ks es)
late_numbers P F i ns ks [] p = refl
late_numbers P F i ns ks (e ∷ es) p = one_more P F (is_late_at i ns ks e) i (placed e) (lates (suc i) (within i ns e es) (noting i ns ks e) es) (late (suc i) (within i ns e es) (noting i ns ks e) es) p.0 (late_numbers P F (suc i) (within i ns e es) (noting i ns ks e) es p.1)

abbrev names_of : List Export → List Text
names_of [] = []
names_of (x ∷ xs) = x.name ∷ names_of xs

exported_among : (t : Text) (xs : List Export) → is_exported t xs ≡ is_among t (names_of xs)
exported_among t [] = refl
exported_among t (x ∷ xs) = ap (λ z. same t x.name || z) (exported_among t xs)

again_numbers : (P : Place → Bool) (F : ℕ → Place) (i : ℕ) (xs : List Export) (es : List Event) → Places F i es → list_any P (exported_twice xs (exported_in es)) ≡ list_any (λ k. P (F k)) (again i (names_of xs) es)
again_numbers P F i xs [] p = refl
again_numbers P F i xs (Exports t a ∷ es) p =
    ap (λ z. list_any P (cond z (a ∷ []) [] ++ exported_twice (export t a ∷ xs) (exported_in es))) (exported_among t xs)
    ∙ one_more P F (is_among t (names_of xs)) i a (exported_twice (export t a ∷ xs) (exported_in es)) (again (suc i) (t ∷ names_of xs) es) p.0 (again_numbers P F (suc i) (export t a ∷ xs) es p.1)
again_numbers P F i xs (Opens f q ∷ es) p = again_numbers P F (suc i) xs es p.1
again_numbers P F i xs (Enters ∷ es) p = again_numbers P F (suc i) xs es p.1
again_numbers P F i xs (Closes ∷ es) p = again_numbers P F (suc i) xs es p.1
again_numbers P F i xs (Declares h s t q ∷ es) p = again_numbers P F (suc i) xs es p.1
again_numbers P F i xs (Refers t q ∷ es) p = again_numbers P F (suc i) xs es p.1
again_numbers P F i xs (Wants t a ∷ es) p = again_numbers P F (suc i) xs es p.1
again_numbers P F i xs (Evals q ∷ es) p = again_numbers P F (suc i) xs es p.1

turned : (b : Bool) (a : Place) → cond b [] (a ∷ []) ≡ cond (not b) (a ∷ []) []
turned true a = refl
turned false a = refl

unknown_numbers : (P : Place → Bool) (F : ℕ → Place) (i : ℕ) (ds : List Declaration) (es : List Event) → Places F i es → list_any P (missing ds es) ≡ list_any (λ k. P (F k)) (unknown i ds es)
unknown_numbers P F i ds [] p = refl
unknown_numbers P F i ds (Wants t a ∷ es) p =
    ap (λ z. list_any P (z ++ missing ds es)) (turned (is_declared t ds) a)
    ∙ one_more P F (not (is_declared t ds)) i a (missing ds es) (unknown (suc i) ds es) p.0 (unknown_numbers P F (suc i) ds es p.1)
unknown_numbers P F i ds (Opens f q ∷ es) p = unknown_numbers P F (suc i) ds es p.1
unknown_numbers P F i ds (Enters ∷ es) p = unknown_numbers P F (suc i) ds es p.1
unknown_numbers P F i ds (Closes ∷ es) p = unknown_numbers P F (suc i) ds es p.1
unknown_numbers P F i ds (Declares h s t q ∷ es) p = unknown_numbers P F (suc i) ds es p.1
unknown_numbers P F i ds (Refers t q ∷ es) p = unknown_numbers P F (suc i) ds es p.1
unknown_numbers P F i ds (Exports t a ∷ es) p = unknown_numbers P F (suc i) ds es p.1
unknown_numbers P F i ds (Evals q ∷ es) p = unknown_numbers P F (suc i) ds es p.1

amiss_numbers : (P : Place → Bool) (F : ℕ → Place) (es : List Event) → Places F 0 es → list_any P (amiss es) ≡ list_any (λ k. P (F k)) (faulty_exports es)
amiss_numbers P F [] p = refl
amiss_numbers P F (Opens OfModule q ∷ es) p =
    any_places P (exported_twice [] (exported_in es)) (missing (all_of (collected [] es)) es)
    ∙ (ap (λ z. z || list_any P (missing (all_of (collected [] es)) es)) (again_numbers P F 1 [] es p.1)
    ∙ (ap (λ z. list_any (λ k. P (F k)) (again 1 [] es) || z) (unknown_numbers P F 1 (all_of (collected [] es)) es p.1)
    ∙ sym (any_numbers (λ k. P (F k)) (again 1 [] es) (unknown 1 (all_of (collected [] es)) es))))
amiss_numbers P F (Opens OfScript q ∷ es) p = refl
amiss_numbers P F (Opens OfFunction q ∷ es) p = refl
amiss_numbers P F (Opens OfBlock q ∷ es) p = refl
amiss_numbers P F (Opens OfCatch q ∷ es) p = refl
amiss_numbers P F (Opens OfName q ∷ es) p = refl
amiss_numbers P F (Enters ∷ es) p = refl
amiss_numbers P F (Closes ∷ es) p = refl
amiss_numbers P F (Declares h s t q ∷ es) p = refl
amiss_numbers P F (Refers t q ∷ es) p = refl
amiss_numbers P F (Exports t a ∷ es) p = refl
amiss_numbers P F (Wants t a ∷ es) p = refl
amiss_numbers P F (Evals q ∷ es) p = refl

or_flip : (a b : Bool) → a || b ≡ b || a
or_flip true true = refl
or_flip true false = refl
or_flip false true = refl
or_flip false false = refl

-- whatever is asked of a place
pub faults_numbered : (P : Place → Bool) (es : List Event) → list_any P (faults es) ≡ list_any (λ k. P (placed_at es k)) (faulty es)
faults_numbered P es =
    any_places P (amiss es) (clashing es)
    ∙ (or_flip (list_any P (amiss es)) (list_any P (clashing es))
    ∙ (ap (λ z. z || list_any P (amiss es)) (clashing_late P es ∙ late_numbers P (placed_at es) 0 [] [] es (places_all es))
    ∙ (ap (λ z. list_any (λ k. P (placed_at es k)) (late 0 [] [] es) || z) (amiss_numbers P (placed_at es) es (places_all es))
    ∙ sym (any_numbers (λ k. P (placed_at es k)) (late 0 [] [] es) (faulty_exports es)))))

-- a function that has the paths of these calls
abbrev Paths : (ℕ → Path) → ℕ → List Event → Type 0
Paths F i [] = ⊤
Paths F i (e ∷ es) = (F i ≡ called e) × Paths F (suc i) es

paths_from : (all es : List Event) (i : ℕ) → drop i all ≡ es → Paths (called_at all) i es
paths_from all [] i h = tt
paths_from all (e ∷ es) i h = (ap called_first h, paths_from all es (suc i) (sym (drop_rest i all) ∙ ap rest h))

call_numbers : (F : ℕ → Path) (i : ℕ) (es : List Event) → Paths F i es → evals_in es ≡ map F (calls i es)
call_numbers F i [] p = refl
call_numbers F i (Evals q ∷ es) p = ap (λ z. z ∷ evals_in es) (sym p.0) ∙ ap (λ z. F i ∷ z) (call_numbers F (suc i) es p.1)
call_numbers F i (Opens f q ∷ es) p = call_numbers F (suc i) es p.1
call_numbers F i (Enters ∷ es) p = call_numbers F (suc i) es p.1
call_numbers F i (Closes ∷ es) p = call_numbers F (suc i) es p.1
call_numbers F i (Declares h s t q ∷ es) p = call_numbers F (suc i) es p.1
call_numbers F i (Refers t q ∷ es) p = call_numbers F (suc i) es p.1
call_numbers F i (Exports t a ∷ es) p = call_numbers F (suc i) es p.1
call_numbers F i (Wants t a ∷ es) p = call_numbers F (suc i) es p.1

pub calls_numbered : (es : List Event) → evals_in es ≡ map (called_at es) (calls 0 es)
calls_numbered es = call_numbers (called_at es) 0 es (paths_from es es 0 refl)
