-- The numbers of early errors and of calls don't hang on paths.
use Rattle.std.proofs.Common.{◌≡◌, ℕ, zero, suc, List, [], ◌∷◌, ◌++◌, Bool, true, false, refl, ap, ◌∙◌}
use Rattle.std.specs.Prelude.{cond, not, ◌||◌}
use Rattle.jsx_base.specs.Token.{Text, same}
use Rattle.jsx_tree.specs.Scopes.{Declaration, is_declared}
use Rattle.jsx_names.specs.Events.{Frame, OfModule, OfScript, OfFunction, OfBlock, OfCatch, OfName, Event, Opens, Enters, Closes, Declares, Refers, Exports, Wants, Evals}
use Rattle.jsx_names.specs.Answers.{Named, all_of, collected, is_passed, is_wide, named, reaches}
use Rattle.jsx_names.specs.Faults.{Extent, Noted, again, calls, earlier, end_of, exporting, first, first_amiss, first_faulty, home_in, is_again, is_late_at, is_unknown, late, noting, unknown, within}
use Rattle.jsx_names.specs.Heard.{bare, bare_all}

end_alike : (d i : ℕ) (es : List Event) → end_of d i (bare_all es) ≡ end_of d i es
end_alike d i [] = refl
end_alike d i (Opens f p ∷ es) = end_alike (suc d) (suc i) es
end_alike zero i (Closes ∷ es) = refl
end_alike (suc d) i (Closes ∷ es) = end_alike d (suc i) es
end_alike zero i (Enters ∷ es) = end_alike zero (suc i) es
end_alike zero i (Declares h s t p ∷ es) = end_alike zero (suc i) es
end_alike zero i (Refers t p ∷ es) = end_alike zero (suc i) es
end_alike zero i (Exports t a ∷ es) = end_alike zero (suc i) es
end_alike zero i (Wants t a ∷ es) = end_alike zero (suc i) es
end_alike zero i (Evals p ∷ es) = end_alike zero (suc i) es
end_alike (suc d) i (Enters ∷ es) = end_alike (suc d) (suc i) es
end_alike (suc d) i (Declares h s t p ∷ es) = end_alike (suc d) (suc i) es
end_alike (suc d) i (Refers t p ∷ es) = end_alike (suc d) (suc i) es
end_alike (suc d) i (Exports t a ∷ es) = end_alike (suc d) (suc i) es
end_alike (suc d) i (Wants t a ∷ es) = end_alike (suc d) (suc i) es
end_alike (suc d) i (Evals p ∷ es) = end_alike (suc d) (suc i) es

-- ---- declarations that are late

late_at_alike : (i : ℕ) (ns : List Extent) (ks : List Noted) (e : Event) → is_late_at i ns ks (bare e) ≡ is_late_at i ns ks e
late_at_alike i [] ks e = refl
late_at_alike i (n ∷ ns) ks (Opens f p) = refl
late_at_alike i (n ∷ ns) ks Enters = refl
late_at_alike i (n ∷ ns) ks Closes = refl
late_at_alike i (n ∷ ns) ks (Declares h s t p) = refl
late_at_alike i (n ∷ ns) ks (Refers t p) = refl
late_at_alike i (n ∷ ns) ks (Exports t a) = refl
late_at_alike i (n ∷ ns) ks (Wants t a) = refl
late_at_alike i (n ∷ ns) ks (Evals p) = refl

within_alike : (i : ℕ) (ns : List Extent) (e : Event) (es : List Event) → within i ns (bare e) (bare_all es) ≡ within i ns e es
within_alike i ns (Opens f p) es = ap (λ z. record { begin = i; end' = z; home = cond (is_passed f) (home_in i ns) i; wide = is_wide f } ∷ ns) (end_alike 0 (suc i) es)
within_alike i ns Enters es = refl
within_alike i ns Closes es = refl
within_alike i ns (Declares h s t p) es = refl
within_alike i ns (Refers t p) es = refl
within_alike i ns (Exports t a) es = refl
within_alike i ns (Wants t a) es = refl
within_alike i ns (Evals p) es = refl

noting_alike : (i : ℕ) (ns : List Extent) (ks : List Noted) (e : Event) → noting i ns ks (bare e) ≡ noting i ns ks e
noting_alike i [] ks e = refl
noting_alike i (n ∷ ns) ks (Opens f p) = refl
noting_alike i (n ∷ ns) ks Enters = refl
noting_alike i (n ∷ ns) ks Closes = refl
noting_alike i (n ∷ ns) ks (Declares h s t p) = refl
noting_alike i (n ∷ ns) ks (Refers t p) = refl
noting_alike i (n ∷ ns) ks (Exports t a) = refl
noting_alike i (n ∷ ns) ks (Wants t a) = refl
noting_alike i (n ∷ ns) ks (Evals p) = refl

late_alike : (i : ℕ) (ns : List Extent) (ks : List Noted) (es : List Event) → late i ns ks (bare_all es) ≡ late i ns ks es
late_alike i ns ks [] = refl
late_alike i ns ks (e ∷ es) =
    ap (λ z. cond z (i ∷ []) [] ++ late (suc i) (within i ns (bare e) (bare_all es)) (noting i ns ks (bare e)) (bare_all es)) (late_at_alike i ns ks e)
    ∙ (ap (λ z. cond (is_late_at i ns ks e) (i ∷ []) [] ++ late (suc i) z (noting i ns ks (bare e)) (bare_all es)) (within_alike i ns e es)
    ∙ (ap (λ z. cond (is_late_at i ns ks e) (i ∷ []) [] ++ late (suc i) (within i ns e es) z (bare_all es)) (noting_alike i ns ks e)
    ∙ ap (λ z. cond (is_late_at i ns ks e) (i ∷ []) [] ++ z) (late_alike (suc i) (within i ns e es) (noting i ns ks e) es)))

-- ---- exports

again_at_alike : (us : List Text) (e : Event) → is_again us (bare e) ≡ is_again us e
again_at_alike us (Opens f p) = refl
again_at_alike us Enters = refl
again_at_alike us Closes = refl
again_at_alike us (Declares h s t p) = refl
again_at_alike us (Refers t p) = refl
again_at_alike us (Exports t a) = refl
again_at_alike us (Wants t a) = refl
again_at_alike us (Evals p) = refl

exporting_alike : (us : List Text) (e : Event) → exporting us (bare e) ≡ exporting us e
exporting_alike us (Opens f p) = refl
exporting_alike us Enters = refl
exporting_alike us Closes = refl
exporting_alike us (Declares h s t p) = refl
exporting_alike us (Refers t p) = refl
exporting_alike us (Exports t a) = refl
exporting_alike us (Wants t a) = refl
exporting_alike us (Evals p) = refl

again_alike : (i : ℕ) (us : List Text) (es : List Event) → again i us (bare_all es) ≡ again i us es
again_alike i us [] = refl
again_alike i us (e ∷ es) =
    ap (λ z. cond z (i ∷ []) [] ++ again (suc i) (exporting us (bare e)) (bare_all es)) (again_at_alike us e)
    ∙ (ap (λ z. cond (is_again us e) (i ∷ []) [] ++ again (suc i) z (bare_all es)) (exporting_alike us e)
    ∙ ap (λ z. cond (is_again us e) (i ∷ []) [] ++ z) (again_alike (suc i) (exporting us e) es))

one_alike : (t : Text) (b h : Bool) (d e : Declaration) (xs ys : List Named) → d.name ≡ e.name → is_declared t (all_of xs) ≡ is_declared t (all_of ys) →
    is_declared t (all_of (cond b (record { head = h; is = d } ∷ []) [] ++ xs)) ≡ is_declared t (all_of (cond b (record { head = h; is = e } ∷ []) [] ++ ys))
one_alike t true h d e xs ys n g = ap (λ z. same t z || is_declared t (all_of xs)) n ∙ ap (λ z. same t e.name || z) g
one_alike t false h d e xs ys n g = g

collected_alike : (t : Text) (fs : List Frame) (es : List Event) → is_declared t (all_of (collected fs (bare_all es))) ≡ is_declared t (all_of (collected fs es))
collected_alike t fs [] = refl
collected_alike t fs (Opens f p ∷ es) = collected_alike t (f ∷ fs) es
collected_alike t [] (Closes ∷ es) = refl
collected_alike t (f ∷ fs) (Closes ∷ es) = collected_alike t fs es
collected_alike t [] (Declares h s u p ∷ es) = one_alike t (reaches s []) h (named h s u []).is (named h s u p).is (collected [] (bare_all es)) (collected [] es) refl (collected_alike t [] es)
collected_alike t (f ∷ fs) (Declares h s u p ∷ es) = one_alike t (reaches s (f ∷ fs)) h (named h s u []).is (named h s u p).is (collected (f ∷ fs) (bare_all es)) (collected (f ∷ fs) es) refl (collected_alike t (f ∷ fs) es)
collected_alike t [] (Enters ∷ es) = collected_alike t [] es
collected_alike t [] (Refers u p ∷ es) = collected_alike t [] es
collected_alike t [] (Exports u a ∷ es) = collected_alike t [] es
collected_alike t [] (Wants u a ∷ es) = collected_alike t [] es
collected_alike t [] (Evals p ∷ es) = collected_alike t [] es
collected_alike t (f ∷ fs) (Enters ∷ es) = collected_alike t (f ∷ fs) es
collected_alike t (f ∷ fs) (Refers u p ∷ es) = collected_alike t (f ∷ fs) es
collected_alike t (f ∷ fs) (Exports u a ∷ es) = collected_alike t (f ∷ fs) es
collected_alike t (f ∷ fs) (Wants u a ∷ es) = collected_alike t (f ∷ fs) es
collected_alike t (f ∷ fs) (Evals p ∷ es) = collected_alike t (f ∷ fs) es

unknown_at_alike : (ds es : List Declaration) (e : Event) → ((t : Text) → is_declared t ds ≡ is_declared t es) → is_unknown ds (bare e) ≡ is_unknown es e
unknown_at_alike ds es (Opens f p) h = refl
unknown_at_alike ds es Enters h = refl
unknown_at_alike ds es Closes h = refl
unknown_at_alike ds es (Declares g s t p) h = refl
unknown_at_alike ds es (Refers t p) h = refl
unknown_at_alike ds es (Exports t a) h = refl
unknown_at_alike ds es (Wants t a) h = ap not (h t)
unknown_at_alike ds es (Evals p) h = refl

unknown_alike : (i : ℕ) (ds cs : List Declaration) (es : List Event) → ((t : Text) → is_declared t ds ≡ is_declared t cs) → unknown i ds (bare_all es) ≡ unknown i cs es
unknown_alike i ds cs [] h = refl
unknown_alike i ds cs (e ∷ es) h =
    ap (λ z. cond z (i ∷ []) [] ++ unknown (suc i) ds (bare_all es)) (unknown_at_alike ds cs e h)
    ∙ ap (λ z. cond (is_unknown cs e) (i ∷ []) [] ++ z) (unknown_alike (suc i) ds cs es h)

amiss_alike : (es : List Event) → first_amiss (bare_all es) ≡ first_amiss es
amiss_alike [] = refl
amiss_alike (Opens OfModule p ∷ es) =
    ap (λ z. earlier (first z) (first (unknown 1 (all_of (collected [] (bare_all es))) (bare_all es)))) (again_alike 1 [] es)
    ∙ ap (λ z. earlier (first (again 1 [] es)) (first z)) (unknown_alike 1 (all_of (collected [] (bare_all es))) (all_of (collected [] es)) es (λ t. collected_alike t [] es))
amiss_alike (Opens OfScript p ∷ es) = refl
amiss_alike (Opens OfFunction p ∷ es) = refl
amiss_alike (Opens OfBlock p ∷ es) = refl
amiss_alike (Opens OfCatch p ∷ es) = refl
amiss_alike (Opens OfName p ∷ es) = refl
amiss_alike (Enters ∷ es) = refl
amiss_alike (Closes ∷ es) = refl
amiss_alike (Declares h s t p ∷ es) = refl
amiss_alike (Refers t p ∷ es) = refl
amiss_alike (Exports t a ∷ es) = refl
amiss_alike (Wants t a ∷ es) = refl
amiss_alike (Evals p ∷ es) = refl

pub first_alike : (es : List Event) → first_faulty (bare_all es) ≡ first_faulty es
first_alike es = ap (λ z. earlier (first z) (first_amiss (bare_all es))) (late_alike 0 [] [] es) ∙ ap (earlier (first (late 0 [] [] es))) (amiss_alike es)

calls_from : (i : ℕ) (es : List Event) → calls i (bare_all es) ≡ calls i es
calls_from i [] = refl
calls_from i (Evals p ∷ es) = ap (λ z. i ∷ z) (calls_from (suc i) es)
calls_from i (Opens f p ∷ es) = calls_from (suc i) es
calls_from i (Enters ∷ es) = calls_from (suc i) es
calls_from i (Closes ∷ es) = calls_from (suc i) es
calls_from i (Declares h s t p ∷ es) = calls_from (suc i) es
calls_from i (Refers t p ∷ es) = calls_from (suc i) es
calls_from i (Exports t a ∷ es) = calls_from (suc i) es
calls_from i (Wants t a ∷ es) = calls_from (suc i) es

pub calls_alike : (es : List Event) → calls 0 (bare_all es) ≡ calls 0 es
calls_alike es = calls_from 0 es
