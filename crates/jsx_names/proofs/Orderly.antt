-- Where places rise, no early error stands before the first one by number.
use Rattle.std.proofs.Common.{◌≡◌, ◌<◌, ◌≤◌, ℕ, suc, List, [], ◌∷◌, ◌++◌, Bool, true, false, refl, sym, ap, ◌∙◌, subst, arith, ◌⊎◌, inl, inr}
use Rattle.std.proofs.lemmas.Bool.{le-leb, lt-leb}
use Rattle.std.specs.Prelude.{cond, not, ◌||◌, nat_eq, nat_lt, Option, Some, None, ⊤}
use Rattle.std.specs.List.{list_any}
use Rattle.std.specs.Option.{option_map}
use Rattle.jsx_base.specs.Token.{Text}
use Rattle.jsx_tree.specs.Kinds.{Tree}
use Rattle.jsx_tree.specs.Scopes.{Declaration}
use Rattle.jsx_tree.specs.Clashes.{Place, first_clash}
use Rattle.jsx_tree.proofs.Tokens.{and_left, and_right}
use Rattle.jsx_names.specs.Events.{OfModule, OfScript, OfFunction, OfBlock, OfCatch, OfName, Event, Opens, Enters, Closes, Declares, Refers, Exports, Wants, Evals, events}
use Rattle.jsx_names.specs.Answers.{all_of, collected}
use Rattle.jsx_names.specs.Faults.{Extent, Noted, again, exporting, faulty, faulty_exports, first_faulty, is_again, is_late_at, is_unknown, late, noting, placed, placed_at, unknown, within}
use Rattle.jsx_names.specs.Least.{IsLeastOf, IsOrdered, is_out}
use Rattle.jsx_names.specs.Proper.{proper}
use Rattle.jsx_names.specs.Rising.{places_in, none_before, rising}
use Rattle.jsx_names.proofs.ScopeNames.{never}
use Rattle.jsx_names.proofs.Numbered.{Places, places_all}
use Rattle.jsx_names.proofs.Leasts.{faulty_least}
use Rattle.jsx_names.proofs.FirstFault.{first_fault_is}
use Rattle.jsx_names.proofs.Rises.{self_in}
use Rattle.jsx_names.proofs.RisesTree.{events_rise}
use Rattle.jsx_names.proofs.Faults.{faults_told}

-- events at whose places early errors on names may be
abbrev is_placed : Event → Bool
is_placed (Declares h s t p) = true
is_placed (Exports t a) = true
is_placed (Wants t a) = true
is_placed e = false

-- one of these is the event with number k, where i is that of the first
abbrev Stands : ℕ → ℕ → List Event → Type 0
Stands k i [] = true ≡ false
Stands k i (e ∷ es) = ((k ≡ i) × (is_placed e ≡ true)) ⊎ Stands k (suc i) es

abbrev AllStand : ℕ → List Event → List ℕ → Type 0
AllStand i es [] = ⊤
AllStand i es (x ∷ xs) = Stands x i es × AllStand i es xs

-- ---- places in front

places_step : (e : Event) (es : List Event) → is_placed e ≡ true → places_in (e ∷ es) ≡ placed e ∷ places_in es
places_step (Declares h s t p) es m = refl
places_step (Exports t a) es m = refl
places_step (Wants t a) es m = refl
places_step e es m = never m

none_rest : (a : Place) (e : Event) (es : List Event) → none_before a (places_in (e ∷ es)) ≡ true → none_before a (places_in es) ≡ true
none_rest a (Declares h s t p) es n = and_right (not (is_out a (placed (Declares h s t p)))) (none_before a (places_in es)) n
none_rest a (Exports t b) es n = and_right (not (is_out a b)) (none_before a (places_in es)) n
none_rest a (Wants t b) es n = and_right (not (is_out a b)) (none_before a (places_in es)) n
none_rest a e es n = n

rising_rest : (e : Event) (es : List Event) → rising (places_in (e ∷ es)) ≡ true → rising (places_in es) ≡ true
rising_rest (Declares h s t p) es r = and_right (none_before (placed (Declares h s t p)) (places_in es)) (rising (places_in es)) r
rising_rest (Exports t a) es r = and_right (none_before a (places_in es)) (rising (places_in es)) r
rising_rest (Wants t a) es r = and_right (none_before a (places_in es)) (rising (places_in es)) r
rising_rest e es r = r

not_so : (b : Bool) → not b ≡ true → b ≡ false
not_so true h = never h
not_so false h = refl

behind : (F : ℕ → Place) (a : Place) (i : ℕ) (es : List Event) (j : ℕ) → Places F i es → none_before a (places_in es) ≡ true → Stands j i es → is_out a (F j) ≡ false
behind F a i [] j p n s = never (sym s)
behind F a i (e ∷ es) j p n (inl s) =
    ap (λ z. is_out a (F z)) s.0 ∙ (ap (is_out a) p.0
    ∙ not_so (is_out a (placed e)) (and_left (not (is_out a (placed e))) (none_before a (places_in es)) (ap (none_before a) (sym (places_step e es s.1)) ∙ n)))
behind F a i (e ∷ es) j p n (inr s) = behind F a (suc i) es j p.1 (none_rest a e es n) s

stands_from : (k i : ℕ) (es : List Event) → Stands k i es → i ≤ k
stands_from k i [] s = never (sym s)
stands_from k i (e ∷ es) (inl s) = omega (arith, s.0)
stands_from k i (e ∷ es) (inr s) = omega (arith, stands_from k (suc i) es s)

too_far : {X : Type 0} (i : ℕ) → suc i ≤ i → X
too_far i l = never (sym (lt-leb (suc i) i (let x : i < suc i = omega arith in x)) ∙ le-leb (suc i) i l)

in_turn : (F : ℕ → Place) (i : ℕ) (es : List Event) (k j : ℕ) → Places F i es → rising (places_in es) ≡ true → Stands k i es → Stands j i es → k ≤ j → is_out (F k) (F j) ≡ false
in_turn F i [] k j p r s t l = never (sym s)
in_turn F i (e ∷ es) k j p r (inl s) (inl t) l = ap (λ z. is_out (F z) (F j)) s.0 ∙ (ap (λ z. is_out (F i) (F z)) t.0 ∙ self_in (F i))
in_turn F i (e ∷ es) k j p r (inl s) (inr t) l =
    ap (λ z. is_out (F z) (F j)) s.0 ∙ (ap (λ z. is_out z (F j)) p.0
    ∙ behind F (placed e) (suc i) es j p.1 (and_left (none_before (placed e) (places_in es)) (rising (places_in es)) (ap rising (sym (places_step e es s.1)) ∙ r)) t)
in_turn F i (e ∷ es) k j p r (inr s) (inl t) l = too_far i (let m = stands_from k (suc i) es s in let x : suc i ≤ i = omega (arith, m, t.0, l) in x)
in_turn F i (e ∷ es) k j p r (inr s) (inr t) l = in_turn F (suc i) es k j p.1 (rising_rest e es r) s t l

-- ---- early errors are such events

stand_later : (i : ℕ) (e : Event) (es : List Event) (xs : List ℕ) → AllStand (suc i) es xs → AllStand i (e ∷ es) xs
stand_later i e es [] a = tt
stand_later i e es (x ∷ xs) a = (inr a.0, stand_later i e es xs a.1)

stand_if : (i : ℕ) (e : Event) (es : List Event) (b : Bool) (xs : List ℕ) → (b ≡ true → is_placed e ≡ true) → AllStand (suc i) es xs → AllStand i (e ∷ es) (cond b (i ∷ []) [] ++ xs)
stand_if i e es true xs h a = (inl (refl, h refl), stand_later i e es xs a)
stand_if i e es false xs h a = stand_later i e es xs a

stand_both : (i : ℕ) (es : List Event) (xs ys : List ℕ) → AllStand i es xs → AllStand i es ys → AllStand i es (xs ++ ys)
stand_both i es [] ys a b = b
stand_both i es (x ∷ xs) ys a b = (a.0, stand_both i es xs ys a.1 b)

late_placed : (i : ℕ) (ns : List Extent) (ks : List Noted) (e : Event) → is_late_at i ns ks e ≡ true → is_placed e ≡ true
late_placed i [] ks e h = never h
late_placed i (n ∷ ns) ks (Declares g s t p) h = refl
late_placed i (n ∷ ns) ks e h = never h

again_placed : (us : List Text) (e : Event) → is_again us e ≡ true → is_placed e ≡ true
again_placed us (Exports t a) h = refl
again_placed us e h = never h

unknown_placed : (ds : List Declaration) (e : Event) → is_unknown ds e ≡ true → is_placed e ≡ true
unknown_placed ds (Wants t a) h = refl
unknown_placed ds e h = never h

late_stand : (i : ℕ) (ns : List Extent) (ks : List Noted) (es : List Event) → AllStand i es (late i ns ks es)
late_stand i ns ks [] = tt
late_stand i ns ks (e ∷ es) = stand_if i e es (is_late_at i ns ks e) (late (suc i) (within i ns e es) (noting i ns ks e) es) (late_placed i ns ks e) (late_stand (suc i) (within i ns e es) (noting i ns ks e) es)

again_stand : (i : ℕ) (us : List Text) (es : List Event) → AllStand i es (again i us es)
again_stand i us [] = tt
again_stand i us (e ∷ es) = stand_if i e es (is_again us e) (again (suc i) (exporting us e) es) (again_placed us e) (again_stand (suc i) (exporting us e) es)

unknown_stand : (i : ℕ) (ds : List Declaration) (es : List Event) → AllStand i es (unknown i ds es)
unknown_stand i ds [] = tt
unknown_stand i ds (e ∷ es) = stand_if i e es (is_unknown ds e) (unknown (suc i) ds es) (unknown_placed ds e) (unknown_stand (suc i) ds es)

exports_stand : (es : List Event) → AllStand 0 es (faulty_exports es)
exports_stand [] = tt
exports_stand (Opens OfModule p ∷ es) =
    stand_later 0 (Opens OfModule p) es (again 1 [] es ++ unknown 1 (all_of (collected [] es)) es)
    (stand_both 1 es (again 1 [] es) (unknown 1 (all_of (collected [] es)) es) (again_stand 1 [] es) (unknown_stand 1 (all_of (collected [] es)) es))
exports_stand (Opens OfScript p ∷ es) = tt
exports_stand (Opens OfFunction p ∷ es) = tt
exports_stand (Opens OfBlock p ∷ es) = tt
exports_stand (Opens OfCatch p ∷ es) = tt
exports_stand (Opens OfName p ∷ es) = tt
exports_stand (Enters ∷ es) = tt
exports_stand (Closes ∷ es) = tt
exports_stand (Declares h s t p ∷ es) = tt
exports_stand (Refers t p ∷ es) = tt
exports_stand (Exports t a ∷ es) = tt
exports_stand (Wants t a ∷ es) = tt
exports_stand (Evals p ∷ es) = tt

faulty_stand : (es : List Event) → AllStand 0 es (faulty es)
faulty_stand es = stand_both 0 es (late 0 [] [] es) (faulty_exports es) (late_stand 0 [] [] es) (exports_stand es)

-- ---- the first of them

number_is : (a b : ℕ) → nat_eq a b ≡ true → a ≡ b
number_is a b e = grind arith

one_stands : (i : ℕ) (es : List Event) (k x : ℕ) (b c : Bool) → nat_eq k x ≡ b → b || c ≡ true → Stands x i es → (c ≡ true → Stands k i es) → Stands k i es
one_stands i es k x true c e h s r = subst (λ z. Stands z i es) (sym (number_is k x e)) s
one_stands i es k x false c e h s r = r h

among_stands : (i : ℕ) (es : List Event) (k : ℕ) (xs : List ℕ) → AllStand i es xs → list_any (nat_eq k) xs ≡ true → Stands k i es
among_stands i es k [] a h = never h
among_stands i es k (x ∷ xs) a h = one_stands i es k x (nat_eq k x) (list_any (nat_eq k) xs) refl h a.0 (λ m. among_stands i es k xs a.1 m)

not_less : (j k : ℕ) → nat_lt j k ≡ false → k ≤ j
not_less j k e = grind arith

left_false : (a b : Bool) → a || b ≡ false → a ≡ false
left_false true b e = e
left_false false b e = refl

right_false : (a b : Bool) → a || b ≡ false → b ≡ false
right_false true b e = never (sym e)
right_false false b e = e

neither : (a b : Bool) → a ≡ false → b ≡ false → a || b ≡ false
neither true b x y = x
neither false b x y = y

none_out : (F : ℕ → Place) (es : List Event) (k : ℕ) (xs : List ℕ) → Places F 0 es → rising (places_in es) ≡ true → Stands k 0 es → AllStand 0 es xs → list_any (λ j. nat_lt j k) xs ≡ false → list_any (λ j. is_out (F k) (F j)) xs ≡ false
none_out F es k [] p r s a h = refl
none_out F es k (x ∷ xs) p r s a h =
    neither (is_out (F k) (F x)) (list_any (λ j. is_out (F k) (F j)) xs)
    (in_turn F 0 es k x p r s a.0 (not_less x k (left_false (nat_lt x k) (list_any (λ j. nat_lt j k) xs) h)))
    (none_out F es k xs p r s a.1 (right_false (nat_lt x k) (list_any (λ j. nat_lt j k) xs) h))

least_ordered : (o : Option ℕ) (es : List Event) → rising (places_in es) ≡ true → IsLeastOf o (faulty es) → IsOrdered o es
least_ordered None es r h = tt
least_ordered (Some k) es r h = none_out (placed_at es) es k (faulty es) (places_all es) r (among_stands 0 es k (faulty es) (faulty_stand es) h.among) (faulty_stand es) h.none_less

pub rising_ordered : (es : List Event) → rising (places_in es) ≡ true → IsOrdered (first_faulty es) es
rising_ordered es r = least_ordered (first_faulty es) es r (faulty_least es)

pub first_by_number : (t : Tree) → proper t ≡ true → first_clash t ≡ option_map (placed_at (events t)) (first_faulty (events t))
first_by_number t h = sym (faults_told t h) ∙ first_fault_is (events t) (rising_ordered (events t) (events_rise t h))
