-- How a cover turns, from what its parts turn into.
use Rattle.std.proofs.Common.{◌≡◌, ℕ, ◌+◌, ◌<◌, suc, true, false, List, [], ◌∷◌, ◌++◌, length, map, refl, sym, ◌∙◌, ap, subst, arith}
use Rattle.std.proofs.lemmas.List.{map-append}
use Rattle.jsx_base.specs.Token.{Text, IdentifierName, Elision}
use Rattle.jsx_base.specs.declared.place.Span.{Span}
use Rattle.std.specs.Prelude.{IfNone, IfSome, None, Option, Some}
use Rattle.jsx_tree.specs.Kinds.{InObject, Field, Array, Object, Property, Shorthand, Spread, Assign, Assigns, ArrayPat, ObjectPat, PropertyPat, ShorthandPat, ShorthandInit, WithInit, RestPat, RestProperty, Kind, expression, function, Tree, leaf, node, list, Forest, none, part}
use Rattle.jsx_tree.specs.Nonterminals.{is_bound}
use Rattle.jsx_tree.specs.Grows.{as_target}
use Rattle.jsx_tree.specs.Spans.{Told, no_tales, tale, tells, spans}
use Rattle.jsx_tree.specs.Told.{tales, told_list, told_node}
use Rattle.jsx_tree.specs.View.{forest}
use Rattle.jsx_tree.proofs.Apart.{clash}
use Rattle.jsx_tree.proofs.Rows.Steps.{both}
use Rattle.jsx_operand.specs.Climbing.{is_target}
use Rattle.jsx_operand.specs.Taken.{IsPairOf, IsPresetOf, IsToldOf, behind_first, held, is_pair, is_preset, is_rest, is_short, paired}
use Rattle.jsx_operand.specs.Turning.{Turns, turn_target, turn_array, turn_object, TurnsElement, turn_plain, turn_filled, TurnsSlots, slots_none, slot_hole, slot, slot_rest, TurnsParts, parts_none, part_pair, part_short, part_preset, part_rest, IsAssignOf, assigned, is_array, is_assign, is_elision, is_object, is_spread, retold, retold_each, retold_list, retold_part, retold_parts, retold_parts_list}
use Rattle.jsx_operand.proofs.Turned.{slots_both, parts_both}

-- ---- an array, an object, a target

pub array_turns : {t p : Tree} {ts us : Forest} → t ≡ node (expression Array) (part (list ts) none) → p ≡ node (function (ArrayPat Assigns)) (part (list us) none) → TurnsSlots ts us → Turns t p
array_turns {p = p} {ts = ts} {us = us} e f l = subst (λ u. Turns u p) (sym e) (subst (λ q. Turns (node (expression Array) (part (list ts) none)) q) (sym f) (turn_array l))

pub object_turns : {t p : Tree} {ts us : Forest} → t ≡ node (expression Object) (part (list ts) none) → p ≡ node (function (ObjectPat Assigns)) (part (list us) none) → TurnsParts ts us → Turns t p
object_turns {p = p} {ts = ts} {us = us} e f l = subst (λ u. Turns u p) (sym e) (subst (λ q. Turns (node (expression Object) (part (list ts) none)) q) (sym f) (turn_object l))

pub target_turns : {t p : Tree} → is_target t ≡ true → p ≡ as_target t → Turns t p
target_turns {t = t} h f = subst (λ q. Turns t q) (sym f) (turn_target h)

no_array : {ts : Forest} {p : Tree} → ((us : Forest) → TurnsSlots ts us → ⊥) → Turns (node (expression Array) (part (list ts) none)) p → ⊥
no_array never (turn_target e) = cc
no_array never (turn_array l) = never _ l

no_object : {ts : Forest} {p : Tree} → ((us : Forest) → TurnsParts ts us → ⊥) → Turns (node (expression Object) (part (list ts) none)) p → ⊥
no_object never (turn_target e) = cc
no_object never (turn_object l) = never _ l

pub array_refused : {t : Tree} {ts : Forest} → t ≡ node (expression Array) (part (list ts) none) → ((us : Forest) → TurnsSlots ts us → ⊥) → (p : Tree) → Turns t p → ⊥
array_refused e never p d = no_array never (subst (λ u. Turns u p) e d)

pub object_refused : {t : Tree} {ts : Forest} → t ≡ node (expression Object) (part (list ts) none) → ((us : Forest) → TurnsParts ts us → ⊥) → (p : Tree) → Turns t p → ⊥
object_refused e never p d = no_object never (subst (λ u. Turns u p) e d)

pub nothing_turns : {t : Tree} → is_array t ≡ false → is_object t ≡ false → is_target t ≡ false → (p : Tree) → Turns t p → ⊥
nothing_turns a o f p (turn_target e) = absurd (clash _ e f)
nothing_turns a o f p (turn_array l) = cc
nothing_turns a o f p (turn_object l) = cc

-- ---- what it tells

pub array_retold : {t : Tree} {ts : Forest} (ds es : List Told) {at : Option Span} {d e : Told} → t ≡ node (expression Array) (part (list ts) none) → d ≡ told_node at (told_list ds ∷ []) → e ≡ told_node at (told_list es ∷ []) → told_list es ≡ retold_list ts (told_list ds) → e ≡ retold t d
array_retold ds es {at = at} i j k l = k ∙ (ap (λ x. told_node at (x ∷ [])) l ∙ sym (λ n. retold (i n) (j n)))

pub object_retold : {t : Tree} {ts : Forest} (ds es : List Told) {at : Option Span} {d e : Told} → t ≡ node (expression Object) (part (list ts) none) → d ≡ told_node at (told_list ds ∷ []) → e ≡ told_node at (told_list es ∷ []) → told_list es ≡ retold_parts_list ts (told_list ds) → e ≡ retold t d
object_retold ds es {at = at} i j k l = k ∙ (ap (λ x. told_node at (x ∷ [])) l ∙ sym (λ n. retold (i n) (j n)))

same_retold : (t : Tree) (d : Told) → is_target t ≡ true → retold t d ≡ d
same_retold (leaf k s) d h = refl
same_retold (node (expression Array) ts) d h = cc
same_retold (node (expression Object) ts) d h = cc
same_retold (node (expression Spread) ts) d h = cc
same_retold (node _ ts) d h = refl
same_retold (list ts) d h = refl

pub target_retold : (t : Tree) {d e : Told} → is_target t ≡ true → e ≡ d → e ≡ retold t d
target_retold t {d = d} h k = k ∙ sym (same_retold t d h)

-- ---- with a default or without one

filled : {p t u e : Tree} → IsAssignOf p t u → assigned u ≡ part e none → t ≡ node (expression Assign) (part p (part e none))
filled {p = p} i a = i.is ∙ ap (λ ts. node (expression Assign) (part p ts)) (sym i.same ∙ a)

pub filled_turns : {p t u e q : Tree} → IsAssignOf p t u → assigned u ≡ part e none → q ≡ node (function (WithInit Assigns)) (part p (part e none)) → TurnsElement t q
filled_turns {p = p} {e = e} {q = q} i a f = subst (λ v. TurnsElement v q) (sym (filled i a)) (subst (λ r. TurnsElement (node (expression Assign) (part p (part e none))) r) (sym f) turn_filled)

pub filled_retold : {p t u : Tree} {at : Option Span} {a b d f g : Told} → IsAssignOf p t u → IsToldOf a at d f → behind_first f ≡ tale b no_tales → g ≡ told_node at (a ∷ b ∷ []) → g ≡ retold t d
filled_retold {t = t} {at = at} {a = a} {d = d} i j k l = l ∙ (ap (λ ds. tells (spans at ∷ []) (tale a ds)) (sym k ∙ j.same) ∙ (sym j.is ∙ sym (ap (λ v. retold v d) i.is)))

pub element_refused : {t : Tree} → is_assign t ≡ false → ((p : Tree) → Turns t p → ⊥) → (p : Tree) → TurnsElement t p → ⊥
element_refused a never p (turn_plain d) = never p d
element_refused a never p turn_filled = cc

-- ---- what stands in an array

pub hole_turns : {t p : Tree} → t ≡ leaf Elision [] → p ≡ leaf Elision [] → TurnsSlots (part t none) (part p none)
hole_turns {p = p} e f = subst (λ u. TurnsSlots (part u none) (part p none)) (sym e) (subst (λ q. TurnsSlots (part (leaf Elision []) none) (part q none)) (sym f) (slot_hole slots_none))

pub hole_retold : {t : Tree} {d e f : Told} → t ≡ leaf Elision [] → d ≡ f → e ≡ f → e ≡ retold t d
hole_retold {d = d} i j k = k ∙ (sym j ∙ sym (ap (λ u. retold u d) i))

pub rest_turns : {t u p q : Tree} → t ≡ node (expression Spread) (part u none) → q ≡ node (function (RestPat Assigns)) (part p none) → Turns u p → TurnsSlots (part t none) (part q none)
rest_turns {u = u} {q = q} e f d = subst (λ v. TurnsSlots (part v none) (part q none)) (sym e) (subst (λ r. TurnsSlots (part (node (expression Spread) (part u none)) none) (part r none)) (sym f) (slot_rest d slots_none))

pub rest_retold : {t u : Tree} {at : Option Span} {a b d e : Told} → t ≡ node (expression Spread) (part u none) → d ≡ told_node at (a ∷ []) → e ≡ told_node at (b ∷ []) → b ≡ retold u a → e ≡ retold t d
rest_retold {at = at} i j k l = k ∙ (ap (λ x. told_node at (x ∷ [])) l ∙ sym (λ n. retold (i n) (j n)))

no_rest : {u p : Tree} → ((q : Tree) → Turns u q → ⊥) → TurnsSlots (part (node (expression Spread) (part u none)) none) (part p none) → ⊥
no_rest never (slot (turn_plain (turn_target e)) l) = cc
no_rest never (slot_rest d l) = never _ d

pub rest_refused : {t u : Tree} → t ≡ node (expression Spread) (part u none) → ((q : Tree) → Turns u q → ⊥) → (p : Tree) → TurnsSlots (part t none) (part p none) → ⊥
rest_refused e never p l = no_rest never (subst (λ v. TurnsSlots (part v none) (part p none)) e l)

pub slot_refused : {t : Tree} → is_elision t ≡ false → is_spread t ≡ false → ((p : Tree) → TurnsElement t p → ⊥) → (p : Tree) → TurnsSlots (part t none) (part p none) → ⊥
slot_refused h s never p (slot_hole l) = cc
slot_refused h s never p (slot i l) = never p i
slot_refused h s never p (slot_rest d l) = cc

-- ---- what stands in an object

pair_is : {k t u e : Tree} → IsPairOf k t u → paired u ≡ part e none → t ≡ node (expression Property) (part k (part e none))
pair_is {k = k} i a = i.is ∙ ap (λ ts. node (expression Property) (part k ts)) (sym i.same ∙ a)

pub pair_turns : {k t u e p q : Tree} → IsPairOf k t u → paired u ≡ part e none → q ≡ node (function (PropertyPat Assigns)) (part k (part p none)) → TurnsElement e p → TurnsParts (part t none) (part q none)
pair_turns {k = k} {e = e} {q = q} i a f d = subst (λ v. TurnsParts (part v none) (part q none)) (sym (pair_is i a)) (subst (λ r. TurnsParts (part (node (expression Property) (part k (part e none))) none) (part r none)) (sym f) (part_pair d parts_none))

pub pair_retold : {k t u v : Tree} {at : Option Span} {a b c d f g : Told} → IsPairOf k t u → paired u ≡ part v none → IsToldOf a at d f → behind_first f ≡ tale b no_tales → g ≡ told_node at (a ∷ c ∷ []) → c ≡ retold v b → g ≡ retold_part t d
pair_retold {at = at} {a = a} {b = b} {d = d} i h j k l m =
    let back : d ≡ told_node at (a ∷ b ∷ []) = j.is ∙ ap (λ ds. tells (spans at ∷ []) (tale a ds)) (sym j.same ∙ k) in
    l ∙ (ap (λ x. told_node at (a ∷ x ∷ [])) m ∙ sym (λ n. retold_part (pair_is i h n) (back n)))

no_pair : {k e p : Tree} → ((q : Tree) → TurnsElement e q → ⊥) → TurnsParts (part (node (expression Property) (part k (part e none))) none) (part p none) → ⊥
no_pair never (part_pair d l) = never _ d

pub pair_refused : {k t u e : Tree} → IsPairOf k t u → paired u ≡ part e none → ((q : Tree) → TurnsElement e q → ⊥) → (p : Tree) → TurnsParts (part t none) (part p none) → ⊥
pair_refused i a never p l = no_pair never (subst (λ v. TurnsParts (part v none) (part p none)) (pair_is i a) l)

pub others_turn : {n : Text} {t q : Tree} → t ≡ node (expression Spread) (part (leaf IdentifierName n) none) → is_bound n ≡ true → q ≡ node (function (RestProperty Assigns)) (part (leaf IdentifierName n) none) → TurnsParts (part t none) (part q none)
others_turn {n = n} {q = q} e b f = subst (λ v. TurnsParts (part v none) (part q none)) (sym e) (subst (λ r. TurnsParts (part (node (expression Spread) (part (leaf IdentifierName n) none)) none) (part r none)) (sym f) (part_rest b parts_none))

pub short_turns : {n : Text} {t q : Tree} → t ≡ node (expression Shorthand) (part (leaf IdentifierName n) none) → is_bound n ≡ true → q ≡ node (function (ShorthandPat Assigns)) (part (leaf IdentifierName n) none) → TurnsParts (part t none) (part q none)
short_turns {n = n} {q = q} e b f = subst (λ v. TurnsParts (part v none) (part q none)) (sym e) (subst (λ r. TurnsParts (part (node (expression Shorthand) (part (leaf IdentifierName n) none)) none) (part r none)) (sym f) (part_short b parts_none))

pub short_retold : {n t : Tree} {d e f : Told} → t ≡ node (expression Shorthand) (part n none) → d ≡ f → e ≡ f → e ≡ retold_part t d
short_retold {d = d} i j k = k ∙ (sym j ∙ sym (ap (λ u. retold_part u d) i))

preset_is : {n t u e : Tree} → IsPresetOf n t u → held u ≡ part e none → t ≡ node (function (Field InObject)) (part n (part (list (part e none)) none))
preset_is {n = n} i a = i.is ∙ ap (λ ts. node (function (Field InObject)) (part n (part (list ts) none))) (sym i.same ∙ a)

pub preset_turns : {n : Text} {t u e q : Tree} → IsPresetOf (leaf IdentifierName n) t u → held u ≡ part e none → q ≡ node (function (ShorthandInit Assigns)) (part (leaf IdentifierName n) (part e none)) → TurnsParts (part t none) (part q none)
preset_turns {n = n} {e = e} {q = q} i a f = subst (λ v. TurnsParts (part v none) (part q none)) (sym (preset_is i a)) (subst (λ r. TurnsParts (part (node (function (Field InObject)) (part (leaf IdentifierName n) (part (list (part e none)) none))) none) (part r none)) (sym f) (part_preset parts_none))

pub preset_retold : {n t u v : Tree} {at : Option Span} {a b d f g : Told} → IsPresetOf n t u → held u ≡ part v none → IsToldOf a at d f → behind_first f ≡ tale (told_list (b ∷ [])) no_tales → g ≡ told_node at (a ∷ b ∷ []) → g ≡ retold_part t d
preset_retold {at = at} {a = a} {b = b} {d = d} i h j k l =
    let back : d ≡ told_node at (a ∷ told_list (b ∷ []) ∷ []) = j.is ∙ ap (λ ds. tells (spans at ∷ []) (tale a ds)) (sym j.same ∙ k) in
    l ∙ sym (λ n. retold_part (preset_is i h n) (back n))

pub name_refused : {t : Tree} → is_pair t ≡ false → is_rest t ≡ false → is_short t ≡ false → is_preset t ≡ false → (p : Tree) → TurnsParts (part t none) (part p none) → ⊥
name_refused a b c d p (part_pair i l) = cc
name_refused a b c d p (part_short e l) = absurd (clash _ e c)
name_refused a b c d p (part_preset l) = cc
name_refused a b c d p (part_rest e l) = absurd (clash _ e b)

no_default : {t : Tree} → is_pair t ≡ false → is_rest t ≡ false → is_short t ≡ false → held t ≡ none → (p : Tree) → TurnsParts (part t none) (part p none) → ⊥
no_default a b c d p (part_pair i l) = cc
no_default a b c d p (part_short e l) = absurd (clash _ e c)
no_default a b c d p (part_preset l) = cc
no_default a b c d p (part_rest e l) = absurd (clash _ e b)

pub preset_refused : {n t u : Tree} → IsPresetOf n t u → held u ≡ none → (p : Tree) → TurnsParts (part t none) (part p none) → ⊥
preset_refused i a p l = no_default (ap is_pair i.is) (ap is_rest i.is) (ap is_short i.is) (sym i.same ∙ a) p l

-- ---- one after the other

pub forest_more : (xs ys : List Tree) → forest (xs ++ ys) ≡ both (forest xs) (forest ys)
forest_more [] ys = refl
forest_more (x ∷ xs) ys = ap (part x) (forest_more xs ys)

mapped_more : {A : Type 0} (f : A → Tree) (xs : List A) (ys : List A) → forest (map f (xs ++ ys)) ≡ both (forest (map f xs)) (forest (map f ys))
mapped_more f xs ys = ap forest (map-append f xs ys) ∙ forest_more (map f xs) (map f ys)

pub slots_past : {A B : Type 0} (f : A → Tree) (g : B → Tree) (xs : List A) (x : A) (ys : List B) (y : B) → TurnsSlots (forest (map f xs)) (forest (map g ys)) → TurnsSlots (part (f x) none) (part (g y) none) → TurnsSlots (forest (map f (xs ++ x ∷ []))) (forest (map g (ys ++ y ∷ [])))
slots_past f g xs x ys y l m =
    let there = subst (λ us. TurnsSlots (both (forest (map f xs)) (part (f x) none)) us) (sym (mapped_more g ys (y ∷ []))) (slots_both l m) in
    subst (λ ts. TurnsSlots ts (forest (map g (ys ++ y ∷ [])))) (sym (mapped_more f xs (x ∷ []))) there

pub parts_past : {A B : Type 0} (f : A → Tree) (g : B → Tree) (xs : List A) (x : A) (ys : List B) (y : B) → TurnsParts (forest (map f xs)) (forest (map g ys)) → TurnsParts (part (f x) none) (part (g y) none) → TurnsParts (forest (map f (xs ++ x ∷ []))) (forest (map g (ys ++ y ∷ [])))
parts_past f g xs x ys y l m =
    let there = subst (λ us. TurnsParts (both (forest (map f xs)) (part (f x) none)) us) (sym (mapped_more g ys (y ∷ []))) (parts_both l m) in
    subst (λ ts. TurnsParts ts (forest (map g (ys ++ y ∷ [])))) (sym (mapped_more f xs (x ∷ []))) there

-- what turns into none, among others
no_slots : (ts : Forest) {t : Tree} (rs : Forest) {us : Forest} → ((p : Tree) → TurnsSlots (part t none) (part p none) → ⊥) → TurnsSlots (both ts (part t rs)) us → ⊥
no_slots none rs never (slot_hole l) = never _ (slot_hole slots_none)
no_slots none rs never (slot i l) = never _ (slot i slots_none)
no_slots none rs never (slot_rest d l) = never _ (slot_rest d slots_none)
no_slots (part u ts) rs never (slot_hole l) = no_slots ts rs never l
no_slots (part u ts) rs never (slot i l) = no_slots ts rs never l
no_slots (part u ts) rs never (slot_rest d l) = no_slots ts rs never l

no_parts : (ts : Forest) {t : Tree} (rs : Forest) {us : Forest} → ((p : Tree) → TurnsParts (part t none) (part p none) → ⊥) → TurnsParts (both ts (part t rs)) us → ⊥
no_parts none rs never (part_pair i l) = never _ (part_pair i parts_none)
no_parts none rs never (part_short e l) = never _ (part_short e parts_none)
no_parts none rs never (part_preset l) = never _ (part_preset parts_none)
no_parts none rs never (part_rest e l) = never _ (part_rest e parts_none)
no_parts (part u ts) rs never (part_pair i l) = no_parts ts rs never l
no_parts (part u ts) rs never (part_short e l) = no_parts ts rs never l
no_parts (part u ts) rs never (part_preset l) = no_parts ts rs never l
no_parts (part u ts) rs never (part_rest e l) = no_parts ts rs never l

pub slots_refused : {A : Type 0} (f : A → Tree) {all : List A} (xs : List A) (x : A) (rest : List A) → xs ++ x ∷ rest ≡ all → ((p : Tree) → TurnsSlots (part (f x) none) (part p none) → ⊥) → (us : Forest) → TurnsSlots (forest (map f all)) us → ⊥
slots_refused f xs x rest e never us l = no_slots (forest (map f xs)) (forest (map f rest)) never (subst (λ ts. TurnsSlots ts us) (ap (λ ys. forest (map f ys)) (sym e) ∙ mapped_more f xs (x ∷ rest)) l)

pub parts_refused : {A : Type 0} (f : A → Tree) {all : List A} (xs : List A) (x : A) (rest : List A) → xs ++ x ∷ rest ≡ all → ((p : Tree) → TurnsParts (part (f x) none) (part p none) → ⊥) → (us : Forest) → TurnsParts (forest (map f all)) us → ⊥
parts_refused f xs x rest e never us l = no_parts (forest (map f xs)) (forest (map f rest)) never (subst (λ ts. TurnsParts ts us) (ap (λ ys. forest (map f ys)) (sym e) ∙ mapped_more f xs (x ∷ rest)) l)

-- what they tell, one by one
pub each_retold : {A : Type 0} (f : A → Tree) (g : A → Told) (xs : List A) → tales (map (λ x. retold (f x) (g x)) xs) ≡ retold_each (forest (map f xs)) (tales (map g xs))
each_retold f g [] = refl
each_retold f g (x ∷ xs) = ap (tale (retold (f x) (g x))) (each_retold f g xs)

pub parts_retold : {A : Type 0} (f : A → Tree) (g : A → Told) (xs : List A) → tales (map (λ x. retold_part (f x) (g x)) xs) ≡ retold_parts (forest (map f xs)) (tales (map g xs))
parts_retold f g [] = refl
parts_retold f g (x ∷ xs) = ap (tale (retold_part (f x) (g x))) (parts_retold f g xs)

-- one more of some that are made of others
pub made_past : {A B : Type 0} (h : B → Told) (f : A → Told) (xs : List A) (x : A) (ys : List B) (y : B) → map h ys ≡ map f xs → h y ≡ f x → map h (ys ++ y ∷ []) ≡ map f (xs ++ x ∷ [])
made_past h f xs x ys y e i = map-append h ys (y ∷ []) ∙ ((λ n. e n ++ i n ∷ []) ∙ sym (map-append f xs (x ∷ [])))

-- ---- how large a tree is

mutual
  pub weight : Tree → ℕ
  weight (leaf k s) = 1
  weight (node k cs) = suc (weights cs)
  weight (list ts) = suc (weights ts)

  pub weights : Forest → ℕ
  weights none = 0
  weights (part t ts) = suc (weight t + weights ts)

among_weights : (ts : Forest) (t : Tree) (rs : Forest) → weight t < weights (both ts (part t rs))
unfolding weights
among_weights none t rs = let h : weight t < suc (weight t + weights rs) = omega arith in h
among_weights (part u ts) t rs =
    let g = among_weights ts t rs in
    let h : weight t < suc (weight u + weights (both ts (part t rs))) = omega arith in
    h

pub lighter_among : {A : Type 0} (f : A → Tree) {all : List A} (xs : List A) (x : A) (rest : List A) → xs ++ x ∷ rest ≡ all → weight (f x) < weights (forest (map f all))
lighter_among f xs x rest e = subst (λ ys. weight (f x) < weights (forest (map f ys))) e (subst (λ ts. weight (f x) < weights ts) (sym (mapped_more f xs (x ∷ rest))) (among_weights (forest (map f xs)) (f x) (forest (map f rest))))

pub list_lighter : {k : Kind} {t : Tree} {ts : Forest} → t ≡ node k (part (list ts) none) → weights ts < weight t
unfolding weights
list_lighter {ts = ts} e =
    let h : weights ts < suc (suc (suc (weights ts) + 0)) = omega arith in
    subst (λ u. weights ts < weight u) (sym e) h

pub part_lighter : {k : Kind} {t u : Tree} → t ≡ node k (part u none) → weight u < weight t
unfolding weights
part_lighter {u = u} e =
    let h : weight u < suc (suc (weight u + 0)) = omega arith in
    subst (λ v. weight u < weight v) (sym e) h

pub value_lighter : {k t u e : Tree} → IsPairOf k t u → paired u ≡ part e none → weight e < weight t
unfolding weights
value_lighter {k = k} {e = e} i a =
    let h : weight e < suc (suc (weight k + suc (weight e + 0))) = omega arith in
    subst (λ v. weight e < weight v) (sym (pair_is i a)) h

pub emptied : {A : Type 0} (xs : List A) → length xs ≡ 0 → xs ≡ []
emptied [] h = refl
emptied (x ∷ xs) h = absurd (omega arith)

-- ---- what an answer holds, where it is known whether it has one

pub some_of : {A : Type 0} (P : A → Type 0) {o : Option A} {x : A} → o ≡ Some x → IfSome o P → P x
some_of P e h = subst (λ o. IfSome o P) e h

pub none_of : {A : Type 0} (B : Type 0) {o : Option A} → o ≡ None → IfNone o B → B
none_of B e h = subst (λ o. IfNone o B) e h
