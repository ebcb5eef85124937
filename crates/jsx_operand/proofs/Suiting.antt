-- A pattern that assigns, and the one that binds, from their parts.
use Rattle.std.proofs.Common.{◌≡◌, ℕ, ◌+◌, ◌<◌, ◌≤◌, suc, zero, Bool, true, false, List, [], ◌∷◌, ◌++◌, length, take, get_or, map, refl, sym, ◌∙◌, ap, subst, arith, Option, Some, None, Box, Global}
use Rattle.std.specs.Prelude.{◌&&◌}
use Rattle.std.proofs.lemmas.List.{map-append, take_more, take_all}
use Rattle.jsx_tree.specs.Kinds.{Binds, Assigns, Tree, Forest, none, part}
use Rattle.jsx_tree.specs.declared.tree.Expr.{Expr}
use Rattle.jsx_tree.specs.declared.tree.Pat.{Pat}
use Rattle.jsx_tree.specs.View.{forest, forest_at, inside, shorthand_of, view_expr, view_pat, view_pattern, view_target}
use Rattle.jsx_tree.proofs.Rows.Steps.{both}
use Rattle.jsx_tree.proofs.Views.{views}
use Rattle.jsx_operand.specs.Turning.{Turns, TurnsElement, Suits, suits_name, suits_hole, suits_array, suits_object, suits_filled, suits_rest, suits_pair, suits_short, suits_preset, suits_others, SuitsAll, suits_none, suits_more, binding, bindings}
use Rattle.jsx_tree.proofs.Apart.{clash}
use Rattle.jsx_operand.specs.Covers.{IsParameter, IsTurned, view_cover}
use Rattle.jsx_operand.specs.declared.cover.Cover.{Cover}
use Rattle.jsx_operand.proofs.Turners.{forest_more}
use Rattle.jsx_operand.proofs.Turning.{element_once, suits_binds}

pub and_true : (b : Bool) → (b && true) ≡ b
and_true true = refl
and_true false = refl

pub targets_forest : (ps : List (Box Pat Global)) → forest_at Assigns (map (inside view_pattern) ps) ≡ forest (map (inside view_target) ps)
targets_forest [] = refl
targets_forest (p ∷ ps) = ap (part (view_target p.value)) (targets_forest ps)

pub bound_forest : (ps : List (Box Pat Global)) → forest_at Binds (map (inside view_pattern) ps) ≡ forest (map (inside view_pat) ps)
bound_forest [] = refl
bound_forest (p ∷ ps) = ap (part (view_pat p.value)) (bound_forest ps)

pub short_binds : (a : Tree) (e : Option (Box Expr Global)) → binding (shorthand_of view_expr Assigns a e) ≡ true
short_binds a None = refl
short_binds a (Some e) = refl

pub short_suits : (a : Tree) (e : Option (Box Expr Global)) → Suits (shorthand_of view_expr Assigns a e) (shorthand_of view_expr Binds a e)
short_suits a None = suits_short
short_suits a (Some e) = suits_preset

pub ruleset suiting = (views, and_true, targets_forest, bound_forest, short_binds, short_suits, suits_name, suits_hole, suits_array, suits_object, suits_filled, suits_rest, suits_pair, suits_others)

-- ---- one after the other

all_more : {ts us rs ws : Forest} → SuitsAll ts us → SuitsAll rs ws → SuitsAll (both ts rs) (both us ws)
all_more suits_none m = m
all_more (suits_more s l) m = suits_more s (all_more l m)

pub suits_past : {A : Type 0} (f g : A → Tree) (xs : List A) (i : ℕ) (x : A) → i < length xs → x ≡ get_or xs i x → SuitsAll (forest (map f (take i xs))) (forest (map g (take i xs))) → Suits (f x) (g x) → SuitsAll (forest (map f (take (i + 1) xs))) (forest (map g (take (i + 1) xs)))
suits_past {A = A} f g xs i x within is l s =
    let step : take (i + 1) xs ≡ take i xs ++ x ∷ [] = take_more xs i x within ∙ ap (λ z. take i xs ++ z ∷ []) (sym is) in
    let seen : (h : A → Tree) → forest (map h (take (i + 1) xs)) ≡ both (forest (map h (take i xs))) (part (h x) none) = λ h. ap (λ ys. forest (map h ys)) step ∙ (ap forest (map-append h (take i xs) (x ∷ [])) ∙ forest_more (map h (take i xs)) (h x ∷ [])) in
    subst (λ ts. SuitsAll ts (forest (map g (take (i + 1) xs)))) (sym (seen f)) (subst (λ us. SuitsAll (both (forest (map f (take i xs))) (part (f x) none)) us) (sym (seen g)) (all_more l (suits_more s suits_none)))

pub suits_whole : {A : Type 0} (f g : A → Tree) (xs : List A) (i : ℕ) → length xs ≤ i → SuitsAll (forest (map f (take i xs))) (forest (map g (take i xs))) → SuitsAll (forest (map f xs)) (forest (map g xs))
suits_whole f g xs i h l = subst (λ ys. SuitsAll (forest (map f ys)) (forest (map g ys))) (take_all i xs h) l

-- and one that doesn't
pub unbound_at : {A : Type 0} (f : A → Tree) (xs : List A) (i : ℕ) (x : A) → i < length xs → x ≡ get_or xs i x → binding (f x) ≡ false → bindings (forest (map f xs)) ≡ false
unbound_at f [] i x within is never = absurd (omega arith)
unbound_at f (y ∷ ys) zero x within is never = ap (λ z. binding (f z) && bindings (forest (map f ys))) (sym is) ∙ ap (λ b. b && bindings (forest (map f ys))) never
unbound_at f (y ∷ ys) (suc i) x within is never = ap (λ b. binding (f y) && b) (unbound_at f ys i x (omega arith) is never) ∙ and_false (binding (f y))
  where
    and_false : (b : Bool) → (b && false) ≡ false
    and_false true = refl
    and_false false = refl

-- ---- a parameter, and where there is none

pub may_not_turn : {c : Cover} → c.may_turn ≡ false → (p : Tree) → IsTurned c p → ⊥
may_not_turn {c = c} n p d = clash c.may_turn d.may n

pub turned_by : {c : Cover} {p : Tree} → c.may_turn ≡ true → Turns (view_cover c) p → IsTurned c p
turned_by m d = record { may = m; turns = d }

pub turned_none : {c : Cover} → ((p : Tree) → Turns (view_cover c) p → ⊥) → (p : Tree) → IsTurned c p → ⊥
turned_none f p d = f p d.turns

pub parameter_by : {c : Cover} {p q : Tree} → c.may_turn ≡ true → TurnsElement (view_cover c) p → Suits p q → IsParameter c q
parameter_by {p = p} m d s = record { pattern = p; turned = record { may = m; turns = d }; suits = s }

pub parameter_may_not : {c : Cover} → c.may_turn ≡ false → (q : Tree) → IsParameter c q → ⊥
parameter_may_not {c = c} n q d = clash c.may_turn d.turned.may n

pub parameter_none : {c : Cover} → ((p : Tree) → TurnsElement (view_cover c) p → ⊥) → (q : Tree) → IsParameter c q → ⊥
parameter_none f q d = f d.pattern d.turned.turns

pub parameter_unbound : {c : Cover} {p : Tree} → TurnsElement (view_cover c) p → binding p ≡ false → (q : Tree) → IsParameter c q → ⊥
parameter_unbound {p = p} d n q e = clash (binding p) (ap binding (element_once d e.turned.turns) ∙ suits_binds e.suits) n
