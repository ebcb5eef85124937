-- What a box that was made shows, from what was put in it.
use Rattle.std.proofs.Common.{◌≡◌, List, [], ◌∷◌, map, refl, ap, ◌∙◌, Result, Box, IfOk, Global}
use Rattle.std.proofs.lemmas.Result.{IfOk-weaker}
use Rattle.jsx_tree.specs.declared.tree.Pat.{Pat}
use Rattle.jsx_tree.specs.declared.tree.Prop.{Prop}
use Rattle.jsx_tree.specs.Kinds.{Assigns, part}
use Rattle.jsx_tree.specs.View.{forest, forest_at, inside, members_of_class, members_of_object, view_member, view_pattern, view_target}
use Rattle.jsx_make.specs.Members.{view_class_member, view_prop}

pub shows : {T V E : Type 0} {u : V} (f : T → V) (r : Result (Box T Global) E) (x : T) → IfOk r (λ b. b.value ≡ x) → f x ≡ u → IfOk r (λ b. f b.value ≡ u)
shows {u = u} f r x made e = IfOk-weaker r (λ b. b.value ≡ x) (λ b. f b.value ≡ u) (λ b is. ap f is ∙ e) made

-- the same of what depends on a place
pub shows_at : {T V R E : Type 0} {u : R → V} (f : T → R → V) (r : Result (Box T Global) E) (x : T) → IfOk r (λ b. b.value ≡ x) → ((i : R) → f x i ≡ u i) → IfOk r (λ b. (i : R) → f b.value i ≡ u i)
shows_at {R = R} {u = u} f r x made e = IfOk-weaker r (λ b. b.value ≡ x) (λ b. (i : R) → f b.value i ≡ u i) (λ b is i. ap (λ t. f t i) is ∙ e i) made

-- the members of an object, as one list
pub members_forest : (ms : List (Box Prop Global)) → members_of_object (map (inside view_member) ms) ≡ forest (map (inside view_prop) ms)
members_forest [] = refl
members_forest (m ∷ ms) = ap (part (view_prop m.value)) (members_forest ms)

pub class_forest : (ms : List (Box Prop Global)) → members_of_class (map (inside view_member) ms) ≡ forest (map (inside view_class_member) ms)
class_forest [] = refl
class_forest (m ∷ ms) = ap (part (view_class_member m.value)) (class_forest ms)

-- the parts of a pattern that assigns
pub assigned_forest : (ps : List (Box Pat Global)) → forest_at Assigns (map (inside view_pattern) ps) ≡ forest (map (inside view_target) ps)
assigned_forest [] = refl
assigned_forest (p ∷ ps) = ap (part (view_target p.value)) (assigned_forest ps)
