-- The views of what the parser builds.
use Rattle.std.proofs.Common.{◌≡◌, List, [], ◌∷◌, ◌++◌, map, refl, ◌∙◌, ap, Box, Vec, Global}
use Rattle.jsx_base.specs.Token.{JsxName}
use Rattle.jsx_tree.specs.Kinds.{Element, jsx, Tree, leaf, node, list, none, part}
use Rattle.jsx_tree.specs.declared.text.Text.{Text}
use Rattle.jsx_tree.specs.declared.tree.Jsx.{Jsx}
use Rattle.jsx_tree.specs.View.{text_of, inside, forest, view_jsx}
use Rattle.jsx_tree.proofs.Rows.Steps.{both}

pub element_is : {t : Tree} (a : Text) (as' : Vec (Box Jsx Global) Global) → as'.items ≡ [] → t ≡ node (jsx Element) (part (leaf JsxName (text_of a)) (part (list (forest (map (inside view_jsx) as'.items))) none)) → t ≡ node (jsx Element) (part (leaf JsxName (text_of a)) (part (list none) none))
element_is a as' e is = is ∙ ap (λ js. node (jsx Element) (part (leaf JsxName (text_of a)) (part (list (forest (map (inside view_jsx) js))) none))) e

-- one more at the end of a list
forest_more : {A : Type 0} (f : A → Tree) (as' : List A) (a : A) → forest (map f (as' ++ a ∷ [])) ≡ both (forest (map f as')) (part (f a) none)
forest_more f [] a = refl
forest_more f (b ∷ as') a = ap (part (f b)) (forest_more f as' a)

pub pushed : {A : Type 0} (f : A → Tree) (as' bs : List A) (a : A) → bs ≡ as' ++ a ∷ [] → forest (map f bs) ≡ both (forest (map f as')) (part (f a) none)
pushed f as' bs a is = ap (λ cs. forest (map f cs)) is ∙ forest_more f as' a

pub pushed_as : {A : Type 0} (f : A → Tree) (as' bs : List A) (a : A) {t : Tree} → f a ≡ t → bs ≡ as' ++ a ∷ [] → forest (map f bs) ≡ both (forest (map f as')) (part t none)
pushed_as f as' bs a e is = pushed f as' bs a is ∙ ap (λ t. both (forest (map f as')) (part t none)) e
