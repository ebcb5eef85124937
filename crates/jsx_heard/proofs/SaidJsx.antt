-- What is said of a JSX node: one equation for each variant that an answer cites.
use Rattle.std.proofs.Common.{◌≡◌, List, [], ◌++◌, map, sym, ap, ◌∙◌, append-nil, Option, Some, Box, Vec, Global}
use Rattle.jsx_base.specs.declared.place.Span.{Span}
use Rattle.jsx_tree.specs.declared.tree.AttrName.{AttrName}
use Rattle.jsx_tree.specs.declared.tree.Expr.{Expr}
use Rattle.jsx_tree.specs.declared.tree.Jsx.{Jsx}
use Rattle.jsx_tree.specs.declared.tree.Jsx.TheVariants as jsx
use Rattle.jsx_tree.specs.declared.tree.Tag.{Tag}
use Rattle.jsx_tree.specs.Told.{tales, told_expr, told_jsx, told_optional, told_tag}
use Rattle.jsx_tree.specs.View.{inside, forest, optional_of, view_expr, view_jsx, view_tag}
use Rattle.jsx_tree.proofs.Views.{view-Jsx-Element, view-Jsx-ElementWithChildren, view-Jsx-Fragment, view-Jsx-Container, view-Jsx-Spread, view-Jsx-Attribute}
use Rattle.jsx_tree.proofs.Telling.{told-Jsx-Element, told-Jsx-ElementWithChildren, told-Jsx-Fragment, told-Jsx-Container, told-Jsx-Spread, told-Jsx-Attribute}
use Rattle.jsx_names.specs.Events.{Plain}
use Rattle.jsx_heard.specs.Said.{Met, Tags, Unnamed, Elsewhere, said, said_each, of_value}
use Rattle.jsx_heard.proofs.Anywhere.{jsx_anywhere}
use Rattle.jsx_heard.proofs.Saying.{attr_name_said, container_said}

abbrev pub tag_met : Tag → List Met
tag_met t = said Plain Tags Elsewhere (view_tag t) (told_tag t)

abbrev pub jsxs_met : List (Box Jsx Global) → List Met
jsxs_met xs = said_each Plain Unnamed Elsewhere (forest (map (inside view_jsx) xs)) (tales (map (inside told_jsx) xs))

abbrev pub jsx_met : Jsx → List Met
jsx_met j = of_value (view_jsx j) (told_jsx j)

abbrev pub optional_jsx_met : Option (Box Jsx Global) → List Met
optional_jsx_met j = said Plain Unnamed Elsewhere (optional_of view_jsx j) (told_optional told_jsx j)

abbrev pub expr_met : Expr → List Met
expr_met e = of_value (view_expr e) (told_expr e)

pub said-Jsx-Element : (at : Option Span) (t : Tag) (as' : Vec (Box Jsx Global) Global) → jsx_met (jsx.Element at t as') ≡ tag_met t ++ jsxs_met as'.items
said-Jsx-Element at t as' = rw (view-Jsx-Element, told-Jsx-Element) (ap (λ z. tag_met t ++ z) (append-nil (jsxs_met as'.items)))

pub said-Jsx-ElementWithChildren : (at : Option Span) (t : Tag) (as' : Vec (Box Jsx Global) Global) (xs : Vec (Box Jsx Global) Global) (u : Box Tag Global) →
    jsx_met (jsx.ElementWithChildren at t as' xs u) ≡ tag_met t ++ (jsxs_met as'.items ++ (jsxs_met xs.items ++ tag_met u.value))
said-Jsx-ElementWithChildren at t as' xs u = rw (view-Jsx-ElementWithChildren, told-Jsx-ElementWithChildren) (ap (λ z. tag_met t ++ (jsxs_met as'.items ++ (jsxs_met xs.items ++ z))) (append-nil (tag_met u.value)))

pub said-Jsx-Fragment : (at : Option Span) (xs : Vec (Box Jsx Global) Global) → jsx_met (jsx.Fragment at xs) ≡ jsxs_met xs.items
said-Jsx-Fragment at xs = rw (view-Jsx-Fragment, told-Jsx-Fragment) (append-nil (jsxs_met xs.items))

pub said-Jsx-Container : (at : Option Span) (e : Option (Box Expr Global)) → jsx_met (jsx.Container at e) ≡ of_value (optional_of view_expr e) (told_optional told_expr e)
said-Jsx-Container at e = rw (view-Jsx-Container, told-Jsx-Container) (container_said at e)

pub said-Jsx-Spread : (at : Option Span) (e : Box Expr Global) → jsx_met (jsx.Spread at e) ≡ of_value (view_expr e.value) (told_expr e.value)
said-Jsx-Spread at e = rw (view-Jsx-Spread, told-Jsx-Spread) (append-nil (of_value (view_expr e.value) (told_expr e.value)))

pub said-Jsx-Attribute : (at : Option Span) (a : AttrName) (v : Option (Box Jsx Global)) → jsx_met (jsx.Attribute at a v) ≡ said Plain Unnamed Elsewhere (optional_of view_jsx v) (told_optional told_jsx v)
said-Jsx-Attribute at a v =
    rw (view-Jsx-Attribute, told-Jsx-Attribute)
    (ap (λ z. z ++ (said Plain Unnamed Elsewhere (optional_of view_jsx v) (told_optional told_jsx v) ++ [])) (attr_name_said a)
    ∙ append-nil (said Plain Unnamed Elsewhere (optional_of view_jsx v) (told_optional told_jsx v)))

-- a node among others
pub jsx_next : (j k : Jsx) (mid new : List Met) → k ≡ j → new ≡ mid ++ jsx_met k → new ≡ mid ++ said Plain Unnamed Elsewhere (view_jsx j) (told_jsx j)
jsx_next j k mid new is so = so ∙ ap (λ z. mid ++ z) (ap jsx_met is ∙ sym (jsx_anywhere Plain Unnamed Elsewhere j (told_jsx j)))

pub some_jsx : (j : Box Jsx Global) → optional_jsx_met (Some j) ≡ jsx_met j.value
some_jsx j = append-nil (said Plain Unnamed Elsewhere (view_jsx j.value) (told_jsx j.value)) ∙ jsx_anywhere Plain Unnamed Elsewhere j.value (told_jsx j.value)

pub element_met : (t : Tag) (as' as'' xs xs' : List (Box Jsx Global)) (u u' : Tag) → as'' ≡ as' → xs' ≡ xs → u' ≡ u →
    tag_met t ++ (jsxs_met as' ++ (jsxs_met xs ++ tag_met u)) ≡ tag_met t ++ (jsxs_met as'' ++ (jsxs_met xs' ++ tag_met u'))
element_met t as' as'' xs xs' u u' a x v =
    ap (λ z. tag_met t ++ (jsxs_met z ++ (jsxs_met xs ++ tag_met u))) (sym a)
    ∙ (ap (λ z. tag_met t ++ (jsxs_met as'' ++ (jsxs_met z ++ tag_met u))) (sym x)
    ∙ ap (λ z. tag_met t ++ (jsxs_met as'' ++ (jsxs_met xs' ++ tag_met z))) (sym v))
