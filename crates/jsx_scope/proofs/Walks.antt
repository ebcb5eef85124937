-- The views of what a walk leaves.
use Rattle.std.proofs.Common.{◌≡◌, List, [], ◌∷◌, map, Bool, true, false, refl, ap, ◌∙◌, Box, Global}
use Rattle.std.specs.Prelude.{◌&&◌}
use Rattle.jsx_base.specs.Token.{IdentifierName}
use Rattle.jsx_base.specs.Token as token
use Rattle.jsx_tree.specs.Kinds.{Role, program, expression, FunctionBody, SubstitutedTemplate, Tree, leaf, node, list, none, part}
use Rattle.jsx_tree.specs.Parentheses.{first_no_directive}
use Rattle.jsx_tree.specs.View.{text_of, name_of, OfObject, OfClass, inside, forest, forest_at, body, directive, template, middle, middles, closing, members_of_object, members_of_class, view_pattern, view_member}
use Rattle.jsx_tree.specs.declared.text.Text.{Text}
use Rattle.jsx_tree.specs.declared.text.Ident.{Ident}
use Rattle.jsx_tree.specs.declared.tree.Pat.{Pat}
use Rattle.jsx_tree.specs.declared.tree.Prop.{Prop}
use Rattle.jsx_tree.proofs.Views as all
use Rattle.jsx_scope.specs.declared.place.Place.{Place}
use Rattle.jsx_scope.specs.declared.place.Place.TheVariants as place
use Rattle.jsx_scope.specs.OneWalk.{paired}
use Rattle.jsx_scope.specs.Walk.{plain, enclosed, walk, walks, walk_each, inner, seen_at, member_at, but_code}
use Rattle.jsx_scope.proofs.Layers.{codes_of, is_statement, statement_no_list, statement_no_in}

pub walk_forest : (p : Place) (bare : Bool) (ts : List Tree) → walk_each p bare (forest ts) ≡ forest (map (walk p bare) ts)
walk_forest p bare [] = refl
walk_forest p bare (t ∷ ts) = ap (part (walk p bare t)) (walk_forest p bare ts)

pub forest_roles : (r : Role) (ps : List (Box Pat Global)) → forest_at r (map (inside view_pattern) ps) ≡ forest (map (seen_at r) ps)
forest_roles r [] = refl
forest_roles r (p ∷ ps) = ap (part (view_pattern p.value r)) (forest_roles r ps)

pub object_members : (ms : List (Box Prop Global)) → members_of_object (map (inside view_member) ms) ≡ forest (map (member_at OfObject) ms)
object_members [] = refl
object_members (m ∷ ms) = ap (part (view_member m.value OfObject)) (object_members ms)

pub class_members : (ms : List (Box Prop Global)) → members_of_class (map (inside view_member) ms) ≡ forest (map (member_at OfClass) ms)
class_members [] = refl
class_members (m ∷ ms) = ap (part (view_member m.value OfClass)) (class_members ms)

-- the directives stay
pub directives_stay : (ds : List Text) → walk_each (place.Level 0) false (forest (map directive ds)) ≡ forest (map directive ds)
directives_stay [] = refl
directives_stay (d ∷ ds) = ap (part (directive d)) (directives_stay ds)

pub body_walk : (ds : List Text) (ss : List Tree) → walk (place.Level 0) false (body ds ss) ≡ node (program FunctionBody) (part (list (forest (map directive ds))) (part (list (first_no_directive (walk_each (place.Level 0) false (forest ss)))) none))
body_walk ds ss = ap (λ u. node (program FunctionBody) (part (list u) (part (list (first_no_directive (walk_each (place.Level 0) false (forest ss)))) none))) (directives_stay ds)

-- what stands in a template
middles_walk : (b : Bool) (ps : List Text) (ts : List Tree) → walk_each (place.Level 0) false (middles b ps ts) ≡ middles b ps (map (walk (place.Level 0) false) ts)
middles_walk b [] [] = refl
middles_walk b [] (t ∷ ts) = refl
middles_walk b (p ∷ []) [] = refl
middles_walk b (p ∷ []) (t ∷ ts) = refl
middles_walk b (p ∷ q ∷ ps) [] = refl
middles_walk b (p ∷ q ∷ ps) (t ∷ ts) = ap (part (middle b (walk (place.Level 0) false t) p)) (middles_walk b (q ∷ ps) ts)

closing_walk : (bare : Bool) (ps : List Text) (ts : List Tree) → walks bare (enclosed ∷ plain ∷ []) (closing ps ts) ≡ closing ps (map (walk (place.Level 0) false) ts)
closing_walk bare [] [] = refl
closing_walk bare [] (t ∷ ts) = refl
closing_walk bare (p ∷ []) [] = refl
closing_walk bare (p ∷ []) (t ∷ []) = refl
closing_walk bare (p ∷ []) (t ∷ u ∷ ts) = closing_walk bare [] (u ∷ ts)
closing_walk bare (p ∷ q ∷ ps) [] = refl
closing_walk bare (p ∷ q ∷ ps) (t ∷ ts) = closing_walk bare (q ∷ ps) ts

pub template_walk : (bare b : Bool) (ps : List Text) (ts : List Tree) → inner bare (template b ps ts) ≡ template b ps (map (walk (place.Level 0) false) ts)
template_walk bare b [] ts = refl
template_walk bare b (p ∷ []) [] = refl
template_walk bare b (p ∷ []) (t ∷ ts) = ap (λ us. node (expression (SubstitutedTemplate b)) (part (leaf token.TemplateHead (text_of p)) us)) (ap (part (list none)) (closing_walk bare [] (t ∷ ts)))
template_walk bare b (p ∷ q ∷ ps) ts = ap (λ us. node (expression (SubstitutedTemplate b)) (part (leaf token.TemplateHead (text_of p)) us)) (ap (λ us. part (list us) (walks bare (enclosed ∷ plain ∷ []) (closing (q ∷ ps) ts))) (middles_walk b (q ∷ ps) ts) ∙ ap (part (list (middles b (q ∷ ps) (map (walk (place.Level 0) false) ts)))) (closing_walk bare (q ∷ ps) ts))

pub template_but : (bare : Bool) (ps : List Text) (ts : List Tree) → but_code bare (template false ps ts) ≡ template false ps (map (walk (place.Level 0) false) ts)
template_but bare [] ts = template_walk bare false [] ts
template_but bare (p ∷ []) [] = template_walk bare false (p ∷ []) []
template_but bare (p ∷ []) (t ∷ ts) = template_walk bare false (p ∷ []) (t ∷ ts)
template_but bare (p ∷ q ∷ ps) ts = template_walk bare false (p ∷ q ∷ ps) ts

pub template_there : (bare b : Bool) (ps : List Text) (ts : List Tree) → walk (place.Level 0) bare (template b ps ts) ≡ template b ps (map (walk (place.Level 0) false) ts)
template_there bare b [] ts = template_walk bare b [] ts
template_there bare b (p ∷ []) [] = template_walk bare b (p ∷ []) []
template_there bare b (p ∷ []) (t ∷ ts) = template_walk bare b (p ∷ []) (t ∷ ts)
template_there bare b (p ∷ q ∷ ps) ts = template_walk bare b (p ∷ q ∷ ps) ts

-- what binds a name stays, and so do the parts of a chain's links
pub name_stays : (bare v : Bool) (a : Ident) → paired (v && false) (name_of a) ≡ name_of a
name_stays bare true a = refl
name_stays bare false a = refl

pub ruleset views = (all.views, codes_of, walk_forest, forest_roles, object_members, class_members, body_walk, template_but, template_there)
