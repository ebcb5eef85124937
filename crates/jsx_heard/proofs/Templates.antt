-- What is said of a template: its expressions, as many as stand between its pieces.
use Rattle.std.proofs.Common.{◌≡◌, ◌<◌, ◌≤◌, ◌-◌, suc, List, [], ◌∷◌, ◌++◌, map, take, length, Bool, true, false, refl, ap, ◌∙◌, append_assoc, append-nil, Option, arith}
use Rattle.jsx_base.specs.declared.place.Span.{Span}
use Rattle.jsx_tree.specs.Kinds.{SubstitutedTemplate, expression, Tree, Forest, none, part}
use Rattle.jsx_tree.specs.declared.text.Text.{Text}
use Rattle.jsx_tree.specs.Form.{Position, positions}
use Rattle.jsx_tree.specs.Spans.{Told, Tales}
use Rattle.jsx_tree.specs.Told.{tales, told_template, told_middles, told_closing}
use Rattle.jsx_tree.specs.View.{forest, template, middles, closing}
use Rattle.jsx_names.specs.Events.{Plain}
use Rattle.jsx_heard.specs.Said.{Met, Idents, Unnamed, Naming, Round, Elsewhere, said, said_parts, said_each, of_value}

-- those between pieces, of which the first is left out
abbrev between : {X : Type 0} → List Text → List X → List X
between (p ∷ q ∷ ps) (x ∷ xs) = x ∷ between (q ∷ ps) xs
between (p ∷ []) (x ∷ []) = x ∷ []
between ps xs = []

abbrev behind : List Position → List Position
behind (p ∷ q ∷ qs) = qs
behind qs = []

abbrev last_said : {X : Type 0} → Bool → (X → Tree) → (X → Told) → List Text → List X → List Met
last_said b h d ps xs = said_parts true Plain (expression (SubstitutedTemplate b)) (behind (positions (expression (SubstitutedTemplate b)))) (closing ps (map h xs)) (tales (told_closing ps (map d xs)))

abbrev first_said : {X : Type 0} → Bool → (X → Tree) → (X → Told) → List Text → List X → List Met
first_said b h d ps xs = said_each Plain Unnamed Elsewhere (middles b ps (map h xs)) (tales (told_middles ps (map d xs)))

abbrev all_said : {X : Type 0} → (X → Tree) → (X → Told) → List X → List Met
all_said h d xs = said_each Plain Idents Elsewhere (forest (map h xs)) (tales (map d xs))

parts_said : {X : Type 0} (b : Bool) (h : X → Tree) (d : X → Told) (ps : List Text) (xs : List X) → first_said b h d ps xs ++ last_said b h d ps xs ≡ all_said h d (between ps xs)
parts_said b h d [] [] = refl
parts_said b h d [] (x ∷ xs) = refl
parts_said b h d (p ∷ []) [] = refl
parts_said b h d (p ∷ []) (x ∷ []) = refl
parts_said b h d (p ∷ []) (x ∷ y ∷ xs) = refl
parts_said b h d (p ∷ q ∷ ps) [] = refl
parts_said b h d (p ∷ q ∷ ps) (x ∷ xs) =
    append_assoc (said Plain Idents Elsewhere (h x) (d x) ++ []) (first_said b h d (q ∷ ps) xs) (last_said b h d (q ∷ ps) xs)
    ∙ (ap (λ z. (said Plain Idents Elsewhere (h x) (d x) ++ []) ++ z) (parts_said b h d (q ∷ ps) xs)
    ∙ ap (λ z. z ++ all_said h d (between (q ∷ ps) xs)) (append-nil (said Plain Idents Elsewhere (h x) (d x))))

between_all : {X : Type 0} (ps : List Text) (xs : List X) → length xs ≤ length ps → between ps xs ≡ xs
between_all [] [] le = refl
between_all [] (x ∷ xs) le = absurd (omega arith)
between_all (p ∷ []) [] le = refl
between_all (p ∷ []) (x ∷ []) le = refl
between_all (p ∷ []) (x ∷ y ∷ xs) le = absurd (omega arith)
between_all (p ∷ q ∷ ps) [] le = refl
between_all (p ∷ q ∷ ps) (x ∷ xs) le = ap (λ z. x ∷ z) (between_all (q ∷ ps) xs (omega arith))

between_some : {X : Type 0} (ps : List Text) (xs : List X) → length ps < length xs → between ps xs ≡ take (length ps - 1) xs
between_some [] [] le = absurd (omega arith)
between_some [] (x ∷ xs) le = refl
between_some (p ∷ []) [] le = absurd (omega arith)
between_some (p ∷ []) (x ∷ []) le = absurd (omega arith)
between_some (p ∷ []) (x ∷ y ∷ xs) le = refl
between_some (p ∷ q ∷ ps) [] le = absurd (omega arith)
between_some (p ∷ q ∷ ps) (x ∷ xs) le =
    let e : length (p ∷ q ∷ ps) - 1 ≡ suc (length (q ∷ ps) - 1) = omega arith in
    rw e (ap (λ z. x ∷ z) (between_some (q ∷ ps) xs (omega arith)))

one_less : (ps : List Text) (p : Text) → length ps - 1 ≡ length (p ∷ ps) - 2
one_less ps p = omega arith

-- a template's parts stand in no scope
outside_said : (b : Bool) (ts : Forest) (ds : Tales) → said_parts false Plain (expression (SubstitutedTemplate b)) (behind (positions (expression (SubstitutedTemplate b)))) ts ds ≡ []
outside_said b none ds = refl
outside_said b (part t none) ds = refl
outside_said b (part t (part u ts)) ds = refl

-- wherever it stands
template_parts : {X : Type 0} (n : Naming) (r : Round) (b : Bool) (at : Option Span) (h : X → Tree) (d : X → Told) (p : Text) (ps : List Text) (xs : List X) →
    said Plain n r (template b (p ∷ ps) (map h xs)) (told_template at (p ∷ ps) (map d xs)) ≡ all_said h d (between ps xs)
template_parts n r b at h d p [] [] = refl
template_parts n r b at h d p [] (x ∷ xs) = parts_said b h d [] (x ∷ xs)
template_parts n r b at h d p (q ∷ ps) xs =
    ap (λ z. z ++ (first_said b h d (q ∷ ps) xs ++ last_said b h d (q ∷ ps) xs)) (outside_said b (closing (q ∷ ps) (map h xs)) (tales (told_closing (q ∷ ps) (map d xs))))
    ∙ parts_said b h d (q ∷ ps) xs

pub template_all : {X : Type 0} (b : Bool) (at : Option Span) (h : X → Tree) (d : X → Told) (ps : List Text) (xs : List X) → length xs < length ps →
    of_value (template b ps (map h xs)) (told_template at ps (map d xs)) ≡ said_each Plain Idents Elsewhere (forest (map h xs)) (tales (map d xs))
template_all b at h d [] xs le = absurd (omega arith)
template_all b at h d (p ∷ ps) xs le = template_parts Idents Elsewhere b at h d p ps xs ∙ ap (all_said h d) (between_all ps xs (omega arith))

pub template_some : {X : Type 0} (b : Bool) (at : Option Span) (h : X → Tree) (d : X → Told) (ps : List Text) (xs : List X) → length ps ≤ length xs →
    of_value (template b ps (map h xs)) (told_template at ps (map d xs)) ≡ said_each Plain Idents Elsewhere (forest (map h (take (length ps - 2) xs))) (tales (map d (take (length ps - 2) xs)))
template_some b at h d [] xs le = refl
template_some b at h d (p ∷ ps) xs le =
    template_parts Idents Elsewhere b at h d p ps xs
    ∙ (ap (all_said h d) (between_some ps xs (omega arith))
    ∙ ap (λ i. all_said h d (take i xs)) (one_less ps p))

-- a tag's template is said as it is elsewhere
pub template_there : (r : Round) (b : Bool) (at : Option Span) (ps : List Text) (ts : List Tree) (ds : List Told) →
    said Plain Unnamed r (template b ps ts) (told_template at ps ds) ≡ of_value (template b ps ts) (told_template at ps ds)
template_there r b at [] ts [] = refl
template_there r b at [] ts (d ∷ ds) = refl
template_there r b at (p ∷ []) [] [] = refl
template_there r b at (p ∷ []) [] (d ∷ ds) = refl
template_there r b at (p ∷ []) (t ∷ ts) [] = refl
template_there r b at (p ∷ []) (t ∷ ts) (d ∷ ds) = refl
template_there r b at (p ∷ q ∷ ps) ts ds = refl
