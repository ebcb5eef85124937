-- What is said of a pattern: one equation for each variant that an answer cites.
use Rattle.std.proofs.Common.{◌≡◌, List, [], ◌∷◌, ◌++◌, map, refl, sym, ap, ◌∙◌, append-nil, Option, Some, None, Box, Vec, Global}
use Rattle.jsx_base.specs.declared.place.Span.{Span}
use Rattle.jsx_tree.specs.declared.text.Ident.{Ident}
use Rattle.jsx_tree.specs.declared.text.DeclareWord as declared
use Rattle.jsx_tree.specs.declared.tree.Expr.{Expr}
use Rattle.jsx_tree.specs.declared.tree.Prop.{Prop}
use Rattle.jsx_tree.specs.declared.tree.Pat.{Pat}
use Rattle.jsx_tree.specs.declared.tree.Stmt.{Stmt}
use Rattle.jsx_tree.specs.declared.tree.Control.{Control}
use Rattle.jsx_tree.specs.declared.tree.Key.{Key}
use Rattle.jsx_tree.specs.declared.tree.Pat.TheVariants as pat
use Rattle.jsx_base.specs.Token.{Elision}
use Rattle.jsx_tree.specs.declared.tree.Access.{Access}
use Rattle.jsx_tree.specs.declared.tree.Jsx.{Jsx}
use Rattle.jsx_tree.specs.declared.tree.Link.{Link}
use Rattle.jsx_tree.specs.declared.tree.Operation.{Operation}
use Rattle.jsx_tree.specs.declared.tree.Access.TheOpen.{Pat-F}
use Rattle.jsx_tree.specs.declared.tree.Access.TheViews.{roll-Pat, out-Pat, roll-out-Pat}
use Rattle.jsx_tree.specs.Kinds.{Role, Binds, Assigns, ObjectPat, function, Tree}
use Rattle.jsx_tree.specs.Nonterminals.{PatProp}
use Rattle.jsx_tree.specs.Scopes.{sort_of}
use Rattle.jsx_tree.specs.Spans.{Told, tells, Claim, Tales}
use Rattle.jsx_tree.specs.Told.{tales, led_by, told_expr, told_ident, told_node, told_optional, told_pat, told_text}
use Rattle.jsx_tree.specs.View.{inside, forest_at, name_of, optional_at_of, shorthand_of, word_of, view_expr, view_pattern}
use Rattle.jsx_tree.proofs.Views.{ap_2, view-Pat-Ident, view-Pat-Array, view-Pat-Object, view-Pat-Target, view-Pat-Paren, view-Pat-Binding, view-Pat-WithInit, view-Pat-Rest, view-Pat-Hole, view-Pat-Pair, view-Pat-Shorthand, view-Pat-RestProperty, view-Pat-Declaration, view-Pat-Head}
use Rattle.jsx_tree.proofs.Telling.{told-Pat-Array, told-Pat-Object, told-Pat-Binding, told-Pat-WithInit, told-Pat-Pair, told-Pat-Shorthand, told-Pat-Declaration}
use Rattle.jsx_names.specs.Events as events
use Rattle.jsx_heard.specs.Code.{mode_of, role_of}
use Rattle.jsx_heard.specs.Said.{Met, Naming, Idents, Unnamed, Elsewhere, InCatch, naming, said, said_each, of_value}
use Rattle.jsx_heard.specs.declared.mode.Mode.{Mode}
use Rattle.jsx_heard.specs.declared.mode.Mode.TheVariants.{Plain, Enclosed, Binding}
use Rattle.jsx_heard.proofs.Anywhere.{by_caught, by_view, expr_caught, leaf_anywhere}
use Rattle.jsx_heard.proofs.SaidMembers.{key_met, optional_met}
use Rattle.jsx_heard.proofs.SaidValues.{value, last_two}

abbrev pub pattern_met : Mode → Pat → List Met
pattern_met m p = said (mode_of m) Idents Elsewhere (view_pattern p (role_of m)) (told_pat p)

abbrev pub items_met : Mode → List (Box Pat Global) → List Met
items_met m ps = said_each (mode_of m) Idents Elsewhere (forest_at (role_of m) (map (inside view_pattern) ps)) (tales (map (inside told_pat) ps))

-- in the braces of an object's pattern
abbrev pub property_naming : Mode → Naming
property_naming m = naming (function (ObjectPat (role_of m))) (PatProp (role_of m))

abbrev pub properties_met : Mode → List (Box Pat Global) → List Met
properties_met m ps = said_each (mode_of m) (property_naming m) Elsewhere (forest_at (role_of m) (map (inside view_pattern) ps)) (tales (map (inside told_pat) ps))

abbrev pub property_met : Mode → Pat → List Met
property_met m p = said (mode_of m) (property_naming m) Elsewhere (view_pattern p (role_of m)) (told_pat p)

abbrev pub name_met : Mode → Ident → List Met
name_met m a = said (mode_of m) Idents Elsewhere (name_of a) (told_ident a)

pub said-Pat-Array : (m : Mode) (at : Option Span) (xs : Vec (Box Pat Global) Global) → pattern_met m (pat.Array at xs) ≡ items_met m xs.items
said-Pat-Array Plain at xs = ap_2 (said (mode_of Plain) Idents Elsewhere) (view-Pat-Array at xs (role_of Plain)) (told-Pat-Array at xs) ∙ append-nil (items_met Plain xs.items)
said-Pat-Array Enclosed at xs = ap_2 (said (mode_of Enclosed) Idents Elsewhere) (view-Pat-Array at xs (role_of Enclosed)) (told-Pat-Array at xs) ∙ append-nil (items_met Enclosed xs.items)
said-Pat-Array (Binding v s) at xs = ap_2 (said (mode_of (Binding v s)) Idents Elsewhere) (view-Pat-Array at xs (role_of (Binding v s))) (told-Pat-Array at xs) ∙ append-nil (items_met (Binding v s) xs.items)

pub said-Pat-Object : (m : Mode) (at : Option Span) (xs : Vec (Box Pat Global) Global) → pattern_met m (pat.Object at xs) ≡ properties_met m xs.items
said-Pat-Object Plain at xs = ap_2 (said (mode_of Plain) Idents Elsewhere) (view-Pat-Object at xs (role_of Plain)) (told-Pat-Object at xs) ∙ append-nil (properties_met Plain xs.items)
said-Pat-Object Enclosed at xs = ap_2 (said (mode_of Enclosed) Idents Elsewhere) (view-Pat-Object at xs (role_of Enclosed)) (told-Pat-Object at xs) ∙ append-nil (properties_met Enclosed xs.items)
said-Pat-Object (Binding v s) at xs = ap_2 (said (mode_of (Binding v s)) Idents Elsewhere) (view-Pat-Object at xs (role_of (Binding v s))) (told-Pat-Object at xs) ∙ append-nil (properties_met (Binding v s) xs.items)

pub said-Pat-Binding : (m : Mode) (at : Option Span) (p : Box Pat Global) (i : Option (Box Expr Global)) → pattern_met m (pat.Binding at p i) ≡ pattern_met m p.value ++ optional_met i
said-Pat-Binding Plain at p i = ap_2 (said (mode_of Plain) Idents Elsewhere) (view-Pat-Binding at p i (role_of Plain)) (told-Pat-Binding at p i) ∙ last_two (pattern_met Plain p.value) (optional_met i)
said-Pat-Binding Enclosed at p i = ap_2 (said (mode_of Enclosed) Idents Elsewhere) (view-Pat-Binding at p i (role_of Enclosed)) (told-Pat-Binding at p i) ∙ last_two (pattern_met Enclosed p.value) (optional_met i)
said-Pat-Binding (Binding v s) at p i = ap_2 (said (mode_of (Binding v s)) Idents Elsewhere) (view-Pat-Binding at p i (role_of (Binding v s))) (told-Pat-Binding at p i) ∙ last_two (pattern_met (Binding v s) p.value) (optional_met i)

pub said-Pat-WithInit : (m : Mode) (at : Option Span) (p : Box Pat Global) (a : Box Expr Global) → pattern_met m (pat.WithInit at p a) ≡ pattern_met m p.value ++ value a.value
said-Pat-WithInit Plain at p a = ap_2 (said (mode_of Plain) Idents Elsewhere) (view-Pat-WithInit at p a (role_of Plain)) (told-Pat-WithInit at p a) ∙ last_two (pattern_met Plain p.value) (value a.value)
said-Pat-WithInit Enclosed at p a = ap_2 (said (mode_of Enclosed) Idents Elsewhere) (view-Pat-WithInit at p a (role_of Enclosed)) (told-Pat-WithInit at p a) ∙ last_two (pattern_met Enclosed p.value) (value a.value)
said-Pat-WithInit (Binding v s) at p a = ap_2 (said (mode_of (Binding v s)) Idents Elsewhere) (view-Pat-WithInit at p a (role_of (Binding v s))) (told-Pat-WithInit at p a) ∙ last_two (pattern_met (Binding v s) p.value) (value a.value)

pub said-Pat-Pair : (m : Mode) (at : Option Span) (k : Key) (p : Box Pat Global) → pattern_met m (pat.Pair at k p) ≡ key_met k ++ pattern_met m p.value
said-Pat-Pair Plain at k p = ap_2 (said (mode_of Plain) Idents Elsewhere) (view-Pat-Pair at k p (role_of Plain)) (told-Pat-Pair at k p) ∙ last_two (key_met k) (pattern_met Plain p.value)
said-Pat-Pair Enclosed at k p = ap_2 (said (mode_of Enclosed) Idents Elsewhere) (view-Pat-Pair at k p (role_of Enclosed)) (told-Pat-Pair at k p) ∙ last_two (key_met k) (pattern_met Enclosed p.value)
said-Pat-Pair (Binding v s) at k p = ap_2 (said (mode_of (Binding v s)) Idents Elsewhere) (view-Pat-Pair at k p (role_of (Binding v s))) (told-Pat-Pair at k p) ∙ last_two (key_met k) (pattern_met (Binding v s) p.value)

shorthand_met : (m : Mode) (at : Option Span) (a : Ident) (e : Option (Box Expr Global)) → said (mode_of m) Idents Elsewhere (shorthand_of view_expr (role_of m) (name_of a) e) (told_node at (told_text a.text ∷ led_by told_expr e [])) ≡ name_met m a ++ optional_met e
shorthand_met Plain at a None = refl
shorthand_met Enclosed at a None = refl
shorthand_met (Binding v s) at a None = refl
shorthand_met Plain at a (Some e) = refl
shorthand_met Enclosed at a (Some e) = refl
shorthand_met (Binding v s) at a (Some e) = refl

pub said-Pat-Shorthand : (m : Mode) (at : Option Span) (a : Ident) (e : Option (Box Expr Global)) → pattern_met m (pat.Shorthand at a e) ≡ name_met m a ++ optional_met e
said-Pat-Shorthand m at a e = ap_2 (said (mode_of m) Idents Elsewhere) (view-Pat-Shorthand at a e (role_of m)) (told-Pat-Shorthand at a e) ∙ shorthand_met m at a e

-- what `var`, `let` and `const` declare, in the head of a loop
abbrev pub declared_mode : declared.DeclareWord → events.Mode
declared_mode w = events.Binding events.Simply (sort_of (word_of w))

pub said-Pat-Declaration : (m : Mode) (at : Option Span) (w : declared.DeclareWord) (ps : Vec (Box Pat Global) Global) → pattern_met m (pat.Declaration at w ps) ≡ said_each (declared_mode w) Idents Elsewhere (forest_at Binds (map (inside view_pattern) ps.items)) (tales (map (inside told_pat) ps.items))
said-Pat-Declaration m at w ps = ap_2 (said (mode_of m) Idents Elsewhere) (view-Pat-Declaration at w ps (role_of m)) (told-Pat-Declaration at w ps) ∙ append-nil (said_each (declared_mode w) Idents Elsewhere (forest_at Binds (map (inside view_pattern) ps.items)) (tales (map (inside told_pat) ps.items)))

-- ---- below a catch clause

caught_shorthand : (m : events.Mode) (r : Role) (a : Tree) (e : Option (Box Expr Global)) (cs : List Claim) (ds : Tales) → said m Idents InCatch (shorthand_of view_expr r a e) (tells cs ds) ≡ said m Idents Elsewhere (shorthand_of view_expr r a e) (tells cs ds)
caught_shorthand m r a None cs ds = refl
caught_shorthand m r a (Some e) cs ds = refl

rolled_caught : (m : events.Mode) (y : Pat-F Access Control Expr Jsx Key Link Operation Pat Prop Stmt) (r : Role) (d : Told) → said m Idents InCatch (view_pattern (roll-Pat y) r) d ≡ said m Idents Elsewhere (view_pattern (roll-Pat y) r) d
rolled_caught m (Pat-F.«Pat::Ident» at a) r d = by_caught m Idents _ _ d (ap (λ x. view_pattern x r) (pat.rolls-Ident at a) ∙ view-Pat-Ident at a r) refl
rolled_caught m (Pat-F.«Pat::Array» at xs) r (tells cs us) = by_caught m Idents _ _ (tells cs us) (ap (λ x. view_pattern x r) (pat.rolls-Array at xs) ∙ view-Pat-Array at xs r) refl
rolled_caught m (Pat-F.«Pat::Object» at xs) r (tells cs us) = by_caught m Idents _ _ (tells cs us) (ap (λ x. view_pattern x r) (pat.rolls-Object at xs) ∙ view-Pat-Object at xs r) refl
rolled_caught m (Pat-F.Target a) r d = by_caught m Idents _ _ d (ap (λ x. view_pattern x r) (pat.rolls-Target a) ∙ view-Pat-Target a r) (expr_caught m Idents a.value d)
rolled_caught m (Pat-F.«Pat::Paren» at p) r (tells cs us) = by_caught m Idents _ _ (tells cs us) (ap (λ x. view_pattern x r) (pat.rolls-Paren at p) ∙ view-Pat-Paren at p r) refl
rolled_caught m (Pat-F.Binding at p i) r (tells cs us) = by_caught m Idents _ _ (tells cs us) (ap (λ x. view_pattern x r) (pat.rolls-Binding at p i) ∙ view-Pat-Binding at p i r) refl
rolled_caught m (Pat-F.WithInit at p a) r (tells cs us) = by_caught m Idents _ _ (tells cs us) (ap (λ x. view_pattern x r) (pat.rolls-WithInit at p a) ∙ view-Pat-WithInit at p a r) refl
rolled_caught m (Pat-F.Rest at p) r (tells cs us) = by_caught m Idents _ _ (tells cs us) (ap (λ x. view_pattern x r) (pat.rolls-Rest at p) ∙ view-Pat-Rest at p r) refl
rolled_caught m Pat-F.«Pat::Hole» r d = by_caught m Idents _ _ d (ap (λ x. view_pattern x r) pat.rolls-Hole ∙ view-Pat-Hole r) refl
rolled_caught m (Pat-F.«Pat::Pair» at k p) r (tells cs us) = by_caught m Idents _ _ (tells cs us) (ap (λ x. view_pattern x r) (pat.rolls-Pair at k p) ∙ view-Pat-Pair at k p r) refl
rolled_caught m (Pat-F.«Pat::Shorthand» at a e) r (tells cs us) = by_caught m Idents _ _ (tells cs us) (ap (λ x. view_pattern x r) (pat.rolls-Shorthand at a e) ∙ view-Pat-Shorthand at a e r) (caught_shorthand m r (name_of a) e cs us)
rolled_caught m (Pat-F.RestProperty at a) r (tells cs us) = by_caught m Idents _ _ (tells cs us) (ap (λ x. view_pattern x r) (pat.rolls-RestProperty at a) ∙ view-Pat-RestProperty at a r) refl
rolled_caught m (Pat-F.Declaration at w ps) r (tells cs us) = by_caught m Idents _ _ (tells cs us) (ap (λ x. view_pattern x r) (pat.rolls-Declaration at w ps) ∙ view-Pat-Declaration at w ps r) refl
rolled_caught m (Pat-F.Head at w p) r (tells cs us) = by_caught m Idents _ _ (tells cs us) (ap (λ x. view_pattern x r) (pat.rolls-Head at w p) ∙ view-Pat-Head at w p r) refl

pub pattern_caught : (m : events.Mode) (r : Role) (p : Pat) (d : Told) → said m Idents InCatch (view_pattern p r) d ≡ said m Idents Elsewhere (view_pattern p r) d
pattern_caught m r p d = by_caught m Idents _ _ d (ap (λ x. view_pattern x r) (sym (roll-out-Pat p))) (rolled_caught m (out-Pat p) r d)

pub optional_caught : (m : events.Mode) (r : Role) (p : Option (Box Pat Global)) → said m Idents InCatch (optional_at_of r view_pattern p) (told_optional told_pat p) ≡ said m Idents Elsewhere (optional_at_of r view_pattern p) (told_optional told_pat p)
optional_caught m r None = refl
optional_caught m r (Some p) = ap (λ z. z ++ []) (pattern_caught m r p.value (told_pat p.value))

-- ---- in the braces of an object's pattern, where a name alone is none

unnamed_shorthand : (a : Tree) (e : Option (Box Expr Global)) (cs : List Claim) (ds : Tales) → said events.Plain Unnamed Elsewhere (shorthand_of view_expr Assigns a e) (tells cs ds) ≡ of_value (shorthand_of view_expr Assigns a e) (tells cs ds)
unnamed_shorthand a None cs ds = refl
unnamed_shorthand a (Some e) cs ds = refl

rolled_unnamed : (y : Pat-F Access Control Expr Jsx Key Link Operation Pat Prop Stmt) (d : Told) → ((at : Option Span) (a : Ident) → roll-Pat y ≡ pat.Ident at a → ⊥) → ((e : Box Expr Global) → roll-Pat y ≡ pat.Target e → ⊥) → said events.Plain Unnamed Elsewhere (view_pattern (roll-Pat y) Assigns) d ≡ of_value (view_pattern (roll-Pat y) Assigns) d
rolled_unnamed (Pat-F.«Pat::Ident» at a) d h g = absurd (h at a (pat.rolls-Ident at a))
rolled_unnamed (Pat-F.«Pat::Array» at xs) (tells cs us) h g = by_view events.Plain Unnamed Elsewhere _ _ (tells cs us) (ap (λ x. view_pattern x Assigns) (pat.rolls-Array at xs) ∙ view-Pat-Array at xs Assigns) refl
rolled_unnamed (Pat-F.«Pat::Object» at xs) (tells cs us) h g = by_view events.Plain Unnamed Elsewhere _ _ (tells cs us) (ap (λ x. view_pattern x Assigns) (pat.rolls-Object at xs) ∙ view-Pat-Object at xs Assigns) refl
rolled_unnamed (Pat-F.Target a) d h g = absurd (g a (pat.rolls-Target a))
rolled_unnamed (Pat-F.«Pat::Paren» at p) (tells cs us) h g = by_view events.Plain Unnamed Elsewhere _ _ (tells cs us) (ap (λ x. view_pattern x Assigns) (pat.rolls-Paren at p) ∙ view-Pat-Paren at p Assigns) refl
rolled_unnamed (Pat-F.Binding at p i) (tells cs us) h g = by_view events.Plain Unnamed Elsewhere _ _ (tells cs us) (ap (λ x. view_pattern x Assigns) (pat.rolls-Binding at p i) ∙ view-Pat-Binding at p i Assigns) refl
rolled_unnamed (Pat-F.WithInit at p a) (tells cs us) h g = by_view events.Plain Unnamed Elsewhere _ _ (tells cs us) (ap (λ x. view_pattern x Assigns) (pat.rolls-WithInit at p a) ∙ view-Pat-WithInit at p a Assigns) refl
rolled_unnamed (Pat-F.Rest at p) (tells cs us) h g = by_view events.Plain Unnamed Elsewhere _ _ (tells cs us) (ap (λ x. view_pattern x Assigns) (pat.rolls-Rest at p) ∙ view-Pat-Rest at p Assigns) refl
rolled_unnamed Pat-F.«Pat::Hole» d h g = by_view events.Plain Unnamed Elsewhere _ _ d (ap (λ x. view_pattern x Assigns) pat.rolls-Hole ∙ view-Pat-Hole Assigns) (leaf_anywhere events.Plain Unnamed Elsewhere Elision [] d refl)
rolled_unnamed (Pat-F.«Pat::Pair» at k p) (tells cs us) h g = by_view events.Plain Unnamed Elsewhere _ _ (tells cs us) (ap (λ x. view_pattern x Assigns) (pat.rolls-Pair at k p) ∙ view-Pat-Pair at k p Assigns) refl
rolled_unnamed (Pat-F.«Pat::Shorthand» at a e) (tells cs us) h g = by_view events.Plain Unnamed Elsewhere _ _ (tells cs us) (ap (λ x. view_pattern x Assigns) (pat.rolls-Shorthand at a e) ∙ view-Pat-Shorthand at a e Assigns) (unnamed_shorthand (name_of a) e cs us)
rolled_unnamed (Pat-F.RestProperty at a) (tells cs us) h g = by_view events.Plain Unnamed Elsewhere _ _ (tells cs us) (ap (λ x. view_pattern x Assigns) (pat.rolls-RestProperty at a) ∙ view-Pat-RestProperty at a Assigns) refl
rolled_unnamed (Pat-F.Declaration at w ps) (tells cs us) h g = by_view events.Plain Unnamed Elsewhere _ _ (tells cs us) (ap (λ x. view_pattern x Assigns) (pat.rolls-Declaration at w ps) ∙ view-Pat-Declaration at w ps Assigns) refl
rolled_unnamed (Pat-F.Head at w p) (tells cs us) h g = by_view events.Plain Unnamed Elsewhere _ _ (tells cs us) (ap (λ x. view_pattern x Assigns) (pat.rolls-Head at w p) ∙ view-Pat-Head at w p Assigns) refl
