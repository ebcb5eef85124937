-- Targets in parentheses: which patterns they are, and that they are made anew behind what stands in them.
use Rattle.std.proofs.Common.{◌≡◌, Bool, true, false, cond, refl, ap, sym, ◌∙◌, subst, Option, Some, None, Box, Global}
use Rattle.std.proofs.lemmas.Bool.{false≢true, true≢false}
use Rattle.jsx_base.specs.declared.place.Span.{Span}
use Rattle.jsx_tree.specs.Kinds.{Role, ParenTarget, Kind, function, Tree, node, Forest}
use Rattle.jsx_tree.specs.View.{view_expr, view_pattern, access_step, control_step, expr_step, jsx_step, key_step, link_step, operation_step, pat_step, prop_step, stmt_step, Owner}
use Rattle.jsx_tree.specs.declared.tree.Expr.{Expr}
use Rattle.jsx_tree.specs.declared.tree.Operation.{Operation}
use Rattle.jsx_tree.specs.declared.tree.Access.{Access}
use Rattle.jsx_tree.specs.declared.tree.Link.{Link}
use Rattle.jsx_tree.specs.declared.tree.Prop.{Prop}
use Rattle.jsx_tree.specs.declared.tree.Key.{Key}
use Rattle.jsx_tree.specs.declared.tree.Pat.{Pat}
use Rattle.jsx_tree.specs.declared.tree.Stmt.{Stmt}
use Rattle.jsx_tree.specs.declared.tree.Control.{Control}
use Rattle.jsx_tree.specs.declared.tree.Jsx.{Jsx}
use Rattle.jsx_tree.specs.declared.tree.Pat.TheVariants as pat
use Rattle.jsx_tree.specs.declared.tree.Access.TheOpen.{Pat-F}
use Rattle.jsx_tree.specs.declared.tree.Access.TheViews.{roll-Pat, out-Pat, roll-out-Pat}
use Rattle.jsx_tree.specs.declared.tree.Access.TheFolds.{fold-roll-Pat}
use Rattle.jsx_tree.proofs.Views.{view-Pat-Target}
use Rattle.jsx_visit.specs.Visit.{visited, changed_target}
use Rattle.jsx_visit.specs.Parts.{is_pair, but_pair}
use Rattle.jsx_visit.proofs.Layers.{is_root, expr_root}

-- no expression is one
root_alone : (t : Tree) → is_root t ≡ true → is_pair t ≡ false
root_alone (node (function ParenTarget) cs) h = absurd (false≢true h)
root_alone t h = refl

abbrev IsBare : Pat → Type 0
IsBare p = (at : Option Span) (q : Box Pat Global) → p ≡ pat.Paren at q → ⊥

rolled_alone : (y : Pat-F Access Control Expr Jsx Key Link Operation Pat Prop Stmt) (r : Role) → IsBare (roll-Pat y) → is_pair (view_pattern (roll-Pat y) r) ≡ false
rolled_alone (Pat-F.Target a) r h = ap (λ (q : Pat). is_pair (view_pattern q r)) (pat.rolls-Target a) ∙ (ap is_pair (view-Pat-Target a r) ∙ root_alone (view_expr a.value) (expr_root a.value))
rolled_alone (Pat-F.«Pat::Paren» at q) r h = absurd (h at q (pat.rolls-Paren at q))
rolled_alone (Pat-F.«Pat::Shorthand» at a None) r h = ap (λ (u : Role → Tree). is_pair (u r)) (fold-roll-Pat Tree Tree Tree Tree Tree Tree Tree (Role → Tree) (Owner → Tree) Tree access_step control_step expr_step jsx_step key_step link_step operation_step pat_step prop_step stmt_step (Pat-F.«Pat::Shorthand» at a None))
rolled_alone (Pat-F.«Pat::Shorthand» at a (Some e)) r h = ap (λ (u : Role → Tree). is_pair (u r)) (fold-roll-Pat Tree Tree Tree Tree Tree Tree Tree (Role → Tree) (Owner → Tree) Tree access_step control_step expr_step jsx_step key_step link_step operation_step pat_step prop_step stmt_step (Pat-F.«Pat::Shorthand» at a (Some e)))
rolled_alone y r h = ap (λ (u : Role → Tree). is_pair (u r)) (fold-roll-Pat Tree Tree Tree Tree Tree Tree Tree (Role → Tree) (Owner → Tree) Tree access_step control_step expr_step jsx_step key_step link_step operation_step pat_step prop_step stmt_step y)

pub stands_alone : (p : Pat) (r : Role) → IsBare p → false ≡ is_pair (view_pattern p r)
stands_alone p r h = subst (λ q. false ≡ is_pair (view_pattern q r)) (roll-out-Pat p) (sym (rolled_alone (out-Pat p) r (subst IsBare (sym (roll-out-Pat p)) h)))

-- one is made anew behind what stands in it, and all else is visited before
pair_changed : (f : Kind → Forest → Tree) (t : Tree) → true ≡ is_pair t → changed_target f (but_pair f t) ≡ visited f t
pair_changed f (node (function ParenTarget) cs) h = refl
pair_changed f t h = absurd (true≢false h)

alone_visited : (f : Kind → Forest → Tree) (t : Tree) → false ≡ is_pair t → but_pair f t ≡ visited f t
alone_visited f (node (function ParenTarget) cs) h = absurd (false≢true h)
alone_visited f t h = refl

pub pair_visited : (f : Kind → Forest → Tree) (b : Bool) (t mid new : Tree) → b ≡ is_pair t → mid ≡ but_pair f t → new ≡ cond b (changed_target f mid) mid → new ≡ visited f t
pair_visited f true t mid new is seen made = made ∙ (ap (changed_target f) seen ∙ pair_changed f t is)
pair_visited f false t mid new is seen made = made ∙ (seen ∙ alone_visited f t is)
