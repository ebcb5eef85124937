-- What has no second part that is visited.
use Rattle.std.proofs.Common.{◌≡◌, refl, ap, sym, ◌∙◌, Option, Box, Global, subst}
use Rattle.jsx_base.specs.declared.place.Span.{Span}
use Rattle.jsx_tree.specs.Kinds.{Role, Kind, Tree, Forest}
use Rattle.jsx_tree.specs.declared.text.Ident.{Ident}
use Rattle.jsx_tree.specs.declared.tree.Expr.{Expr}
use Rattle.jsx_tree.specs.declared.tree.Operation.{Operation}
use Rattle.jsx_tree.specs.declared.tree.Access.{Access}
use Rattle.jsx_tree.specs.declared.tree.Link.{Link}
use Rattle.jsx_tree.specs.declared.tree.Prop.{Prop}
use Rattle.jsx_tree.specs.declared.tree.Key.{Key}
use Rattle.jsx_tree.specs.declared.tree.Pat.{Pat}
use Rattle.jsx_tree.specs.declared.tree.Stmt.{Stmt}
use Rattle.jsx_tree.specs.declared.tree.Control.{Control}
use Rattle.jsx_tree.specs.declared.tree.Jsx.{Jsx}
use Rattle.jsx_tree.specs.declared.tree.Pat.TheVariants as pat
use Rattle.jsx_tree.specs.declared.tree.Access.TheOpen.{Pat-F}
use Rattle.jsx_tree.specs.declared.tree.Access.TheViews.{roll-Pat, out-Pat, roll-out-Pat}
use Rattle.jsx_tree.specs.View.{view_expr, view_pattern}
use Rattle.jsx_tree.proofs.Views.{view-Pat-Ident, view-Pat-Array, view-Pat-Object, view-Pat-Target, view-Pat-Paren, view-Pat-Rest, view-Pat-Hole, view-Pat-RestProperty, view-Pat-Declaration, view-Pat-Head}
use Rattle.jsx_visit.specs.Parts.{with_half}
use Rattle.jsx_visit.proofs.Layers.{expr_root, root_second}

still_half : (f : Kind → Forest → Tree) (u v : Tree) → u ≡ v → v ≡ with_half f v → u ≡ with_half f u
still_half f u v p q = subst (λ t. t ≡ with_half f t) (sym p) q

abbrev IsOther : Pat → Type 0
IsOther p = ((at : Option Span) (q : Box Pat Global) (e : Option (Box Expr Global)) → p ≡ pat.Binding at q e → ⊥) × (((at : Option Span) (q : Box Pat Global) (e : Box Expr Global) → p ≡ pat.WithInit at q e → ⊥) × (((at : Option Span) (k : Key) (q : Box Pat Global) → p ≡ pat.Pair at k q → ⊥) × ((at : Option Span) (a : Ident) (e : Option (Box Expr Global)) → p ≡ pat.Shorthand at a e → ⊥)))

half_rolled : (f : Kind → Forest → Tree) (y : Pat-F Access Control Expr Jsx Key Link Operation Pat Prop Stmt) (r : Role) → IsOther (roll-Pat y) → view_pattern (roll-Pat y) r ≡ with_half f (view_pattern (roll-Pat y) r)
half_rolled f (Pat-F.«Pat::Ident» at a) r h = still_half f _ _ (ap (λ (q : Pat). view_pattern q r) (pat.rolls-Ident at a) ∙ view-Pat-Ident at a r) refl
half_rolled f (Pat-F.«Pat::Array» at xs) r h = still_half f _ _ (ap (λ (q : Pat). view_pattern q r) (pat.rolls-Array at xs) ∙ view-Pat-Array at xs r) refl
half_rolled f (Pat-F.«Pat::Object» at xs) r h = still_half f _ _ (ap (λ (q : Pat). view_pattern q r) (pat.rolls-Object at xs) ∙ view-Pat-Object at xs r) refl
half_rolled f (Pat-F.Target a) r h = still_half f _ _ (ap (λ (q : Pat). view_pattern q r) (pat.rolls-Target a) ∙ view-Pat-Target a r) (root_second f (view_expr a.value) (expr_root a.value))
half_rolled f (Pat-F.«Pat::Paren» at p) r h = still_half f _ _ (ap (λ (q : Pat). view_pattern q r) (pat.rolls-Paren at p) ∙ view-Pat-Paren at p r) refl
half_rolled f (Pat-F.Binding at q e) r h = absurd (h.0 at q e (pat.rolls-Binding at q e))
half_rolled f (Pat-F.WithInit at q e) r h = absurd (h.1.0 at q e (pat.rolls-WithInit at q e))
half_rolled f (Pat-F.Rest at p) r h = still_half f _ _ (ap (λ (q : Pat). view_pattern q r) (pat.rolls-Rest at p) ∙ view-Pat-Rest at p r) refl
half_rolled f Pat-F.«Pat::Hole» r h = still_half f _ _ (ap (λ (q : Pat). view_pattern q r) pat.rolls-Hole ∙ view-Pat-Hole r) refl
half_rolled f (Pat-F.«Pat::Pair» at k q) r h = absurd (h.1.1.0 at k q (pat.rolls-Pair at k q))
half_rolled f (Pat-F.«Pat::Shorthand» at a e) r h = absurd (h.1.1.1 at a e (pat.rolls-Shorthand at a e))
half_rolled f (Pat-F.RestProperty at a) r h = still_half f _ _ (ap (λ (q : Pat). view_pattern q r) (pat.rolls-RestProperty at a) ∙ view-Pat-RestProperty at a r) refl
half_rolled f (Pat-F.Declaration at w ps) r h = still_half f _ _ (ap (λ (q : Pat). view_pattern q r) (pat.rolls-Declaration at w ps) ∙ view-Pat-Declaration at w ps r) refl
half_rolled f (Pat-F.Head at w p) r h = still_half f _ _ (ap (λ (q : Pat). view_pattern q r) (pat.rolls-Head at w p) ∙ view-Pat-Head at w p r) refl

pub half_stays : (f : Kind → Forest → Tree) (p : Pat) (r : Role) → IsOther p → view_pattern p r ≡ with_half f (view_pattern p r)
half_stays f p r h = subst (λ q. view_pattern q r ≡ with_half f (view_pattern q r)) (roll-out-Pat p) (half_rolled f (out-Pat p) r (subst IsOther (sym (roll-out-Pat p)) h))
