-- The ranks of the code's variants.
use Rattle.std.proofs.Common.{◌≡◌, List, [], ◌∷◌, refl, ap, ◌∙◌, Box, Global, Option, Some, None, false}
use Rattle.jsx_tree.specs.Kinds.{Tree}
use Rattle.jsx_tree.specs.declared.text.Text.{Text}
use Rattle.jsx_tree.specs.declared.operator.UpdateOp.{UpdateOp}
use Rattle.jsx_tree.specs.declared.operator.UpdateSide.{UpdateSide}
use Rattle.jsx_tree.specs.declared.operator.UpdateSide.TheVariants as side
use Rattle.jsx_tree.specs.declared.tree.Jsx.{Jsx}
use Rattle.jsx_tree.specs.ViewOperators.{update_of}
use Rattle.jsx_tree.specs.View.{template, view_jsx, container, jsx_step, access_step, control_step, expr_step, key_step, link_step, operation_step, pat_step, prop_step, stmt_step, Owner}
use Rattle.jsx_tree.specs.declared.tree.Access.TheOpen.{Jsx-F}
use Rattle.jsx_tree.specs.declared.tree.Access.TheFolds.{fold_out-Jsx}
use Rattle.jsx_tree.proofs.Views.{views}
use Rattle.jsx_tree.specs.Kinds.{Role}
use Rattle.jsx_scope.specs.Walk.{expression_rank, rank}

pub template_rank : (ps : List Text) (ts : List Tree) → rank (template false ps ts) ≡ 19
template_rank [] ts = refl
template_rank (p ∷ []) [] = refl
template_rank (p ∷ []) (t ∷ ts) = refl
template_rank (p ∷ q ∷ ps) ts = refl

pub update_rank : (o : UpdateOp) (s : UpdateSide) → expression_rank (update_of o s) ≡ 16
update_rank o side.Before = refl
update_rank o side.After = refl

container_rank : (e : Option (Box Tree Global)) → rank (container e) ≡ 19
container_rank None = refl
container_rank (Some e) = refl

step_rank : (x : Jsx-F Tree Tree Tree Tree Tree Tree Tree (Role → Tree) (Owner → Tree) Tree) → rank (jsx_step x) ≡ 19
step_rank (Jsx-F.Container at e) = container_rank e
step_rank x = refl

pub jsx_rank : (j : Jsx) → rank (view_jsx j) ≡ 19
jsx_rank j = ap rank (fold_out-Jsx Tree Tree Tree Tree Tree Tree Tree (Role → Tree) (Owner → Tree) Tree access_step control_step expr_step jsx_step key_step link_step operation_step pat_step prop_step stmt_step j) ∙ step_rank _

pub ruleset ranks = (views, template_rank, update_rank, jsx_rank)
