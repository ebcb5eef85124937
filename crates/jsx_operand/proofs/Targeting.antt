-- Which variants of the code's tree may be assigned to.
use Rattle.std.proofs.Common.{◌≡◌, List, [], ◌∷◌, Bool, false, Some, None, refl, ap, ◌∙◌}
use Rattle.jsx_tree.specs.Kinds.{Role, Tree}
use Rattle.jsx_tree.specs.declared.text.Text.{Text}
use Rattle.jsx_tree.specs.declared.text.Word.{Word}
use Rattle.jsx_tree.specs.declared.text.Word.TheVariants as words
use Rattle.jsx_tree.specs.declared.operator.UpdateSide.TheVariants as side
use Rattle.jsx_tree.specs.declared.tree.Jsx.{Jsx}
use Rattle.jsx_tree.specs.declared.tree.Operation.{Operation}
use Rattle.jsx_tree.specs.declared.tree.Access.TheOpen.{Jsx-F, Operation-F}
use Rattle.jsx_tree.specs.declared.tree.Access.TheFolds.{fold_out-Jsx, fold_out-Operation}
use Rattle.jsx_tree.specs.View.{template, view_word, Owner, access_step, control_step, expr_step, jsx_step, key_step, link_step, operation_step, pat_step, prop_step, stmt_step, view_jsx, view_operation}
use Rattle.jsx_tree.proofs.Views.{views}
use Rattle.jsx_operand.specs.Climbing.{is_target}

pub template_target : (b : Bool) (ps : List Text) (ts : List Tree) → is_target (template b ps ts) ≡ false
template_target b [] ts = refl
template_target b (p ∷ []) [] = refl
template_target b (p ∷ []) (t ∷ ts) = refl
template_target b (p ∷ q ∷ ps) [] = refl
template_target b (p ∷ q ∷ ps) (t ∷ ts) = refl

pub word_target : (w : Word) → is_target (view_word w) ≡ false
word_target words.This = refl
word_target words.Null = refl
word_target words.True = refl
word_target words.False = refl
word_target words.ImportMeta = refl
word_target words.NewTarget = refl

operation_step_target : (x : Operation-F Tree Tree Tree Tree Tree Tree Tree (Role → Tree) (Owner → Tree) Tree) → is_target (operation_step x) ≡ false
operation_step_target (Operation-F.Update at o side.Before a) = refl
operation_step_target (Operation-F.Update at o side.After a) = refl
operation_step_target _ = refl

pub operation_target : (a : Operation) → is_target (view_operation a) ≡ false
operation_target a = ap is_target (fold_out-Operation Tree Tree Tree Tree Tree Tree Tree (Role → Tree) (Owner → Tree) Tree access_step control_step expr_step jsx_step key_step link_step operation_step pat_step prop_step stmt_step a) ∙ operation_step_target _

jsx_step_target : (x : Jsx-F Tree Tree Tree Tree Tree Tree Tree (Role → Tree) (Owner → Tree) Tree) → is_target (jsx_step x) ≡ false
jsx_step_target (Jsx-F.Container at None) = refl
jsx_step_target (Jsx-F.Container at (Some e)) = refl
jsx_step_target _ = refl

pub jsx_target : (a : Jsx) → is_target (view_jsx a) ≡ false
jsx_target a = ap is_target (fold_out-Jsx Tree Tree Tree Tree Tree Tree Tree (Role → Tree) (Owner → Tree) Tree access_step control_step expr_step jsx_step key_step link_step operation_step pat_step prop_step stmt_step a) ∙ jsx_step_target _

pub ruleset targeting = (views, template_target, word_target, operation_target, jsx_target)
