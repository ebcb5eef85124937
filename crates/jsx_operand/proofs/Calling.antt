-- Which variants of the code's tree are calls.
use Rattle.std.proofs.Common.{◌≡◌, List, [], ◌∷◌, Bool, false, Some, None, refl, ap, ◌∙◌}
use Rattle.jsx_tree.specs.Kinds.{Role, Tree}
use Rattle.jsx_tree.specs.declared.text.Text.{Text}
use Rattle.jsx_tree.specs.declared.text.Word.{Word}
use Rattle.jsx_tree.specs.declared.text.Word.TheVariants as words
use Rattle.jsx_tree.specs.declared.operator.UpdateSide.TheVariants as side
use Rattle.jsx_tree.specs.declared.tree.Jsx.{Jsx}
use Rattle.jsx_tree.specs.declared.tree.Operation.{Operation}
use Rattle.jsx_tree.specs.declared.tree.Access.TheOpen.{Jsx-F, Operation-F}
use Rattle.jsx_tree.specs.declared.tree.Access.TheFolds.{fold_out-Jsx, fold_out-Operation}
use Rattle.jsx_tree.specs.View.{template, view_word, Owner, access_step, control_step, expr_step, jsx_step, key_step, link_step, operation_step, pat_step, prop_step, stmt_step, view_jsx, view_operation}
use Rattle.jsx_tree.proofs.Views.{views}
use Rattle.jsx_operand.specs.Climbing.{is_call}

pub template_call : (b : Bool) (ps : List Text) (ts : List Tree) → is_call (template b ps ts) ≡ false
template_call b [] ts = refl
template_call b (p ∷ []) [] = refl
template_call b (p ∷ []) (t ∷ ts) = refl
template_call b (p ∷ q ∷ ps) [] = refl
template_call b (p ∷ q ∷ ps) (t ∷ ts) = refl

pub word_call : (w : Word) → is_call (view_word w) ≡ false
word_call words.This = refl
word_call words.Null = refl
word_call words.True = refl
word_call words.False = refl
word_call words.ImportMeta = refl
word_call words.NewTarget = refl

operation_step_call : (x : Operation-F Tree Tree Tree Tree Tree Tree Tree (Role → Tree) (Owner → Tree) Tree) → is_call (operation_step x) ≡ false
operation_step_call (Operation-F.Update at o side.Before a) = refl
operation_step_call (Operation-F.Update at o side.After a) = refl
operation_step_call _ = refl

pub operation_call : (a : Operation) → is_call (view_operation a) ≡ false
operation_call a = ap is_call (fold_out-Operation Tree Tree Tree Tree Tree Tree Tree (Role → Tree) (Owner → Tree) Tree access_step control_step expr_step jsx_step key_step link_step operation_step pat_step prop_step stmt_step a) ∙ operation_step_call _

jsx_step_call : (x : Jsx-F Tree Tree Tree Tree Tree Tree Tree (Role → Tree) (Owner → Tree) Tree) → is_call (jsx_step x) ≡ false
jsx_step_call (Jsx-F.Container at None) = refl
jsx_step_call (Jsx-F.Container at (Some e)) = refl
jsx_step_call _ = refl

pub jsx_call : (a : Jsx) → is_call (view_jsx a) ≡ false
jsx_call a = ap is_call (fold_out-Jsx Tree Tree Tree Tree Tree Tree Tree (Role → Tree) (Owner → Tree) Tree access_step control_step expr_step jsx_step key_step link_step operation_step pat_step prop_step stmt_step a) ∙ jsx_step_call _

pub ruleset calling = (views, template_call, word_call, operation_call, jsx_call)
