-- Which variants of the code's tree are names.
use Rattle.std.proofs.Common.{◌≡◌, List, [], ◌∷◌, Bool, false, Some, None, refl, ap, ◌∙◌}
use Rattle.jsx_tree.specs.Kinds.{Role, Tree}
use Rattle.jsx_tree.specs.declared.text.Text.{Text}
use Rattle.jsx_tree.specs.declared.text.Word.{Word}
use Rattle.jsx_tree.specs.declared.text.Word.TheVariants as words
use Rattle.jsx_tree.specs.declared.operator.UpdateSide.TheVariants as side
use Rattle.jsx_tree.specs.declared.tree.Jsx.{Jsx}
use Rattle.jsx_tree.specs.declared.tree.Access.{Access}
use Rattle.jsx_tree.specs.declared.tree.Operation.{Operation}
use Rattle.jsx_tree.specs.declared.tree.Access.TheOpen.{Access-F, Jsx-F, Operation-F}
use Rattle.jsx_tree.specs.declared.tree.Access.TheFolds.{fold_out-Access, fold_out-Jsx, fold_out-Operation}
use Rattle.jsx_tree.specs.View.{template, view_word, Owner, access_step, control_step, expr_step, jsx_step, key_step, link_step, operation_step, pat_step, prop_step, stmt_step, view_access, view_jsx, view_operation}
use Rattle.jsx_tree.specs.StaticRules.{is_name}
use Rattle.jsx_tree.proofs.Views.{views}

pub template_name : (b : Bool) (ps : List Text) (ts : List Tree) → is_name (template b ps ts) ≡ false
template_name b [] ts = refl
template_name b (p ∷ []) [] = refl
template_name b (p ∷ []) (t ∷ ts) = refl
template_name b (p ∷ q ∷ ps) [] = refl
template_name b (p ∷ q ∷ ps) (t ∷ ts) = refl

pub word_name : (w : Word) → is_name (view_word w) ≡ false
word_name words.This = refl
word_name words.Null = refl
word_name words.True = refl
word_name words.False = refl
word_name words.ImportMeta = refl
word_name words.NewTarget = refl

operation_step_name : (x : Operation-F Tree Tree Tree Tree Tree Tree Tree (Role → Tree) (Owner → Tree) Tree) → is_name (operation_step x) ≡ false
operation_step_name (Operation-F.Update at o side.Before a) = refl
operation_step_name (Operation-F.Update at o side.After a) = refl
operation_step_name _ = refl

pub operation_name : (a : Operation) → is_name (view_operation a) ≡ false
operation_name a = ap is_name (fold_out-Operation Tree Tree Tree Tree Tree Tree Tree (Role → Tree) (Owner → Tree) Tree access_step control_step expr_step jsx_step key_step link_step operation_step pat_step prop_step stmt_step a) ∙ operation_step_name _

jsx_step_name : (x : Jsx-F Tree Tree Tree Tree Tree Tree Tree (Role → Tree) (Owner → Tree) Tree) → is_name (jsx_step x) ≡ false
jsx_step_name (Jsx-F.Container at None) = refl
jsx_step_name (Jsx-F.Container at (Some e)) = refl
jsx_step_name _ = refl

pub jsx_name : (a : Jsx) → is_name (view_jsx a) ≡ false
jsx_name a = ap is_name (fold_out-Jsx Tree Tree Tree Tree Tree Tree Tree (Role → Tree) (Owner → Tree) Tree access_step control_step expr_step jsx_step key_step link_step operation_step pat_step prop_step stmt_step a) ∙ jsx_step_name _

access_step_name : (x : Access-F Tree Tree Tree Tree Tree Tree Tree (Role → Tree) (Owner → Tree) Tree) → is_name (access_step x) ≡ false
access_step_name (Access-F.New at o as') = refl
access_step_name _ = refl

pub access_name : (a : Access) → is_name (view_access a) ≡ false
access_name a = ap is_name (fold_out-Access Tree Tree Tree Tree Tree Tree Tree (Role → Tree) (Owner → Tree) Tree access_step control_step expr_step jsx_step key_step link_step operation_step pat_step prop_step stmt_step a) ∙ access_step_name _

pub ruleset naming = (views, template_name, word_name, operation_name, access_name, jsx_name)
