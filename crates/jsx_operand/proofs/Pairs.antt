-- What is in no parentheses by itself.
use Rattle.std.proofs.Common.{◌≡◌, List, [], ◌∷◌, Bool, true, false, Some, None, refl, ap, ◌∙◌}
use Rattle.jsx_tree.specs.Kinds.{Role, function, expression, ParenTarget, Parenthesized, Tree, leaf, node, list}
use Rattle.jsx_tree.specs.declared.text.Text.{Text}
use Rattle.jsx_tree.specs.declared.text.Word.{Word}
use Rattle.jsx_tree.specs.declared.text.Word.TheVariants as words
use Rattle.jsx_tree.specs.declared.operator.UpdateSide.TheVariants as side
use Rattle.jsx_tree.specs.declared.tree.Access.{Access}
use Rattle.jsx_tree.specs.declared.tree.Operation.{Operation}
use Rattle.jsx_tree.specs.declared.tree.Jsx.{Jsx}
use Rattle.jsx_tree.specs.declared.tree.Access.TheOpen.{Access-F, Jsx-F, Operation-F}
use Rattle.jsx_tree.specs.declared.tree.Access.TheFolds.{fold_out-Access, fold_out-Jsx, fold_out-Operation}
use Rattle.jsx_tree.specs.Grows.{as_target}
use Rattle.jsx_tree.specs.View.{template, view_word, Owner, access_step, control_step, expr_step, jsx_step, key_step, link_step, operation_step, pat_step, prop_step, stmt_step, view_access, view_jsx, view_operation}
use Rattle.jsx_tree.proofs.Views.{views}
use Rattle.jsx_tree.proofs.Telling.{telling}
use Rattle.jsx_operand.specs.Spans.{is_parens, is_plain, pairs_formed}

-- ---- the variants of the code's tree

pub template_plain : (b : Bool) (ps : List Text) (ts : List Tree) → is_plain (template b ps ts) ≡ true
template_plain b [] ts = refl
template_plain b (p ∷ []) [] = refl
template_plain b (p ∷ []) (t ∷ ts) = refl
template_plain b (p ∷ q ∷ ps) [] = refl
template_plain b (p ∷ q ∷ ps) (t ∷ ts) = refl

pub word_plain : (w : Word) → is_plain (view_word w) ≡ true
word_plain words.This = refl
word_plain words.Null = refl
word_plain words.True = refl
word_plain words.False = refl
word_plain words.ImportMeta = refl
word_plain words.NewTarget = refl

access_step_plain : (x : Access-F Tree Tree Tree Tree Tree Tree Tree (Role → Tree) (Owner → Tree) Tree) → is_plain (access_step x) ≡ true
access_step_plain (Access-F.New at o as') = refl
access_step_plain _ = refl

pub access_plain : (a : Access) → is_plain (view_access a) ≡ true
access_plain a = ap is_plain (fold_out-Access Tree Tree Tree Tree Tree Tree Tree (Role → Tree) (Owner → Tree) Tree access_step control_step expr_step jsx_step key_step link_step operation_step pat_step prop_step stmt_step a) ∙ access_step_plain _

operation_step_plain : (x : Operation-F Tree Tree Tree Tree Tree Tree Tree (Role → Tree) (Owner → Tree) Tree) → is_plain (operation_step x) ≡ true
operation_step_plain (Operation-F.Update at o side.Before a) = refl
operation_step_plain (Operation-F.Update at o side.After a) = refl
operation_step_plain _ = refl

pub operation_plain : (a : Operation) → is_plain (view_operation a) ≡ true
operation_plain a = ap is_plain (fold_out-Operation Tree Tree Tree Tree Tree Tree Tree (Role → Tree) (Owner → Tree) Tree access_step control_step expr_step jsx_step key_step link_step operation_step pat_step prop_step stmt_step a) ∙ operation_step_plain _

jsx_step_plain : (x : Jsx-F Tree Tree Tree Tree Tree Tree Tree (Role → Tree) (Owner → Tree) Tree) → is_plain (jsx_step x) ≡ true
jsx_step_plain (Jsx-F.Container at None) = refl
jsx_step_plain (Jsx-F.Container at (Some e)) = refl
jsx_step_plain _ = refl

pub jsx_plain : (a : Jsx) → is_plain (view_jsx a) ≡ true
jsx_plain a = ap is_plain (fold_out-Jsx Tree Tree Tree Tree Tree Tree Tree (Role → Tree) (Owner → Tree) Tree access_step control_step expr_step jsx_step key_step link_step operation_step pat_step prop_step stmt_step a) ∙ jsx_step_plain _

pub ruleset unpaired = (views, telling, template_plain, word_plain, access_plain, operation_plain, jsx_plain)

-- ---- so they are themselves where they are assigned to

pub plain_bare : (t : Tree) → is_plain t ≡ true → is_parens t ≡ false
plain_bare (leaf k s) h = refl
plain_bare (node (expression Parenthesized) ts) h = cc
plain_bare (node _ ts) h = refl
plain_bare (list ts) h = refl

pub plain_target : (t : Tree) → is_plain t ≡ true → as_target t ≡ t
plain_target (leaf k s) h = refl
plain_target (node (expression Parenthesized) ts) h = cc
plain_target (node _ ts) h = refl
plain_target (list ts) h = refl

pub plain_formed : (t : Tree) → is_plain t ≡ true → pairs_formed t ≡ true
plain_formed (leaf k s) h = refl
plain_formed (node (expression Parenthesized) ts) h = cc
plain_formed (node (function ParenTarget) ts) h = cc
plain_formed (node _ ts) h = refl
plain_formed (list ts) h = cc
