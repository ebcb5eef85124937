-- The level of each variant of the code's tree.
use Rattle.std.proofs.Common.{◌≡◌, List, [], ◌∷◌, Bool, Some, None, refl, ap, ◌∙◌}
use Rattle.jsx_tree.specs.Kinds.{Role, Tree}
use Rattle.jsx_tree.specs.declared.text.Text.{Text}
use Rattle.jsx_tree.specs.declared.text.Word.{Word}
use Rattle.jsx_tree.specs.declared.text.Word.TheVariants as words
use Rattle.jsx_tree.specs.declared.operator.UpdateOp.{UpdateOp}
use Rattle.jsx_tree.specs.declared.operator.UpdateSide.{UpdateSide}
use Rattle.jsx_tree.specs.declared.operator.UpdateSide.TheVariants as side
use Rattle.jsx_tree.specs.declared.tree.Jsx.{Jsx}
use Rattle.jsx_tree.specs.declared.tree.Access.TheOpen.{Jsx-F}
use Rattle.jsx_tree.specs.declared.tree.Access.TheFolds.{fold_out-Jsx}
use Rattle.jsx_tree.specs.View.{template, view_word, Owner, access_step, control_step, expr_step, jsx_step, key_step, link_step, operation_step, pat_step, prop_step, stmt_step, view_jsx}
use Rattle.jsx_tree.specs.ViewOperators.{update_of}
use Rattle.jsx_tree.proofs.Views.{views}
use Rattle.jsx_token.specs.Growths.{level_of_expression}
use Rattle.jsx_operand.specs.Climbing.{level}

pub template_level : (b : Bool) (ps : List Text) (ts : List Tree) → level (template b ps ts) ≡ 18
template_level b [] ts = refl
template_level b (p ∷ []) [] = refl
template_level b (p ∷ []) (t ∷ ts) = refl
template_level b (p ∷ q ∷ ps) [] = refl
template_level b (p ∷ q ∷ ps) (t ∷ ts) = refl

pub word_level : (w : Word) → level (view_word w) ≡ 18
word_level words.This = refl
word_level words.Null = refl
word_level words.True = refl
word_level words.False = refl
word_level words.ImportMeta = refl
word_level words.NewTarget = refl

jsx_step_level : (x : Jsx-F Tree Tree Tree Tree Tree Tree Tree (Role → Tree) (Owner → Tree) Tree) → level (jsx_step x) ≡ 18
jsx_step_level (Jsx-F.Container at None) = refl
jsx_step_level (Jsx-F.Container at (Some e)) = refl
jsx_step_level _ = refl

pub jsx_level : (a : Jsx) → level (view_jsx a) ≡ 18
jsx_level a = ap level (fold_out-Jsx Tree Tree Tree Tree Tree Tree Tree (Role → Tree) (Owner → Tree) Tree access_step control_step expr_step jsx_step key_step link_step operation_step pat_step prop_step stmt_step a) ∙ jsx_step_level _

pub update_level : (o : UpdateOp) (s : UpdateSide) → level_of_expression (update_of o s) ≡ 16
update_level o side.Before = refl
update_level o side.After = refl

pub ruleset leveling = (views, template_level, word_level, jsx_level, update_level)
