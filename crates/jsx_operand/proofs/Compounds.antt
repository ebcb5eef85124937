-- No expression is a pattern in brackets, one with a default, or a rest.
use Rattle.std.proofs.Common.{◌≡◌, List, [], ◌∷◌, Bool, false, Some, None, refl, ap, map, sym, ◌∙◌, Option, Box, Global}
use Rattle.jsx_tree.specs.Kinds.{Role, Tree}
use Rattle.jsx_tree.specs.declared.text.Text.{Text}
use Rattle.jsx_tree.specs.declared.text.Word.{Word}
use Rattle.jsx_tree.specs.declared.text.Word.TheVariants as words
use Rattle.jsx_tree.specs.declared.operator.UpdateSide.TheVariants as side
use Rattle.jsx_tree.specs.declared.tree.Access.{Access}
use Rattle.jsx_tree.specs.declared.tree.Expr.{Expr}
use Rattle.jsx_tree.specs.declared.tree.Expr.TheVariants as expr
use Rattle.jsx_tree.specs.declared.tree.Operation.{Operation}
use Rattle.jsx_tree.specs.declared.tree.Jsx.{Jsx}
use Rattle.jsx_tree.specs.declared.tree.Control.{Control}
use Rattle.jsx_tree.specs.declared.tree.Key.{Key}
use Rattle.jsx_tree.specs.declared.tree.Link.{Link}
use Rattle.jsx_tree.specs.declared.tree.Pat.{Pat}
use Rattle.jsx_tree.specs.declared.tree.Prop.{Prop}
use Rattle.jsx_tree.specs.declared.tree.Stmt.{Stmt}
use Rattle.jsx_tree.specs.declared.tree.Access.TheOpen.{Access-F, Expr-F, Jsx-F, Operation-F}
use Rattle.jsx_tree.specs.declared.tree.Access.TheViews.{roll-Expr, out-Expr, roll-out-Expr}
use Rattle.jsx_tree.specs.declared.tree.Access.TheFolds.{fold_out-Access, fold_out-Jsx, fold_out-Operation}
use Rattle.jsx_tree.specs.View.{inside, shorthand_of, template, view_word, Owner, access_step, control_step, expr_step, jsx_step, key_step, link_step, operation_step, pat_step, prop_step, stmt_step, view_access, view_expr, view_jsx, view_operation}
use Rattle.jsx_tree.proofs.Views.{views, view-Expr-Ident, view-Expr-Literal, view-Expr-Word, view-Expr-Operation, view-Expr-Access, view-Expr-Array, view-Expr-Object, view-Expr-Template, view-Expr-Function, view-Expr-Class, view-Expr-Jsx, view-Expr-Paren}
use Rattle.jsx_operand.specs.Patterns.{is_compound}

template_simple : (b : Bool) (ps : List Text) (ts : List Tree) → is_compound (template b ps ts) ≡ false
template_simple b [] ts = refl
template_simple b (p ∷ []) [] = refl
template_simple b (p ∷ []) (t ∷ ts) = refl
template_simple b (p ∷ q ∷ ps) [] = refl
template_simple b (p ∷ q ∷ ps) (t ∷ ts) = refl

word_simple : (w : Word) → is_compound (view_word w) ≡ false
word_simple words.This = refl
word_simple words.Null = refl
word_simple words.True = refl
word_simple words.False = refl
word_simple words.ImportMeta = refl
word_simple words.NewTarget = refl

access_step_simple : (x : Access-F Tree Tree Tree Tree Tree Tree Tree (Role → Tree) (Owner → Tree) Tree) → is_compound (access_step x) ≡ false
access_step_simple (Access-F.New at o as') = refl
access_step_simple _ = refl

access_simple : (a : Access) → is_compound (view_access a) ≡ false
access_simple a = ap is_compound (fold_out-Access Tree Tree Tree Tree Tree Tree Tree (Role → Tree) (Owner → Tree) Tree access_step control_step expr_step jsx_step key_step link_step operation_step pat_step prop_step stmt_step a) ∙ access_step_simple _

operation_step_simple : (x : Operation-F Tree Tree Tree Tree Tree Tree Tree (Role → Tree) (Owner → Tree) Tree) → is_compound (operation_step x) ≡ false
operation_step_simple (Operation-F.Update at o side.Before a) = refl
operation_step_simple (Operation-F.Update at o side.After a) = refl
operation_step_simple _ = refl

operation_simple : (a : Operation) → is_compound (view_operation a) ≡ false
operation_simple a = ap is_compound (fold_out-Operation Tree Tree Tree Tree Tree Tree Tree (Role → Tree) (Owner → Tree) Tree access_step control_step expr_step jsx_step key_step link_step operation_step pat_step prop_step stmt_step a) ∙ operation_step_simple _

jsx_step_simple : (x : Jsx-F Tree Tree Tree Tree Tree Tree Tree (Role → Tree) (Owner → Tree) Tree) → is_compound (jsx_step x) ≡ false
jsx_step_simple (Jsx-F.Container at None) = refl
jsx_step_simple (Jsx-F.Container at (Some e)) = refl
jsx_step_simple _ = refl

jsx_simple : (a : Jsx) → is_compound (view_jsx a) ≡ false
jsx_simple a = ap is_compound (fold_out-Jsx Tree Tree Tree Tree Tree Tree Tree (Role → Tree) (Owner → Tree) Tree access_step control_step expr_step jsx_step key_step link_step operation_step pat_step prop_step stmt_step a) ∙ jsx_step_simple _

expr_rolled : (y : Expr-F Access Control Expr Jsx Key Link Operation Pat Prop Stmt) → is_compound (view_expr (roll-Expr y)) ≡ false
expr_rolled (Expr-F.«Expr::Ident» at a) = ap (λ e. is_compound (view_expr e)) (expr.rolls-Ident at a) ∙ ap is_compound (view-Expr-Ident at a)
expr_rolled (Expr-F.«Expr::Literal» at k a) = ap (λ e. is_compound (view_expr e)) (expr.rolls-Literal at k a) ∙ ap is_compound (view-Expr-Literal at k a)
expr_rolled (Expr-F.Word at w) = ap (λ e. is_compound (view_expr e)) (expr.rolls-Word at w) ∙ ap is_compound (view-Expr-Word at w) ∙ word_simple w
expr_rolled (Expr-F.Operation a) = ap (λ e. is_compound (view_expr e)) (expr.rolls-Operation a) ∙ ap is_compound (view-Expr-Operation a) ∙ operation_simple a
expr_rolled (Expr-F.Access a) = ap (λ e. is_compound (view_expr e)) (expr.rolls-Access a) ∙ ap is_compound (view-Expr-Access a) ∙ access_simple a
expr_rolled (Expr-F.«Expr::Array» at xs) = ap (λ e. is_compound (view_expr e)) (expr.rolls-Array at xs) ∙ ap is_compound (view-Expr-Array at xs)
expr_rolled (Expr-F.«Expr::Object» at xs) = ap (λ e. is_compound (view_expr e)) (expr.rolls-Object at xs) ∙ ap is_compound (view-Expr-Object at xs)
expr_rolled (Expr-F.Template at ps xs) = ap (λ e. is_compound (view_expr e)) (expr.rolls-Template at ps xs) ∙ ap is_compound (view-Expr-Template at ps xs) ∙ template_simple false ps.items (map (inside view_expr) xs.items)
expr_rolled (Expr-F.«Expr::Function» at a ps ds ss) = ap (λ e. is_compound (view_expr e)) (expr.rolls-Function at a ps ds ss) ∙ ap is_compound (view-Expr-Function at a ps ds ss)
expr_rolled (Expr-F.«Expr::Class» at a e ms) = ap (λ e. is_compound (view_expr e)) (expr.rolls-Class at a e ms) ∙ ap is_compound (view-Expr-Class at a e ms)
expr_rolled (Expr-F.Jsx a) = ap (λ e. is_compound (view_expr e)) (expr.rolls-Jsx a) ∙ ap is_compound (view-Expr-Jsx a) ∙ jsx_simple a.value
expr_rolled (Expr-F.«Expr::Paren» at a) = ap (λ e. is_compound (view_expr e)) (expr.rolls-Paren at a) ∙ ap is_compound (view-Expr-Paren at a)

pub expr_simple : (e : Expr) → is_compound (view_expr e) ≡ false
expr_simple e = ap (λ x. is_compound (view_expr x)) (sym (roll-out-Expr e)) ∙ expr_rolled (out-Expr e)

pub shorthand_simple : (r : Role) (a : Tree) (e : Option (Box Expr Global)) → is_compound (shorthand_of view_expr r a e) ≡ false
shorthand_simple r a None = refl
shorthand_simple r a (Some e) = refl

pub ruleset uncompound = (views, expr_simple, shorthand_simple)
