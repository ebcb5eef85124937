-- No expression is a declarator, so none wants an initializer; nor does a name in an object's pattern.
use Rattle.std.proofs.Common.{◌≡◌, List, [], ◌∷◌, Bool, true, false, Some, None, refl, ap, map, sym, ◌∙◌, Option, Box, Global}
use Rattle.jsx_tree.specs.Kinds.{DeclareWord, Role, Tree}
use Rattle.jsx_tree.specs.declared.text.Text.{Text}
use Rattle.jsx_tree.specs.declared.text.Word.{Word}
use Rattle.jsx_tree.specs.declared.text.Word.TheVariants as words
use Rattle.jsx_tree.specs.declared.operator.UpdateSide.TheVariants as side
use Rattle.jsx_tree.specs.declared.tree.Access.{Access}
use Rattle.jsx_tree.specs.declared.tree.Expr.{Expr}
use Rattle.jsx_tree.specs.declared.tree.Expr.TheVariants as expr
use Rattle.jsx_tree.specs.declared.tree.Operation.{Operation}
use Rattle.jsx_tree.specs.declared.tree.Jsx.{Jsx}
use Rattle.jsx_tree.specs.declared.tree.Control.{Control}
use Rattle.jsx_tree.specs.declared.tree.Key.{Key}
use Rattle.jsx_tree.specs.declared.tree.Link.{Link}
use Rattle.jsx_tree.specs.declared.tree.Pat.{Pat}
use Rattle.jsx_tree.specs.declared.tree.Prop.{Prop}
use Rattle.jsx_tree.specs.declared.tree.Stmt.{Stmt}
use Rattle.jsx_tree.specs.declared.tree.Access.TheOpen.{Access-F, Expr-F, Jsx-F, Operation-F}
use Rattle.jsx_tree.specs.declared.tree.Access.TheViews.{roll-Expr, out-Expr, roll-out-Expr}
use Rattle.jsx_tree.specs.declared.tree.Access.TheFolds.{fold_out-Access, fold_out-Jsx, fold_out-Operation}
use Rattle.jsx_tree.specs.View.{inside, shorthand_of, template, view_word, Owner, access_step, control_step, expr_step, jsx_step, key_step, link_step, operation_step, pat_step, prop_step, stmt_step, view_access, view_expr, view_jsx, view_operation}
use Rattle.jsx_tree.proofs.Views.{views, view-Expr-Ident, view-Expr-Literal, view-Expr-Word, view-Expr-Operation, view-Expr-Access, view-Expr-Array, view-Expr-Object, view-Expr-Template, view-Expr-Function, view-Expr-Class, view-Expr-Jsx, view-Expr-Paren}
use Rattle.jsx_declaration.specs.Initials.{has_value}

template_valued : (d : DeclareWord) → (b : Bool) (ps : List Text) (ts : List Tree) → has_value d (template b ps ts) ≡ true
template_valued d b [] ts = refl
template_valued d b (p ∷ []) [] = refl
template_valued d b (p ∷ []) (t ∷ ts) = refl
template_valued d b (p ∷ q ∷ ps) [] = refl
template_valued d b (p ∷ q ∷ ps) (t ∷ ts) = refl

word_valued : (d : DeclareWord) → (w : Word) → has_value d (view_word w) ≡ true
word_valued d words.This = refl
word_valued d words.Null = refl
word_valued d words.True = refl
word_valued d words.False = refl
word_valued d words.ImportMeta = refl
word_valued d words.NewTarget = refl

access_step_valued : (d : DeclareWord) → (x : Access-F Tree Tree Tree Tree Tree Tree Tree (Role → Tree) (Owner → Tree) Tree) → has_value d (access_step x) ≡ true
access_step_valued d (Access-F.New at o as') = refl
access_step_valued d _ = refl

access_valued : (d : DeclareWord) → (a : Access) → has_value d (view_access a) ≡ true
access_valued d a = ap (has_value d) (fold_out-Access Tree Tree Tree Tree Tree Tree Tree (Role → Tree) (Owner → Tree) Tree access_step control_step expr_step jsx_step key_step link_step operation_step pat_step prop_step stmt_step a) ∙ access_step_valued d _

operation_step_valued : (d : DeclareWord) → (x : Operation-F Tree Tree Tree Tree Tree Tree Tree (Role → Tree) (Owner → Tree) Tree) → has_value d (operation_step x) ≡ true
operation_step_valued d (Operation-F.Update at o side.Before a) = refl
operation_step_valued d (Operation-F.Update at o side.After a) = refl
operation_step_valued d _ = refl

operation_valued : (d : DeclareWord) → (a : Operation) → has_value d (view_operation a) ≡ true
operation_valued d a = ap (has_value d) (fold_out-Operation Tree Tree Tree Tree Tree Tree Tree (Role → Tree) (Owner → Tree) Tree access_step control_step expr_step jsx_step key_step link_step operation_step pat_step prop_step stmt_step a) ∙ operation_step_valued d _

jsx_step_valued : (d : DeclareWord) → (x : Jsx-F Tree Tree Tree Tree Tree Tree Tree (Role → Tree) (Owner → Tree) Tree) → has_value d (jsx_step x) ≡ true
jsx_step_valued d (Jsx-F.Container at None) = refl
jsx_step_valued d (Jsx-F.Container at (Some e)) = refl
jsx_step_valued d _ = refl

jsx_valued : (d : DeclareWord) → (a : Jsx) → has_value d (view_jsx a) ≡ true
jsx_valued d a = ap (has_value d) (fold_out-Jsx Tree Tree Tree Tree Tree Tree Tree (Role → Tree) (Owner → Tree) Tree access_step control_step expr_step jsx_step key_step link_step operation_step pat_step prop_step stmt_step a) ∙ jsx_step_valued d _

expr_rolled : (d : DeclareWord) → (y : Expr-F Access Control Expr Jsx Key Link Operation Pat Prop Stmt) → has_value d (view_expr (roll-Expr y)) ≡ true
expr_rolled d (Expr-F.«Expr::Ident» at a) = ap (λ e. has_value d (view_expr e)) (expr.rolls-Ident at a) ∙ ap (has_value d) (view-Expr-Ident at a)
expr_rolled d (Expr-F.«Expr::Literal» at k a) = ap (λ e. has_value d (view_expr e)) (expr.rolls-Literal at k a) ∙ ap (has_value d) (view-Expr-Literal at k a)
expr_rolled d (Expr-F.Word at w) = ap (λ e. has_value d (view_expr e)) (expr.rolls-Word at w) ∙ ap (has_value d) (view-Expr-Word at w) ∙ word_valued d w
expr_rolled d (Expr-F.Operation a) = ap (λ e. has_value d (view_expr e)) (expr.rolls-Operation a) ∙ ap (has_value d) (view-Expr-Operation a) ∙ operation_valued d a
expr_rolled d (Expr-F.Access a) = ap (λ e. has_value d (view_expr e)) (expr.rolls-Access a) ∙ ap (has_value d) (view-Expr-Access a) ∙ access_valued d a
expr_rolled d (Expr-F.«Expr::Array» at xs) = ap (λ e. has_value d (view_expr e)) (expr.rolls-Array at xs) ∙ ap (has_value d) (view-Expr-Array at xs)
expr_rolled d (Expr-F.«Expr::Object» at xs) = ap (λ e. has_value d (view_expr e)) (expr.rolls-Object at xs) ∙ ap (has_value d) (view-Expr-Object at xs)
expr_rolled d (Expr-F.Template at ps xs) = ap (λ e. has_value d (view_expr e)) (expr.rolls-Template at ps xs) ∙ ap (has_value d) (view-Expr-Template at ps xs) ∙ template_valued d false ps.items (map (inside view_expr) xs.items)
expr_rolled d (Expr-F.«Expr::Function» at a ps ds ss) = ap (λ e. has_value d (view_expr e)) (expr.rolls-Function at a ps ds ss) ∙ ap (has_value d) (view-Expr-Function at a ps ds ss)
expr_rolled d (Expr-F.«Expr::Class» at a e ms) = ap (λ e. has_value d (view_expr e)) (expr.rolls-Class at a e ms) ∙ ap (has_value d) (view-Expr-Class at a e ms)
expr_rolled d (Expr-F.Jsx a) = ap (λ e. has_value d (view_expr e)) (expr.rolls-Jsx a) ∙ ap (has_value d) (view-Expr-Jsx a) ∙ jsx_valued d a.value
expr_rolled d (Expr-F.«Expr::Paren» at a) = ap (λ e. has_value d (view_expr e)) (expr.rolls-Paren at a) ∙ ap (has_value d) (view-Expr-Paren at a)

pub expr_valued : (d : DeclareWord) → (e : Expr) → has_value d (view_expr e) ≡ true
expr_valued d e = ap (λ x. has_value d (view_expr x)) (sym (roll-out-Expr e)) ∙ expr_rolled d (out-Expr e)

pub shorthand_valued : (d : DeclareWord) → (r : Role) (a : Tree) (e : Option (Box Expr Global)) → has_value d (shorthand_of view_expr r a e) ≡ true
shorthand_valued d r a None = refl
shorthand_valued d r a (Some e) = refl

pub ruleset initializing = (views, expr_valued, shorthand_valued)
