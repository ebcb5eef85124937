-- What the code's nodes aren't: a string, the name `async`, an empty statement or one that may be a directive.
use Rattle.std.proofs.Common.{◌≡◌, List, [], ◌∷◌, false, refl, ap, sym, ◌∙◌, subst, Option, Some, None, Box, Global}
use Rattle.jsx_base.specs.Token as token
use Rattle.jsx_base.specs.Token.{StringLiteral, same}
use Rattle.jsx_tree.specs.Kinds.{Role, Tree, leaf, node, list, none, part, statement, ExprStmt}
use Rattle.jsx_tree.specs.Normal.{is_empty}
use Rattle.jsx_tree.specs.Parentheses.{no_directive}
use Rattle.jsx_tree.specs.declared.text.Text.{Text}
use Rattle.jsx_tree.specs.declared.text.Word.{Word}
use Rattle.jsx_tree.specs.declared.text.Word.TheVariants as words
use Rattle.jsx_tree.specs.declared.text.LiteralKind.{LiteralKind}
use Rattle.jsx_tree.specs.declared.text.LiteralKind.TheVariants as literal_kind
use Rattle.jsx_tree.specs.declared.tree.Expr.{Expr}
use Rattle.jsx_tree.specs.declared.tree.Operation.{Operation}
use Rattle.jsx_tree.specs.declared.tree.Access.{Access}
use Rattle.jsx_tree.specs.declared.tree.Jsx.{Jsx}
use Rattle.jsx_tree.specs.declared.tree.Control.{Control}
use Rattle.jsx_tree.specs.View.{template, container, clause, shorthand_of, kind_of_literal, view_word, view_expr, view_operation, view_access, view_jsx, view_control, access_step, control_step, expr_step, jsx_step, key_step, link_step, operation_step, pat_step, prop_step, stmt_step, Owner}
use Rattle.jsx_tree.specs.declared.tree.Access.TheOpen.{Access-F, Control-F, Jsx-F, Operation-F}
use Rattle.jsx_tree.specs.declared.tree.Access.TheFolds.{fold_out-Access, fold_out-Control, fold_out-Jsx, fold_out-Operation}
use Rattle.jsx_tree.proofs.Views as all
use Rattle.jsx_scope.specs.Walk.{is_string, is_async, quoted}

pub template_is_string : (ps : List Text) (ts : List Tree) → is_string (template false ps ts) ≡ false
template_is_string [] ts = refl
template_is_string (p ∷ []) [] = refl
template_is_string (p ∷ []) (t ∷ ts) = refl
template_is_string (p ∷ q ∷ ps) ts = refl

pub word_is_string : (w : Word) → is_string (view_word w) ≡ false
word_is_string words.This = refl
word_is_string words.Null = refl
word_is_string words.True = refl
word_is_string words.False = refl
word_is_string words.ImportMeta = refl
word_is_string words.NewTarget = refl

operation_step_is_string : (x : Operation-F Tree Tree Tree Tree Tree Tree Tree (Role → Tree) (Owner → Tree) Tree) → is_string (operation_step x) ≡ false
operation_step_is_string Operation-F.«Operation::Hole» = refl
operation_step_is_string _ = refl

pub operation_is_string : (x : Operation) → is_string (view_operation x) ≡ false
operation_is_string x = ap is_string (fold_out-Operation Tree Tree Tree Tree Tree Tree Tree (Role → Tree) (Owner → Tree) Tree access_step control_step expr_step jsx_step key_step link_step operation_step pat_step prop_step stmt_step x) ∙ operation_step_is_string _

access_step_is_string : (x : Access-F Tree Tree Tree Tree Tree Tree Tree (Role → Tree) (Owner → Tree) Tree) → is_string (access_step x) ≡ false
access_step_is_string (Access-F.Tagged at a here ps xs) = refl
access_step_is_string _ = refl

pub access_is_string : (x : Access) → is_string (view_access x) ≡ false
access_is_string x = ap is_string (fold_out-Access Tree Tree Tree Tree Tree Tree Tree (Role → Tree) (Owner → Tree) Tree access_step control_step expr_step jsx_step key_step link_step operation_step pat_step prop_step stmt_step x) ∙ access_step_is_string _

container_is_string : (e : Option (Box Tree Global)) → is_string (container e) ≡ false
container_is_string None = refl
container_is_string (Some e) = refl

jsx_step_is_string : (x : Jsx-F Tree Tree Tree Tree Tree Tree Tree (Role → Tree) (Owner → Tree) Tree) → is_string (jsx_step x) ≡ false
jsx_step_is_string (Jsx-F.Container at e) = container_is_string e
jsx_step_is_string _ = refl

pub jsx_is_string : (x : Jsx) → is_string (view_jsx x) ≡ false
jsx_is_string x = ap is_string (fold_out-Jsx Tree Tree Tree Tree Tree Tree Tree (Role → Tree) (Owner → Tree) Tree access_step control_step expr_step jsx_step key_step link_step operation_step pat_step prop_step stmt_step x) ∙ jsx_step_is_string _

pub template_is_async : (ps : List Text) (ts : List Tree) → is_async (template false ps ts) ≡ false
template_is_async [] ts = refl
template_is_async (p ∷ []) [] = refl
template_is_async (p ∷ []) (t ∷ ts) = refl
template_is_async (p ∷ q ∷ ps) ts = refl

pub word_is_async : (w : Word) → is_async (view_word w) ≡ false
word_is_async words.This = refl
word_is_async words.Null = refl
word_is_async words.True = refl
word_is_async words.False = refl
word_is_async words.ImportMeta = refl
word_is_async words.NewTarget = refl

operation_step_is_async : (x : Operation-F Tree Tree Tree Tree Tree Tree Tree (Role → Tree) (Owner → Tree) Tree) → is_async (operation_step x) ≡ false
operation_step_is_async Operation-F.«Operation::Hole» = refl
operation_step_is_async _ = refl

pub operation_is_async : (x : Operation) → is_async (view_operation x) ≡ false
operation_is_async x = ap is_async (fold_out-Operation Tree Tree Tree Tree Tree Tree Tree (Role → Tree) (Owner → Tree) Tree access_step control_step expr_step jsx_step key_step link_step operation_step pat_step prop_step stmt_step x) ∙ operation_step_is_async _

access_step_is_async : (x : Access-F Tree Tree Tree Tree Tree Tree Tree (Role → Tree) (Owner → Tree) Tree) → is_async (access_step x) ≡ false
access_step_is_async (Access-F.Tagged at a here ps xs) = refl
access_step_is_async _ = refl

pub access_is_async : (x : Access) → is_async (view_access x) ≡ false
access_is_async x = ap is_async (fold_out-Access Tree Tree Tree Tree Tree Tree Tree (Role → Tree) (Owner → Tree) Tree access_step control_step expr_step jsx_step key_step link_step operation_step pat_step prop_step stmt_step x) ∙ access_step_is_async _

container_is_async : (e : Option (Box Tree Global)) → is_async (container e) ≡ false
container_is_async None = refl
container_is_async (Some e) = refl

jsx_step_is_async : (x : Jsx-F Tree Tree Tree Tree Tree Tree Tree (Role → Tree) (Owner → Tree) Tree) → is_async (jsx_step x) ≡ false
jsx_step_is_async (Jsx-F.Container at e) = container_is_async e
jsx_step_is_async _ = refl

pub jsx_is_async : (x : Jsx) → is_async (view_jsx x) ≡ false
jsx_is_async x = ap is_async (fold_out-Jsx Tree Tree Tree Tree Tree Tree Tree (Role → Tree) (Owner → Tree) Tree access_step control_step expr_step jsx_step key_step link_step operation_step pat_step prop_step stmt_step x) ∙ jsx_step_is_async _

pub shorthand_is_async : (r : Role) (a : Tree) (e : Option (Box Expr Global)) → is_async (shorthand_of view_expr r a e) ≡ false
shorthand_is_async r a None = refl
shorthand_is_async r a (Some e) = refl

pub literal_is_async : (k : LiteralKind) (x : token.Text) → is_async (leaf (kind_of_literal k) x) ≡ false
literal_is_async literal_kind.Num x = refl
literal_is_async literal_kind.BigInt x = refl
literal_is_async literal_kind.Str x = refl
literal_is_async literal_kind.RegExp x = refl

clause_is_empty : (e : Option (Box Tree Global)) (u : Tree) → is_empty (clause e u) ≡ false
clause_is_empty None u = refl
clause_is_empty (Some e) u = refl

control_step_is_empty : (x : Control-F Tree Tree Tree Tree Tree Tree Tree (Role → Tree) (Owner → Tree) Tree) → is_empty (control_step x) ≡ false
control_step_is_empty (Control-F.Case at e ss) = clause_is_empty e _
control_step_is_empty _ = refl

pub control_is_empty : (c : Control) → is_empty (view_control c) ≡ false
control_is_empty c = ap is_empty (fold_out-Control Tree Tree Tree Tree Tree Tree Tree (Role → Tree) (Owner → Tree) Tree access_step control_step expr_step jsx_step key_step link_step operation_step pat_step prop_step stmt_step c) ∙ control_step_is_empty _

clause_no_directive : (e : Option (Box Tree Global)) (u : Tree) → no_directive (clause e u) ≡ clause e u
clause_no_directive None u = refl
clause_no_directive (Some e) u = refl

control_step_no_directive : (x : Control-F Tree Tree Tree Tree Tree Tree Tree (Role → Tree) (Owner → Tree) Tree) → no_directive (control_step x) ≡ control_step x
control_step_no_directive (Control-F.Case at e ss) = clause_no_directive e _
control_step_no_directive _ = refl

pub control_no_directive : (c : Control) → no_directive (view_control c) ≡ view_control c
control_no_directive c = subst (λ u. no_directive u ≡ u) (sym (fold_out-Control Tree Tree Tree Tree Tree Tree Tree (Role → Tree) (Owner → Tree) Tree access_step control_step expr_step jsx_step key_step link_step operation_step pat_step prop_step stmt_step c)) (control_step_no_directive _)

pub directive_is : (t : Tree) → no_directive (node (statement ExprStmt) (part t none)) ≡ node (statement ExprStmt) (part (quoted t) none)
directive_is (leaf StringLiteral x) = refl
directive_is (leaf _ x) = refl
directive_is (node k cs) = refl
directive_is (list ts) = refl

pub ruleset nodes = (all.views, template_is_string, word_is_string, operation_is_string, access_is_string, jsx_is_string, template_is_async, word_is_async, operation_is_async, access_is_async, jsx_is_async, shorthand_is_async, literal_is_async, control_is_empty, control_no_directive, directive_is)
