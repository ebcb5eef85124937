-- Which trees the code's nodes are seen as: by the layer of each type.
use Rattle.std.proofs.Common.{◌≡◌, List, [], ◌∷◌, map, Bool, true, false, refl, ap, sym, ◌∙◌, subst, Option, Some, None, Box, Global}
use Rattle.std.proofs.lemmas.Bool.{false≢true}
use Rattle.jsx_tree.specs.Kinds.{Role, Kind, program, statement, function, FunctionExpr, ClassExpr, FunctionDecl, ClassDecl, Declarator, WithInit, PropertyPat, ShorthandInit, ParenTarget, jsx, Tree, leaf, node, list, expression, Forest, none, part}
use Rattle.jsx_tree.specs.declared.text.Text.{Text}
use Rattle.jsx_tree.specs.declared.text.Word.{Word}
use Rattle.jsx_tree.specs.declared.text.Word.TheVariants as words
use Rattle.jsx_tree.specs.declared.operator.UpdateSide.TheVariants as side
use Rattle.jsx_tree.specs.declared.tree.Expr.{Expr}
use Rattle.jsx_tree.specs.declared.tree.Expr.TheVariants as expr
use Rattle.jsx_tree.specs.declared.tree.Stmt.TheVariants as stmt
use Rattle.jsx_tree.specs.declared.tree.Operation.{Operation}
use Rattle.jsx_tree.specs.declared.tree.Access.{Access}
use Rattle.jsx_tree.specs.declared.tree.Jsx.{Jsx}
use Rattle.jsx_tree.specs.declared.tree.Key.{Key}
use Rattle.jsx_tree.specs.declared.tree.Link.{Link}
use Rattle.jsx_tree.specs.declared.tree.Pat.{Pat}
use Rattle.jsx_tree.specs.declared.tree.Prop.{Prop}
use Rattle.jsx_tree.specs.declared.tree.Stmt.{Stmt}
use Rattle.jsx_tree.specs.declared.tree.Control.{Control}
use Rattle.jsx_tree.specs.View.{inside, template, clause, container, view_word, view_expr, view_operation, view_access, view_jsx, view_member, view_stmt, view_control, access_step, control_step, expr_step, jsx_step, key_step, link_step, operation_step, pat_step, prop_step, stmt_step, Owner}
use Rattle.jsx_tree.specs.declared.tree.Access.TheOpen.{Access-F, Control-F, Expr-F, Jsx-F, Operation-F, Prop-F, Stmt-F}
use Rattle.jsx_tree.specs.declared.tree.Access.TheViews.{roll-Expr, out-Expr, roll-out-Expr, roll-Stmt, out-Stmt, roll-out-Stmt}
use Rattle.jsx_tree.specs.declared.tree.Access.TheFolds.{fold_out-Access, fold_out-Control, fold_out-Jsx, fold_out-Operation, fold_out-Prop}
use Rattle.jsx_tree.proofs.Views.{view-Expr-Ident, view-Expr-Literal, view-Expr-Word, view-Expr-Operation, view-Expr-Access, view-Expr-Array, view-Expr-Object, view-Expr-Template, view-Expr-Function, view-Expr-Class, view-Expr-Jsx, view-Expr-Paren, view-Stmt-Block, view-Stmt-Var, view-Stmt-Empty, view-Stmt-Expr, view-Stmt-Control, view-Stmt-Continue, view-Stmt-Break, view-Stmt-Return, view-Stmt-Throw, view-Stmt-Debugger, view-Stmt-Function, view-Stmt-Class}
use Rattle.jsx_visit.specs.Visit.{visited, visiteds, within}
use Rattle.jsx_visit.specs.Parts.{nth_visited, with_part, front_visited, rest_visited, tail_visited, but_code, front_of_code, rest_of_code, with_half, but_half, but_pair, with_test, with_second}

-- ---- the roots of expressions

-- what a tree of an expression is
abbrev pub is_root : Tree → Bool
is_root (leaf s x) = true
is_root (node (expression k) cs) = true
is_root (node (function FunctionExpr) cs) = true
is_root (node (function ClassExpr) cs) = true
is_root (node (jsx k) cs) = true
is_root t = false

template_root : (ps : List Text) (ts : List Tree) → is_root (template false ps ts) ≡ true
template_root [] ts = refl
template_root (p ∷ []) [] = refl
template_root (p ∷ []) (t ∷ ts) = refl
template_root (p ∷ q ∷ ps) ts = refl

container_root : (e : Option (Box Tree Global)) → is_root (container e) ≡ true
container_root None = refl
container_root (Some e) = refl

word_root : (w : Word) → is_root (view_word w) ≡ true
word_root words.This = refl
word_root words.Null = refl
word_root words.True = refl
word_root words.False = refl
word_root words.ImportMeta = refl
word_root words.NewTarget = refl

operation_step_root : (x : Operation-F Tree Tree Tree Tree Tree Tree Tree (Role → Tree) (Owner → Tree) Tree) → is_root (operation_step x) ≡ true
operation_step_root Operation-F.«Operation::Hole» = refl
operation_step_root _ = refl

pub operation_root : (o : Operation) → is_root (view_operation o) ≡ true
operation_root o = ap is_root (fold_out-Operation Tree Tree Tree Tree Tree Tree Tree (Role → Tree) (Owner → Tree) Tree access_step control_step expr_step jsx_step key_step link_step operation_step pat_step prop_step stmt_step o) ∙ operation_step_root _

access_step_root : (x : Access-F Tree Tree Tree Tree Tree Tree Tree (Role → Tree) (Owner → Tree) Tree) → is_root (access_step x) ≡ true
access_step_root (Access-F.Tagged at a here ps xs) = refl
access_step_root _ = refl

pub access_root : (a : Access) → is_root (view_access a) ≡ true
access_root a = ap is_root (fold_out-Access Tree Tree Tree Tree Tree Tree Tree (Role → Tree) (Owner → Tree) Tree access_step control_step expr_step jsx_step key_step link_step operation_step pat_step prop_step stmt_step a) ∙ access_step_root _

jsx_step_root : (x : Jsx-F Tree Tree Tree Tree Tree Tree Tree (Role → Tree) (Owner → Tree) Tree) → is_root (jsx_step x) ≡ true
jsx_step_root (Jsx-F.Container at e) = container_root e
jsx_step_root _ = refl

pub jsx_root : (j : Jsx) → is_root (view_jsx j) ≡ true
jsx_root j = ap is_root (fold_out-Jsx Tree Tree Tree Tree Tree Tree Tree (Role → Tree) (Owner → Tree) Tree access_step control_step expr_step jsx_step key_step link_step operation_step pat_step prop_step stmt_step j) ∙ jsx_step_root _

expr_root_rolled : (y : Expr-F Access Control Expr Jsx Key Link Operation Pat Prop Stmt) → is_root (view_expr (roll-Expr y)) ≡ true
expr_root_rolled (Expr-F.«Expr::Ident» at a) = ap (λ e. is_root (view_expr e)) (expr.rolls-Ident at a) ∙ ap is_root (view-Expr-Ident at a)
expr_root_rolled (Expr-F.«Expr::Literal» at k a) = ap (λ e. is_root (view_expr e)) (expr.rolls-Literal at k a) ∙ ap is_root (view-Expr-Literal at k a)
expr_root_rolled (Expr-F.Word at w) = ap (λ e. is_root (view_expr e)) (expr.rolls-Word at w) ∙ ap is_root (view-Expr-Word at w) ∙ word_root w
expr_root_rolled (Expr-F.Operation a) = ap (λ e. is_root (view_expr e)) (expr.rolls-Operation a) ∙ ap is_root (view-Expr-Operation a) ∙ operation_root a
expr_root_rolled (Expr-F.Access a) = ap (λ e. is_root (view_expr e)) (expr.rolls-Access a) ∙ ap is_root (view-Expr-Access a) ∙ access_root a
expr_root_rolled (Expr-F.«Expr::Array» at xs) = ap (λ e. is_root (view_expr e)) (expr.rolls-Array at xs) ∙ ap is_root (view-Expr-Array at xs)
expr_root_rolled (Expr-F.«Expr::Object» at xs) = ap (λ e. is_root (view_expr e)) (expr.rolls-Object at xs) ∙ ap is_root (view-Expr-Object at xs)
expr_root_rolled (Expr-F.Template at ps xs) = ap (λ e. is_root (view_expr e)) (expr.rolls-Template at ps xs) ∙ ap is_root (view-Expr-Template at ps xs) ∙ template_root ps.items (map (inside view_expr) xs.items)
expr_root_rolled (Expr-F.«Expr::Function» at a ps ds ss) = ap (λ e. is_root (view_expr e)) (expr.rolls-Function at a ps ds ss) ∙ ap is_root (view-Expr-Function at a ps ds ss)
expr_root_rolled (Expr-F.«Expr::Class» at a e ms) = ap (λ e. is_root (view_expr e)) (expr.rolls-Class at a e ms) ∙ ap is_root (view-Expr-Class at a e ms)
expr_root_rolled (Expr-F.Jsx a) = ap (λ e. is_root (view_expr e)) (expr.rolls-Jsx a) ∙ ap is_root (view-Expr-Jsx a) ∙ jsx_root a.value
expr_root_rolled (Expr-F.«Expr::Paren» at a) = ap (λ e. is_root (view_expr e)) (expr.rolls-Paren at a) ∙ ap is_root (view-Expr-Paren at a)

pub expr_root : (x : Expr) → is_root (view_expr x) ≡ true
expr_root x = ap (λ e. is_root (view_expr e)) (sym (roll-out-Expr x)) ∙ expr_root_rolled (out-Expr x)

-- ---- the roots of statements

-- a node of a statement
abbrev pub is_statement : Tree → Bool
is_statement (node (statement k) cs) = true
is_statement t = false

clause_root : (e : Option (Box Tree Global)) (u : Tree) → is_statement (clause e u) ≡ true
clause_root None u = refl
clause_root (Some e) u = refl

control_step_root : (x : Control-F Tree Tree Tree Tree Tree Tree Tree (Role → Tree) (Owner → Tree) Tree) → is_statement (control_step x) ≡ true
control_step_root (Control-F.Case at e ss) = clause_root e _
control_step_root _ = refl

pub control_root : (c : Control) → is_statement (view_control c) ≡ true
control_root c = ap is_statement (fold_out-Control Tree Tree Tree Tree Tree Tree Tree (Role → Tree) (Owner → Tree) Tree access_step control_step expr_step jsx_step key_step link_step operation_step pat_step prop_step stmt_step c) ∙ control_step_root _

stmt_root_rolled : (y : Stmt-F Access Control Expr Jsx Key Link Operation Pat Prop Stmt) → is_statement (view_stmt (roll-Stmt y)) ≡ true
stmt_root_rolled (Stmt-F.Block at ss) = ap (λ e. is_statement (view_stmt e)) (stmt.rolls-Block at ss) ∙ ap is_statement (view-Stmt-Block at ss)
stmt_root_rolled (Stmt-F.Var at w ps) = ap (λ e. is_statement (view_stmt e)) (stmt.rolls-Var at w ps) ∙ ap is_statement (view-Stmt-Var at w ps)
stmt_root_rolled (Stmt-F.Empty at) = ap (λ e. is_statement (view_stmt e)) (stmt.rolls-Empty at) ∙ ap is_statement (view-Stmt-Empty at)
stmt_root_rolled (Stmt-F.Expr at e) = ap (λ e. is_statement (view_stmt e)) (stmt.rolls-Expr at e) ∙ ap is_statement (view-Stmt-Expr at e)
stmt_root_rolled (Stmt-F.Control a) = ap (λ e. is_statement (view_stmt e)) (stmt.rolls-Control a) ∙ ap is_statement (view-Stmt-Control a) ∙ control_root a
stmt_root_rolled (Stmt-F.Continue at a) = ap (λ e. is_statement (view_stmt e)) (stmt.rolls-Continue at a) ∙ ap is_statement (view-Stmt-Continue at a)
stmt_root_rolled (Stmt-F.Break at a) = ap (λ e. is_statement (view_stmt e)) (stmt.rolls-Break at a) ∙ ap is_statement (view-Stmt-Break at a)
stmt_root_rolled (Stmt-F.Return at e) = ap (λ e. is_statement (view_stmt e)) (stmt.rolls-Return at e) ∙ ap is_statement (view-Stmt-Return at e)
stmt_root_rolled (Stmt-F.Throw at e) = ap (λ e. is_statement (view_stmt e)) (stmt.rolls-Throw at e) ∙ ap is_statement (view-Stmt-Throw at e)
stmt_root_rolled (Stmt-F.Debugger at) = ap (λ e. is_statement (view_stmt e)) (stmt.rolls-Debugger at) ∙ ap is_statement (view-Stmt-Debugger at)
stmt_root_rolled (Stmt-F.«Stmt::Function» at a ps ds ss) = ap (λ e. is_statement (view_stmt e)) (stmt.rolls-Function at a ps ds ss) ∙ ap is_statement (view-Stmt-Function at a ps ds ss)
stmt_root_rolled (Stmt-F.«Stmt::Class» at a e ms) = ap (λ e. is_statement (view_stmt e)) (stmt.rolls-Class at a e ms) ∙ ap is_statement (view-Stmt-Class at a e ms)

pub stmt_root : (x : Stmt) → is_statement (view_stmt x) ≡ true
stmt_root x = ap (λ e. is_statement (view_stmt e)) (sym (roll-out-Stmt x)) ∙ stmt_root_rolled (out-Stmt x)

-- ---- what is no function and no class

abbrev is_other : Tree → Bool
is_other (leaf s x) = true
is_other (node (expression k) cs) = true
is_other (node (jsx k) cs) = true
is_other t = false

other_front : (f : Kind → Forest → Tree) (t : Tree) → is_other t ≡ true → front_of_code f t ≡ t
other_front f (leaf s x) h = refl
other_front f (node (expression k) cs) h = refl
other_front f (node (jsx k) cs) h = refl
other_front f (node (program k) cs) h = absurd (false≢true h)
other_front f (node (statement k) cs) h = absurd (false≢true h)
other_front f (node (function k) cs) h = absurd (false≢true h)
other_front f (list ts) h = absurd (false≢true h)

other_rest : (f : Kind → Forest → Tree) (t : Tree) → is_other t ≡ true → rest_of_code f t ≡ t
other_rest f (leaf s x) h = refl
other_rest f (node (expression k) cs) h = refl
other_rest f (node (jsx k) cs) h = refl
other_rest f (node (program k) cs) h = absurd (false≢true h)
other_rest f (node (statement k) cs) h = absurd (false≢true h)
other_rest f (node (function k) cs) h = absurd (false≢true h)
other_rest f (list ts) h = absurd (false≢true h)

other_but : (f : Kind → Forest → Tree) (t : Tree) → is_other t ≡ true → but_code f t ≡ within f t
other_but f (leaf s x) h = refl
other_but f (node (expression k) cs) h = refl
other_but f (node (jsx k) cs) h = refl
other_but f (node (program k) cs) h = absurd (false≢true h)
other_but f (node (statement k) cs) h = absurd (false≢true h)
other_but f (node (function k) cs) h = absurd (false≢true h)
other_but f (list ts) h = absurd (false≢true h)

operation_step_other : (x : Operation-F Tree Tree Tree Tree Tree Tree Tree (Role → Tree) (Owner → Tree) Tree) → is_other (operation_step x) ≡ true
operation_step_other Operation-F.«Operation::Hole» = refl
operation_step_other _ = refl

operation_other : (o : Operation) → is_other (view_operation o) ≡ true
operation_other o = ap is_other (fold_out-Operation Tree Tree Tree Tree Tree Tree Tree (Role → Tree) (Owner → Tree) Tree access_step control_step expr_step jsx_step key_step link_step operation_step pat_step prop_step stmt_step o) ∙ operation_step_other _

pub operation_front : (f : Kind → Forest → Tree) (o : Operation) → front_of_code f (view_operation o) ≡ view_operation o
operation_front f o = other_front f (view_operation o) (operation_other o)

pub operation_rest : (f : Kind → Forest → Tree) (o : Operation) → rest_of_code f (view_operation o) ≡ view_operation o
operation_rest f o = other_rest f (view_operation o) (operation_other o)

pub operation_but : (f : Kind → Forest → Tree) (o : Operation) → but_code f (view_operation o) ≡ within f (view_operation o)
operation_but f o = other_but f (view_operation o) (operation_other o)

access_step_other : (x : Access-F Tree Tree Tree Tree Tree Tree Tree (Role → Tree) (Owner → Tree) Tree) → is_other (access_step x) ≡ true
access_step_other (Access-F.Tagged at a here ps xs) = refl
access_step_other _ = refl

access_other : (o : Access) → is_other (view_access o) ≡ true
access_other o = ap is_other (fold_out-Access Tree Tree Tree Tree Tree Tree Tree (Role → Tree) (Owner → Tree) Tree access_step control_step expr_step jsx_step key_step link_step operation_step pat_step prop_step stmt_step o) ∙ access_step_other _

pub access_front : (f : Kind → Forest → Tree) (o : Access) → front_of_code f (view_access o) ≡ view_access o
access_front f o = other_front f (view_access o) (access_other o)

pub access_rest : (f : Kind → Forest → Tree) (o : Access) → rest_of_code f (view_access o) ≡ view_access o
access_rest f o = other_rest f (view_access o) (access_other o)

pub access_but : (f : Kind → Forest → Tree) (o : Access) → but_code f (view_access o) ≡ within f (view_access o)
access_but f o = other_but f (view_access o) (access_other o)

container_other : (e : Option (Box Tree Global)) → is_other (container e) ≡ true
container_other None = refl
container_other (Some e) = refl

jsx_step_other : (x : Jsx-F Tree Tree Tree Tree Tree Tree Tree (Role → Tree) (Owner → Tree) Tree) → is_other (jsx_step x) ≡ true
jsx_step_other (Jsx-F.Container at e) = container_other e
jsx_step_other _ = refl

jsx_other : (o : Jsx) → is_other (view_jsx o) ≡ true
jsx_other o = ap is_other (fold_out-Jsx Tree Tree Tree Tree Tree Tree Tree (Role → Tree) (Owner → Tree) Tree access_step control_step expr_step jsx_step key_step link_step operation_step pat_step prop_step stmt_step o) ∙ jsx_step_other _

pub jsx_front : (f : Kind → Forest → Tree) (o : Jsx) → front_of_code f (view_jsx o) ≡ view_jsx o
jsx_front f o = other_front f (view_jsx o) (jsx_other o)

pub jsx_rest : (f : Kind → Forest → Tree) (o : Jsx) → rest_of_code f (view_jsx o) ≡ view_jsx o
jsx_rest f o = other_rest f (view_jsx o) (jsx_other o)

-- JSX isn't entered
container_within : (f : Kind → Forest → Tree) (e : Option (Box Tree Global)) → within f (container e) ≡ container e
container_within f None = refl
container_within f (Some e) = refl

jsx_step_within : (f : Kind → Forest → Tree) (x : Jsx-F Tree Tree Tree Tree Tree Tree Tree (Role → Tree) (Owner → Tree) Tree) → within f (jsx_step x) ≡ jsx_step x
jsx_step_within f (Jsx-F.Container at e) = container_within f e
jsx_step_within f _ = refl

jsx_within : (f : Kind → Forest → Tree) (j : Jsx) → within f (view_jsx j) ≡ view_jsx j
jsx_within f j = subst (λ u. within f u ≡ u) (sym (fold_out-Jsx Tree Tree Tree Tree Tree Tree Tree (Role → Tree) (Owner → Tree) Tree access_step control_step expr_step jsx_step key_step link_step operation_step pat_step prop_step stmt_step j)) (jsx_step_within f _)

pub jsx_but : (f : Kind → Forest → Tree) (j : Jsx) → but_code f (view_jsx j) ≡ view_jsx j
jsx_but f j = other_but f (view_jsx j) (jsx_other j) ∙ jsx_within f j

pub word_but : (f : Kind → Forest → Tree) (w : Word) → but_code f (view_word w) ≡ view_word w
word_but f words.This = refl
word_but f words.Null = refl
word_but f words.True = refl
word_but f words.False = refl
word_but f words.ImportMeta = refl
word_but f words.NewTarget = refl

pub word_front : (f : Kind → Forest → Tree) (w : Word) → front_of_code f (view_word w) ≡ view_word w
word_front f words.This = refl
word_front f words.Null = refl
word_front f words.True = refl
word_front f words.False = refl
word_front f words.ImportMeta = refl
word_front f words.NewTarget = refl

pub word_rest : (f : Kind → Forest → Tree) (w : Word) → rest_of_code f (view_word w) ≡ view_word w
word_rest f words.This = refl
word_rest f words.Null = refl
word_rest f words.True = refl
word_rest f words.False = refl
word_rest f words.ImportMeta = refl
word_rest f words.NewTarget = refl

pub template_front : (f : Kind → Forest → Tree) (ps : List Text) (ts : List Tree) → front_of_code f (template false ps ts) ≡ template false ps ts
template_front f [] ts = refl
template_front f (p ∷ []) [] = refl
template_front f (p ∷ []) (t ∷ ts) = refl
template_front f (p ∷ q ∷ ps) ts = refl

pub template_rest : (f : Kind → Forest → Tree) (ps : List Text) (ts : List Tree) → rest_of_code f (template false ps ts) ≡ template false ps ts
template_rest f [] ts = refl
template_rest f (p ∷ []) [] = refl
template_rest f (p ∷ []) (t ∷ ts) = refl
template_rest f (p ∷ q ∷ ps) ts = refl

-- statements that hold others
clause_front : (f : Kind → Forest → Tree) (e : Option (Box Tree Global)) (u : Tree) → front_of_code f (clause e u) ≡ clause e u
clause_front f None u = refl
clause_front f (Some e) u = refl

control_step_front : (f : Kind → Forest → Tree) (x : Control-F Tree Tree Tree Tree Tree Tree Tree (Role → Tree) (Owner → Tree) Tree) → front_of_code f (control_step x) ≡ control_step x
control_step_front f (Control-F.Case at e ss) = clause_front f e _
control_step_front f _ = refl

pub control_front : (f : Kind → Forest → Tree) (c : Control) → front_of_code f (view_control c) ≡ view_control c
control_front f c = subst (λ u. front_of_code f u ≡ u) (sym (fold_out-Control Tree Tree Tree Tree Tree Tree Tree (Role → Tree) (Owner → Tree) Tree access_step control_step expr_step jsx_step key_step link_step operation_step pat_step prop_step stmt_step c)) (control_step_front f _)

clause_rest : (f : Kind → Forest → Tree) (e : Option (Box Tree Global)) (u : Tree) → rest_of_code f (clause e u) ≡ clause e u
clause_rest f None u = refl
clause_rest f (Some e) u = refl

control_step_rest : (f : Kind → Forest → Tree) (x : Control-F Tree Tree Tree Tree Tree Tree Tree (Role → Tree) (Owner → Tree) Tree) → rest_of_code f (control_step x) ≡ control_step x
control_step_rest f (Control-F.Case at e ss) = clause_rest f e _
control_step_rest f _ = refl

pub control_rest : (f : Kind → Forest → Tree) (c : Control) → rest_of_code f (view_control c) ≡ view_control c
control_rest f c = subst (λ u. rest_of_code f u ≡ u) (sym (fold_out-Control Tree Tree Tree Tree Tree Tree Tree (Role → Tree) (Owner → Tree) Tree access_step control_step expr_step jsx_step key_step link_step operation_step pat_step prop_step stmt_step c)) (control_step_rest f _)

clause_but : (f : Kind → Forest → Tree) (e : Option (Box Tree Global)) (u : Tree) → but_code f (clause e u) ≡ visited f (clause e u)
clause_but f None u = refl
clause_but f (Some e) u = refl

control_step_but : (f : Kind → Forest → Tree) (x : Control-F Tree Tree Tree Tree Tree Tree Tree (Role → Tree) (Owner → Tree) Tree) → but_code f (control_step x) ≡ visited f (control_step x)
control_step_but f (Control-F.Case at e ss) = clause_but f e _
control_step_but f _ = refl

pub control_but : (f : Kind → Forest → Tree) (c : Control) → but_code f (view_control c) ≡ visited f (view_control c)
control_but f c = subst (λ u. but_code f u ≡ visited f u) (sym (fold_out-Control Tree Tree Tree Tree Tree Tree Tree (Role → Tree) (Owner → Tree) Tree access_step control_step expr_step jsx_step key_step link_step operation_step pat_step prop_step stmt_step c)) (control_step_but f _)

pub ruleset codes_of = (operation_front, operation_rest, operation_but, access_front, access_rest, access_but, jsx_front, jsx_rest, jsx_but, word_front, word_rest, word_but, template_front, template_rest, control_front, control_rest, control_but)

-- ---- all parts of a node are visited, one after the other

operation_step_all : (f : Kind → Forest → Tree) (x : Operation-F Tree Tree Tree Tree Tree Tree Tree (Role → Tree) (Owner → Tree) Tree) → with_part 2 f (with_part 1 f (with_part 0 f (operation_step x))) ≡ within f (operation_step x)
operation_step_all f (Operation-F.Update at o side.Before a) = refl
operation_step_all f (Operation-F.Update at o side.After a) = refl
operation_step_all f Operation-F.«Operation::Hole» = refl
operation_step_all f _ = refl

pub operation_all : (f : Kind → Forest → Tree) (o : Operation) → with_part 2 f (with_part 1 f (with_part 0 f (view_operation o))) ≡ within f (view_operation o)
operation_all f o = subst (λ u. with_part 2 f (with_part 1 f (with_part 0 f u)) ≡ within f u) (sym (fold_out-Operation Tree Tree Tree Tree Tree Tree Tree (Role → Tree) (Owner → Tree) Tree access_step control_step expr_step jsx_step key_step link_step operation_step pat_step prop_step stmt_step o)) (operation_step_all f _)

access_step_all : (f : Kind → Forest → Tree) (x : Access-F Tree Tree Tree Tree Tree Tree Tree (Role → Tree) (Owner → Tree) Tree) → with_part 1 f (with_part 0 f (access_step x)) ≡ within f (access_step x)
access_step_all f (Access-F.Tagged at a here ps xs) = refl
access_step_all f _ = refl

pub access_all : (f : Kind → Forest → Tree) (a : Access) → with_part 1 f (with_part 0 f (view_access a)) ≡ within f (view_access a)
access_all f a = subst (λ u. with_part 1 f (with_part 0 f u) ≡ within f u) (sym (fold_out-Access Tree Tree Tree Tree Tree Tree Tree (Role → Tree) (Owner → Tree) Tree access_step control_step expr_step jsx_step key_step link_step operation_step pat_step prop_step stmt_step a)) (access_step_all f _)

member_step_all : (f : Kind → Forest → Tree) (x : Prop-F Tree Tree Tree Tree Tree Tree Tree (Role → Tree) (Owner → Tree) Tree) (o : Owner) → with_part 2 f (with_part 1 f (with_part 0 f (prop_step x o))) ≡ visited f (prop_step x o)
member_step_all f (Prop-F.Field at p k e) o = refl
member_step_all f _ o = refl

pub member_all : (f : Kind → Forest → Tree) (m : Prop) (o : Owner) → with_part 2 f (with_part 1 f (with_part 0 f (view_member m o))) ≡ visited f (view_member m o)
member_all f m o = subst (λ u. with_part 2 f (with_part 1 f (with_part 0 f (u o))) ≡ visited f (u o)) (sym (fold_out-Prop Tree Tree Tree Tree Tree Tree Tree (Role → Tree) (Owner → Tree) Tree access_step control_step expr_step jsx_step key_step link_step operation_step pat_step prop_step stmt_step m)) (member_step_all f _ o)

clause_all : (f : Kind → Forest → Tree) (e : Option (Box Tree Global)) (u : Tree) → with_part 3 f (with_part 2 f (with_second f (with_test f (clause e u)))) ≡ visited f (clause e u)
clause_all f None u = refl
clause_all f (Some e) u = refl

control_step_all : (f : Kind → Forest → Tree) (x : Control-F Tree Tree Tree Tree Tree Tree Tree (Role → Tree) (Owner → Tree) Tree) → with_part 3 f (with_part 2 f (with_second f (with_test f (control_step x)))) ≡ visited f (control_step x)
control_step_all f (Control-F.Case at e ss) = clause_all f e _
control_step_all f _ = refl

pub control_all : (f : Kind → Forest → Tree) (c : Control) → with_part 3 f (with_part 2 f (with_second f (with_test f (view_control c)))) ≡ visited f (view_control c)
control_all f c = subst (λ u. with_part 3 f (with_part 2 f (with_second f (with_test f u))) ≡ visited f u) (sym (fold_out-Control Tree Tree Tree Tree Tree Tree Tree (Role → Tree) (Owner → Tree) Tree access_step control_step expr_step jsx_step key_step link_step operation_step pat_step prop_step stmt_step c)) (control_step_all f _)

-- functions and classes
rest_behind_front : (f : Kind → Forest → Tree) (cs : Forest) → rest_visited f (front_visited f cs) ≡ visiteds f cs
rest_behind_front f none = refl
rest_behind_front f (part t none) = refl
rest_behind_front f (part t (part u us)) = refl

pub code_all : (f : Kind → Forest → Tree) (t : Tree) → rest_of_code f (front_of_code f (but_code f t)) ≡ within f t
code_all f (leaf s x) = refl
code_all f (list ts) = refl
code_all f (node (function FunctionExpr) cs) = ap (node (function FunctionExpr)) (rest_behind_front f cs)
code_all f (node (function ClassExpr) cs) = ap (node (function ClassExpr)) (rest_behind_front f cs)
code_all f (node (statement FunctionDecl) cs) = ap (node (statement FunctionDecl)) (rest_behind_front f cs)
code_all f (node (statement ClassDecl) cs) = ap (node (statement ClassDecl)) (rest_behind_front f cs)
code_all f (node (jsx k) cs) = refl
code_all f (node (program k) cs) = refl
code_all f (node (expression k) cs) = refl
code_all f (node (statement k) cs) = refl
code_all f (node (function k) cs) = refl

pub statement_visit : (f : Kind → Forest → Tree) (t : Tree) → is_statement t ≡ true → within f t ≡ visited f t
statement_visit f (node (statement k) cs) h = refl
statement_visit f (node (program k) cs) h = absurd (false≢true h)
statement_visit f (node (function k) cs) h = absurd (false≢true h)
statement_visit f (node (expression k) cs) h = absurd (false≢true h)
statement_visit f (node (jsx k) cs) h = absurd (false≢true h)
statement_visit f (leaf s x) h = absurd (false≢true h)
statement_visit f (list ts) h = absurd (false≢true h)

-- patterns
first_behind_tail : (f : Kind → Forest → Tree) (cs : Forest) → nth_visited 0 f (tail_visited f cs) ≡ visiteds f cs
first_behind_tail f none = refl
first_behind_tail f (part t ts) = refl

pub pattern_all : (f : Kind → Forest → Tree) (t : Tree) → but_half f (with_half f t) ≡ but_pair f t
pattern_all f (leaf s x) = refl
pattern_all f (list ts) = refl
pattern_all f (node (statement Declarator) cs) = ap (node (statement Declarator)) (first_behind_tail f cs)
pattern_all f (node (function (WithInit r)) cs) = ap (node (function (WithInit r))) (first_behind_tail f cs)
pattern_all f (node (function (PropertyPat r)) cs) = ap (node (function (PropertyPat r))) (first_behind_tail f cs)
pattern_all f (node (function (ShorthandInit r)) cs) = ap (node (function (ShorthandInit r))) (first_behind_tail f cs)
pattern_all f (node (function ParenTarget) cs) = ap (node (function ParenTarget)) (first_behind_tail f cs)
pattern_all f (node (program k) cs) = refl
pattern_all f (node (expression k) cs) = refl
pattern_all f (node (jsx k) cs) = refl
pattern_all f (node (statement k) cs) = refl
pattern_all f (node (function k) cs) = refl

-- an expression that is a target has no halves
pub root_first : (f : Kind → Forest → Tree) (t : Tree) → is_root t ≡ true → but_half f t ≡ visited f t
root_first f (leaf s x) h = refl
root_first f (node (expression k) cs) h = refl
root_first f (node (function FunctionExpr) cs) h = refl
root_first f (node (function ClassExpr) cs) h = refl
root_first f (node (jsx k) cs) h = refl
root_first f (node (program k) cs) h = absurd (false≢true h)
root_first f (node (statement k) cs) h = absurd (false≢true h)
root_first f (node (function k) cs) h = absurd (false≢true h)
root_first f (list ts) h = absurd (false≢true h)

pub root_second : (f : Kind → Forest → Tree) (t : Tree) → is_root t ≡ true → t ≡ with_half f t
root_second f (leaf s x) h = refl
root_second f (node (expression k) cs) h = refl
root_second f (node (function FunctionExpr) cs) h = refl
root_second f (node (function ClassExpr) cs) h = refl
root_second f (node (jsx k) cs) h = refl
root_second f (node (program k) cs) h = absurd (false≢true h)
root_second f (node (statement k) cs) h = absurd (false≢true h)
root_second f (node (function k) cs) h = absurd (false≢true h)
root_second f (list ts) h = absurd (false≢true h)
