-- Which trees the code's nodes are seen as: by the layer of each type.
use Rattle.std.proofs.Common.{◌≡◌, ℕ, List, [], ◌∷◌, map, Bool, true, false, refl, ap, sym, ◌∙◌, subst, Option, Some, None, Box, Global}
use Rattle.std.proofs.lemmas.Bool.{false≢true}
use Rattle.std.specs.Prelude.{◌&&◌, ◌||◌}
use Rattle.jsx_tree.specs.Kinds.{Role, program, statement, function, FunctionExpr, ClassExpr, jsx, Tree, leaf, node, list, expression}
use Rattle.jsx_tree.specs.Parentheses.{is_in}
use Rattle.jsx_tree.specs.declared.text.Text.{Text}
use Rattle.jsx_tree.specs.declared.text.Word.{Word}
use Rattle.jsx_tree.specs.declared.text.Word.TheVariants as words
use Rattle.jsx_tree.specs.declared.operator.UpdateSide.TheVariants as side
use Rattle.jsx_tree.specs.declared.tree.Expr.{Expr}
use Rattle.jsx_tree.specs.declared.tree.Expr.TheVariants as expr
use Rattle.jsx_tree.specs.declared.tree.Stmt.TheVariants as stmt
use Rattle.jsx_tree.specs.declared.tree.Operation.{Operation}
use Rattle.jsx_tree.specs.declared.tree.Access.{Access}
use Rattle.jsx_tree.specs.declared.tree.Jsx.{Jsx}
use Rattle.jsx_tree.specs.declared.tree.Key.{Key}
use Rattle.jsx_tree.specs.declared.tree.Link.{Link}
use Rattle.jsx_tree.specs.declared.tree.Pat.{Pat}
use Rattle.jsx_tree.specs.declared.tree.Prop.{Prop}
use Rattle.jsx_tree.specs.declared.tree.Stmt.{Stmt}
use Rattle.jsx_tree.specs.declared.tree.Control.{Control}
use Rattle.jsx_tree.specs.View.{inside, template, clause, container, view_word, view_expr, view_operation, view_access, view_jsx, view_member, view_stmt, view_control, access_step, control_step, expr_step, jsx_step, key_step, link_step, operation_step, pat_step, prop_step, stmt_step, Owner}
use Rattle.jsx_tree.specs.declared.tree.Access.TheOpen.{Access-F, Control-F, Expr-F, Jsx-F, Operation-F, Prop-F, Stmt-F}
use Rattle.jsx_tree.specs.declared.tree.Access.TheViews.{roll-Expr, out-Expr, roll-out-Expr, roll-Stmt, out-Stmt, roll-out-Stmt}
use Rattle.jsx_tree.specs.declared.tree.Access.TheFolds.{fold_out-Access, fold_out-Control, fold_out-Jsx, fold_out-Operation, fold_out-Prop}
use Rattle.jsx_tree.proofs.Views.{view-Expr-Ident, view-Expr-Literal, view-Expr-Word, view-Expr-Operation, view-Expr-Access, view-Expr-Array, view-Expr-Object, view-Expr-Template, view-Expr-Function, view-Expr-Class, view-Expr-Jsx, view-Expr-Paren, view-Stmt-Block, view-Stmt-Var, view-Stmt-Empty, view-Stmt-Expr, view-Stmt-Control, view-Stmt-Continue, view-Stmt-Break, view-Stmt-Return, view-Stmt-Throw, view-Stmt-Debugger, view-Stmt-Function, view-Stmt-Class}
use Rattle.jsx_scope.specs.declared.place.Place.TheVariants as place
use Rattle.jsx_scope.specs.Walk.{rank, walk, inner, with_part, finished, with_code, but_code}
use Rattle.jsx_scope.proofs.Inner.{is_list, inner_is, walk_bare, level_zero, not_below}

-- ---- the roots of expressions

-- what a tree of an expression is
abbrev pub is_root : Tree → Bool
is_root (leaf s x) = true
is_root (node (expression k) cs) = true
is_root (node (function FunctionExpr) cs) = true
is_root (node (function ClassExpr) cs) = true
is_root (node (jsx k) cs) = true
is_root t = false

pub root_no_list : (t : Tree) → is_root t ≡ true → is_list t ≡ false
root_no_list (leaf s x) h = refl
root_no_list (node k cs) h = refl
root_no_list (list ts) h = absurd (false≢true h)

template_root : (ps : List Text) (ts : List Tree) → is_root (template false ps ts) ≡ true
template_root [] ts = refl
template_root (p ∷ []) [] = refl
template_root (p ∷ []) (t ∷ ts) = refl
template_root (p ∷ q ∷ ps) ts = refl

container_root : (e : Option (Box Tree Global)) → is_root (container e) ≡ true
container_root None = refl
container_root (Some e) = refl

word_root : (w : Word) → is_root (view_word w) ≡ true
word_root words.This = refl
word_root words.Null = refl
word_root words.True = refl
word_root words.False = refl
word_root words.ImportMeta = refl
word_root words.NewTarget = refl

operation_step_root : (x : Operation-F Tree Tree Tree Tree Tree Tree Tree (Role → Tree) (Owner → Tree) Tree) → is_root (operation_step x) ≡ true
operation_step_root Operation-F.«Operation::Hole» = refl
operation_step_root _ = refl

pub operation_root : (o : Operation) → is_root (view_operation o) ≡ true
operation_root o = ap is_root (fold_out-Operation Tree Tree Tree Tree Tree Tree Tree (Role → Tree) (Owner → Tree) Tree access_step control_step expr_step jsx_step key_step link_step operation_step pat_step prop_step stmt_step o) ∙ operation_step_root _

access_step_root : (x : Access-F Tree Tree Tree Tree Tree Tree Tree (Role → Tree) (Owner → Tree) Tree) → is_root (access_step x) ≡ true
access_step_root (Access-F.Tagged at a here ps xs) = refl
access_step_root _ = refl

pub access_root : (a : Access) → is_root (view_access a) ≡ true
access_root a = ap is_root (fold_out-Access Tree Tree Tree Tree Tree Tree Tree (Role → Tree) (Owner → Tree) Tree access_step control_step expr_step jsx_step key_step link_step operation_step pat_step prop_step stmt_step a) ∙ access_step_root _

jsx_step_root : (x : Jsx-F Tree Tree Tree Tree Tree Tree Tree (Role → Tree) (Owner → Tree) Tree) → is_root (jsx_step x) ≡ true
jsx_step_root (Jsx-F.Container at e) = container_root e
jsx_step_root _ = refl

pub jsx_root : (j : Jsx) → is_root (view_jsx j) ≡ true
jsx_root j = ap is_root (fold_out-Jsx Tree Tree Tree Tree Tree Tree Tree (Role → Tree) (Owner → Tree) Tree access_step control_step expr_step jsx_step key_step link_step operation_step pat_step prop_step stmt_step j) ∙ jsx_step_root _

expr_root_rolled : (y : Expr-F Access Control Expr Jsx Key Link Operation Pat Prop Stmt) → is_root (view_expr (roll-Expr y)) ≡ true
expr_root_rolled (Expr-F.«Expr::Ident» at a) = ap (λ e. is_root (view_expr e)) (expr.rolls-Ident at a) ∙ ap is_root (view-Expr-Ident at a)
expr_root_rolled (Expr-F.«Expr::Literal» at k a) = ap (λ e. is_root (view_expr e)) (expr.rolls-Literal at k a) ∙ ap is_root (view-Expr-Literal at k a)
expr_root_rolled (Expr-F.Word at w) = ap (λ e. is_root (view_expr e)) (expr.rolls-Word at w) ∙ ap is_root (view-Expr-Word at w) ∙ word_root w
expr_root_rolled (Expr-F.Operation a) = ap (λ e. is_root (view_expr e)) (expr.rolls-Operation a) ∙ ap is_root (view-Expr-Operation a) ∙ operation_root a
expr_root_rolled (Expr-F.Access a) = ap (λ e. is_root (view_expr e)) (expr.rolls-Access a) ∙ ap is_root (view-Expr-Access a) ∙ access_root a
expr_root_rolled (Expr-F.«Expr::Array» at xs) = ap (λ e. is_root (view_expr e)) (expr.rolls-Array at xs) ∙ ap is_root (view-Expr-Array at xs)
expr_root_rolled (Expr-F.«Expr::Object» at xs) = ap (λ e. is_root (view_expr e)) (expr.rolls-Object at xs) ∙ ap is_root (view-Expr-Object at xs)
expr_root_rolled (Expr-F.Template at ps xs) = ap (λ e. is_root (view_expr e)) (expr.rolls-Template at ps xs) ∙ ap is_root (view-Expr-Template at ps xs) ∙ template_root ps.items (map (inside view_expr) xs.items)
expr_root_rolled (Expr-F.«Expr::Function» at a ps ds ss) = ap (λ e. is_root (view_expr e)) (expr.rolls-Function at a ps ds ss) ∙ ap is_root (view-Expr-Function at a ps ds ss)
expr_root_rolled (Expr-F.«Expr::Class» at a e ms) = ap (λ e. is_root (view_expr e)) (expr.rolls-Class at a e ms) ∙ ap is_root (view-Expr-Class at a e ms)
expr_root_rolled (Expr-F.Jsx a) = ap (λ e. is_root (view_expr e)) (expr.rolls-Jsx a) ∙ ap is_root (view-Expr-Jsx a) ∙ jsx_root a.value
expr_root_rolled (Expr-F.«Expr::Paren» at a) = ap (λ e. is_root (view_expr e)) (expr.rolls-Paren at a) ∙ ap is_root (view-Expr-Paren at a)

pub expr_root : (x : Expr) → is_root (view_expr x) ≡ true
expr_root x = ap (λ e. is_root (view_expr e)) (sym (roll-out-Expr x)) ∙ expr_root_rolled (out-Expr x)

-- ---- the roots of statements

-- a node of a statement
abbrev pub is_statement : Tree → Bool
is_statement (node (statement k) cs) = true
is_statement t = false

pub statement_no_list : (t : Tree) → is_statement t ≡ true → is_list t ≡ false
statement_no_list (leaf s x) h = refl
statement_no_list (node k cs) h = refl
statement_no_list (list ts) h = absurd (false≢true h)

pub statement_no_in : (t : Tree) → is_statement t ≡ true → is_in t ≡ false
statement_no_in (leaf s x) h = refl
statement_no_in (list ts) h = refl
statement_no_in (node (statement k) cs) h = refl
statement_no_in (node (expression k) cs) h = absurd (false≢true h)
statement_no_in (node (program k) cs) h = refl
statement_no_in (node (function k) cs) h = refl
statement_no_in (node (jsx k) cs) h = refl

clause_root : (e : Option (Box Tree Global)) (u : Tree) → is_statement (clause e u) ≡ true
clause_root None u = refl
clause_root (Some e) u = refl

control_step_root : (x : Control-F Tree Tree Tree Tree Tree Tree Tree (Role → Tree) (Owner → Tree) Tree) → is_statement (control_step x) ≡ true
control_step_root (Control-F.Case at e ss) = clause_root e _
control_step_root _ = refl

pub control_root : (c : Control) → is_statement (view_control c) ≡ true
control_root c = ap is_statement (fold_out-Control Tree Tree Tree Tree Tree Tree Tree (Role → Tree) (Owner → Tree) Tree access_step control_step expr_step jsx_step key_step link_step operation_step pat_step prop_step stmt_step c) ∙ control_step_root _

stmt_root_rolled : (y : Stmt-F Access Control Expr Jsx Key Link Operation Pat Prop Stmt) → is_statement (view_stmt (roll-Stmt y)) ≡ true
stmt_root_rolled (Stmt-F.Block at ss) = ap (λ e. is_statement (view_stmt e)) (stmt.rolls-Block at ss) ∙ ap is_statement (view-Stmt-Block at ss)
stmt_root_rolled (Stmt-F.Var at w ps) = ap (λ e. is_statement (view_stmt e)) (stmt.rolls-Var at w ps) ∙ ap is_statement (view-Stmt-Var at w ps)
stmt_root_rolled (Stmt-F.Empty at) = ap (λ e. is_statement (view_stmt e)) (stmt.rolls-Empty at) ∙ ap is_statement (view-Stmt-Empty at)
stmt_root_rolled (Stmt-F.Expr at e) = ap (λ e. is_statement (view_stmt e)) (stmt.rolls-Expr at e) ∙ ap is_statement (view-Stmt-Expr at e)
stmt_root_rolled (Stmt-F.Control a) = ap (λ e. is_statement (view_stmt e)) (stmt.rolls-Control a) ∙ ap is_statement (view-Stmt-Control a) ∙ control_root a
stmt_root_rolled (Stmt-F.Continue at a) = ap (λ e. is_statement (view_stmt e)) (stmt.rolls-Continue at a) ∙ ap is_statement (view-Stmt-Continue at a)
stmt_root_rolled (Stmt-F.Break at a) = ap (λ e. is_statement (view_stmt e)) (stmt.rolls-Break at a) ∙ ap is_statement (view-Stmt-Break at a)
stmt_root_rolled (Stmt-F.Return at e) = ap (λ e. is_statement (view_stmt e)) (stmt.rolls-Return at e) ∙ ap is_statement (view-Stmt-Return at e)
stmt_root_rolled (Stmt-F.Throw at e) = ap (λ e. is_statement (view_stmt e)) (stmt.rolls-Throw at e) ∙ ap is_statement (view-Stmt-Throw at e)
stmt_root_rolled (Stmt-F.Debugger at) = ap (λ e. is_statement (view_stmt e)) (stmt.rolls-Debugger at) ∙ ap is_statement (view-Stmt-Debugger at)
stmt_root_rolled (Stmt-F.«Stmt::Function» at a ps ds ss) = ap (λ e. is_statement (view_stmt e)) (stmt.rolls-Function at a ps ds ss) ∙ ap is_statement (view-Stmt-Function at a ps ds ss)
stmt_root_rolled (Stmt-F.«Stmt::Class» at a e ms) = ap (λ e. is_statement (view_stmt e)) (stmt.rolls-Class at a e ms) ∙ ap is_statement (view-Stmt-Class at a e ms)

pub stmt_root : (x : Stmt) → is_statement (view_stmt x) ≡ true
stmt_root x = ap (λ e. is_statement (view_stmt e)) (sym (roll-out-Stmt x)) ∙ stmt_root_rolled (out-Stmt x)

-- ---- how many parts the nodes of a type have

operation_step_few : (bare : Bool) (x : Operation-F Tree Tree Tree Tree Tree Tree Tree (Role → Tree) (Owner → Tree) Tree) → finished (with_part 3 bare (operation_step x)) ≡ operation_step x
operation_step_few bare (Operation-F.Update at o side.Before a) = refl
operation_step_few bare (Operation-F.Update at o side.After a) = refl
operation_step_few bare _ = refl

pub operation_done : (bare : Bool) (t : Tree) (o : Operation) → view_operation o ≡ with_part 2 bare (with_part 1 bare (with_part 0 bare t)) → view_operation o ≡ inner bare t
operation_done bare t o e =
    sym (subst (λ u. finished (with_part 3 bare u) ≡ u) (sym (fold_out-Operation Tree Tree Tree Tree Tree Tree Tree (Role → Tree) (Owner → Tree) Tree access_step control_step expr_step jsx_step key_step link_step operation_step pat_step prop_step stmt_step o)) (operation_step_few bare _))
    ∙ ap (λ u. finished (with_part 3 bare u)) e ∙ inner_is bare t

access_step_few : (bare : Bool) (x : Access-F Tree Tree Tree Tree Tree Tree Tree (Role → Tree) (Owner → Tree) Tree) → finished (with_part 3 bare (with_part 2 bare (access_step x))) ≡ access_step x
access_step_few bare (Access-F.Tagged at a here ps xs) = refl
access_step_few bare _ = refl

pub access_done : (bare : Bool) (t : Tree) (a : Access) → view_access a ≡ with_part 1 bare (with_part 0 bare t) → view_access a ≡ inner bare t
access_done bare t a e =
    sym (subst (λ u. finished (with_part 3 bare (with_part 2 bare u)) ≡ u) (sym (fold_out-Access Tree Tree Tree Tree Tree Tree Tree (Role → Tree) (Owner → Tree) Tree access_step control_step expr_step jsx_step key_step link_step operation_step pat_step prop_step stmt_step a)) (access_step_few bare _))
    ∙ ap (λ u. finished (with_part 3 bare (with_part 2 bare u))) e ∙ inner_is bare t

member_step_few : (bare : Bool) (x : Prop-F Tree Tree Tree Tree Tree Tree Tree (Role → Tree) (Owner → Tree) Tree) (o : Owner) → finished (with_part 3 bare (prop_step x o)) ≡ prop_step x o
member_step_few bare (Prop-F.Field at p k e) o = refl
member_step_few bare _ o = refl

pub member_done : (bare : Bool) (t : Tree) (m : Prop) (o : Owner) → view_member m o ≡ with_part 2 bare (with_part 1 bare (with_part 0 bare t)) → view_member m o ≡ inner bare t
member_done bare t m o e =
    sym (subst (λ u. finished (with_part 3 bare (u o)) ≡ u o) (sym (fold_out-Prop Tree Tree Tree Tree Tree Tree Tree (Role → Tree) (Owner → Tree) Tree access_step control_step expr_step jsx_step key_step link_step operation_step pat_step prop_step stmt_step m)) (member_step_few bare _ o))
    ∙ ap (λ u. finished (with_part 3 bare u)) e ∙ inner_is bare t

-- ---- what is no function and no class

operation_step_code : (n : ℕ) (bare : Bool) (x : Operation-F Tree Tree Tree Tree Tree Tree Tree (Role → Tree) (Owner → Tree) Tree) → with_code n bare (operation_step x) ≡ operation_step x
operation_step_code n bare Operation-F.«Operation::Hole» = refl
operation_step_code n bare _ = refl

pub operation_code : (n : ℕ) (bare : Bool) (o : Operation) → with_code n bare (view_operation o) ≡ view_operation o
operation_code n bare o = subst (λ u. with_code n bare u ≡ u) (sym (fold_out-Operation Tree Tree Tree Tree Tree Tree Tree (Role → Tree) (Owner → Tree) Tree access_step control_step expr_step jsx_step key_step link_step operation_step pat_step prop_step stmt_step o)) (operation_step_code n bare _)

access_step_code : (n : ℕ) (bare : Bool) (x : Access-F Tree Tree Tree Tree Tree Tree Tree (Role → Tree) (Owner → Tree) Tree) → with_code n bare (access_step x) ≡ access_step x
access_step_code n bare (Access-F.Tagged at a here ps xs) = refl
access_step_code n bare _ = refl

pub access_code : (n : ℕ) (bare : Bool) (a : Access) → with_code n bare (view_access a) ≡ view_access a
access_code n bare a = subst (λ u. with_code n bare u ≡ u) (sym (fold_out-Access Tree Tree Tree Tree Tree Tree Tree (Role → Tree) (Owner → Tree) Tree access_step control_step expr_step jsx_step key_step link_step operation_step pat_step prop_step stmt_step a)) (access_step_code n bare _)

container_code : (n : ℕ) (bare : Bool) (e : Option (Box Tree Global)) → with_code n bare (container e) ≡ container e
container_code n bare None = refl
container_code n bare (Some e) = refl

jsx_step_code : (n : ℕ) (bare : Bool) (x : Jsx-F Tree Tree Tree Tree Tree Tree Tree (Role → Tree) (Owner → Tree) Tree) → with_code n bare (jsx_step x) ≡ jsx_step x
jsx_step_code n bare (Jsx-F.Container at e) = container_code n bare e
jsx_step_code n bare _ = refl

pub jsx_code : (n : ℕ) (bare : Bool) (j : Jsx) → with_code n bare (view_jsx j) ≡ view_jsx j
jsx_code n bare j = subst (λ u. with_code n bare u ≡ u) (sym (fold_out-Jsx Tree Tree Tree Tree Tree Tree Tree (Role → Tree) (Owner → Tree) Tree access_step control_step expr_step jsx_step key_step link_step operation_step pat_step prop_step stmt_step j)) (jsx_step_code n bare _)

clause_code : (n : ℕ) (bare : Bool) (e : Option (Box Tree Global)) (u : Tree) → with_code n bare (clause e u) ≡ clause e u
clause_code n bare None u = refl
clause_code n bare (Some e) u = refl

control_step_code : (n : ℕ) (bare : Bool) (x : Control-F Tree Tree Tree Tree Tree Tree Tree (Role → Tree) (Owner → Tree) Tree) → with_code n bare (control_step x) ≡ control_step x
control_step_code n bare (Control-F.Case at e ss) = clause_code n bare e _
control_step_code n bare _ = refl

pub control_code : (n : ℕ) (bare : Bool) (c : Control) → with_code n bare (view_control c) ≡ view_control c
control_code n bare c = subst (λ u. with_code n bare u ≡ u) (sym (fold_out-Control Tree Tree Tree Tree Tree Tree Tree (Role → Tree) (Owner → Tree) Tree access_step control_step expr_step jsx_step key_step link_step operation_step pat_step prop_step stmt_step c)) (control_step_code n bare _)

pub word_code : (n : ℕ) (bare : Bool) (w : Word) → with_code n bare (view_word w) ≡ view_word w
word_code n bare words.This = refl
word_code n bare words.Null = refl
word_code n bare words.True = refl
word_code n bare words.False = refl
word_code n bare words.ImportMeta = refl
word_code n bare words.NewTarget = refl

pub template_code : (n : ℕ) (bare : Bool) (ps : List Text) (ts : List Tree) → with_code n bare (template false ps ts) ≡ template false ps ts
template_code n bare [] ts = refl
template_code n bare (p ∷ []) [] = refl
template_code n bare (p ∷ []) (t ∷ ts) = refl
template_code n bare (p ∷ q ∷ ps) ts = refl

operation_step_but : (bare : Bool) (x : Operation-F Tree Tree Tree Tree Tree Tree Tree (Role → Tree) (Owner → Tree) Tree) → but_code bare (operation_step x) ≡ inner bare (operation_step x)
operation_step_but bare Operation-F.«Operation::Hole» = refl
operation_step_but bare _ = refl

pub operation_but : (bare : Bool) (o : Operation) → but_code bare (view_operation o) ≡ inner bare (view_operation o)
operation_but bare o = subst (λ u. but_code bare u ≡ inner bare u) (sym (fold_out-Operation Tree Tree Tree Tree Tree Tree Tree (Role → Tree) (Owner → Tree) Tree access_step control_step expr_step jsx_step key_step link_step operation_step pat_step prop_step stmt_step o)) (operation_step_but bare _)

access_step_but : (bare : Bool) (x : Access-F Tree Tree Tree Tree Tree Tree Tree (Role → Tree) (Owner → Tree) Tree) → but_code bare (access_step x) ≡ inner bare (access_step x)
access_step_but bare (Access-F.Tagged at a here ps xs) = refl
access_step_but bare _ = refl

pub access_but : (bare : Bool) (a : Access) → but_code bare (view_access a) ≡ inner bare (view_access a)
access_but bare a = subst (λ u. but_code bare u ≡ inner bare u) (sym (fold_out-Access Tree Tree Tree Tree Tree Tree Tree (Role → Tree) (Owner → Tree) Tree access_step control_step expr_step jsx_step key_step link_step operation_step pat_step prop_step stmt_step a)) (access_step_but bare _)

container_but : (bare : Bool) (e : Option (Box Tree Global)) → but_code bare (container e) ≡ container e
container_but bare None = refl
container_but bare (Some e) = refl

jsx_step_but : (bare : Bool) (x : Jsx-F Tree Tree Tree Tree Tree Tree Tree (Role → Tree) (Owner → Tree) Tree) → but_code bare (jsx_step x) ≡ jsx_step x
jsx_step_but bare (Jsx-F.Container at e) = container_but bare e
jsx_step_but bare _ = refl

pub jsx_but : (bare : Bool) (j : Jsx) → but_code bare (view_jsx j) ≡ view_jsx j
jsx_but bare j = subst (λ u. but_code bare u ≡ u) (sym (fold_out-Jsx Tree Tree Tree Tree Tree Tree Tree (Role → Tree) (Owner → Tree) Tree access_step control_step expr_step jsx_step key_step link_step operation_step pat_step prop_step stmt_step j)) (jsx_step_but bare _)

clause_but : (bare : Bool) (e : Option (Box Tree Global)) (u : Tree) → but_code bare (clause e u) ≡ inner bare (clause e u)
clause_but bare None u = refl
clause_but bare (Some e) u = refl

control_step_but : (bare : Bool) (x : Control-F Tree Tree Tree Tree Tree Tree Tree (Role → Tree) (Owner → Tree) Tree) → but_code bare (control_step x) ≡ inner bare (control_step x)
control_step_but bare (Control-F.Case at e ss) = clause_but bare e _
control_step_but bare _ = refl

pub control_but : (bare : Bool) (c : Control) → but_code bare (view_control c) ≡ inner bare (view_control c)
control_but bare c = subst (λ u. but_code bare u ≡ inner bare u) (sym (fold_out-Control Tree Tree Tree Tree Tree Tree Tree (Role → Tree) (Owner → Tree) Tree access_step control_step expr_step jsx_step key_step link_step operation_step pat_step prop_step stmt_step c)) (control_step_but bare _)

pub word_but : (bare : Bool) (w : Word) → but_code bare (view_word w) ≡ view_word w
word_but bare words.This = refl
word_but bare words.Null = refl
word_but bare words.True = refl
word_but bare words.False = refl
word_but bare words.ImportMeta = refl
word_but bare words.NewTarget = refl

member_step_no_list : (x : Prop-F Tree Tree Tree Tree Tree Tree Tree (Role → Tree) (Owner → Tree) Tree) (o : Owner) → is_list (prop_step x o) ≡ false
member_step_no_list (Prop-F.Field at p k e) o = refl
member_step_no_list _ o = refl

nothing_due : (v : Bool) → v && false ≡ false
nothing_due true = refl
nothing_due false = refl

pub member_walk : (m : Prop) (o : Owner) → inner false (view_member m o) ≡ walk (place.Level 0) false (view_member m o)
member_walk m o = walk_bare (place.Level 0) false (view_member m o) (subst (λ u. is_list (u o) ≡ false) (sym (fold_out-Prop Tree Tree Tree Tree Tree Tree Tree (Role → Tree) (Owner → Tree) Tree access_step control_step expr_step jsx_step key_step link_step operation_step pat_step prop_step stmt_step m)) (member_step_no_list _ o)) (ap (λ v. (v || false) || (is_in (view_member m o) && false)) (not_below (rank (view_member m o))) ∙ nothing_due (is_in (view_member m o)))

pub statement_walk : (bare : Bool) (t : Tree) → is_statement t ≡ true → inner bare t ≡ walk (place.Level 0) bare t
statement_walk bare t h = walk_bare (place.Level 0) bare t (statement_no_list t h) (level_zero bare t (statement_no_in t h))

pub ruleset codes_of = (operation_code, access_code, jsx_code, control_code, word_code, template_code, operation_but, access_but, jsx_but, control_but, word_but)
