-- What is an empty statement, and what has no signs: by the equations of the view, a variant a line.
use Rattle.std.proofs.Common.{◌≡◌, List, [], ◌∷◌, ap, sym, ◌∙◌, refl, map, Bool, false, Option, Some, None, Box, Global}
use Rattle.jsx_base.specs.Token as token
use Rattle.jsx_tree.specs.Kinds.{Role, Assigns, Tree, leaf, node, list, none, part, expression}
use Rattle.jsx_tree.specs.ViewOperators.{update_of}
use Rattle.jsx_tree.specs.declared.operator.UpdateSide.TheVariants as side
use Rattle.jsx_tree.specs.declared.text.Text.{Text}
use Rattle.jsx_tree.specs.declared.text.LiteralKind.{LiteralKind}
use Rattle.jsx_tree.specs.declared.text.Word.{Word}
use Rattle.jsx_tree.specs.declared.operator.UpdateOp as code_update
use Rattle.jsx_tree.specs.declared.operator.UpdateSide.{UpdateSide}
use Rattle.jsx_tree.specs.declared.tree.Expr.{Expr}
use Rattle.jsx_tree.specs.declared.tree.Operation.{Operation}
use Rattle.jsx_tree.specs.declared.tree.Access.{Access}
use Rattle.jsx_tree.specs.declared.tree.Link.{Link}
use Rattle.jsx_tree.specs.declared.tree.Prop.{Prop}
use Rattle.jsx_tree.specs.declared.tree.Key.{Key}
use Rattle.jsx_tree.specs.declared.tree.Pat.{Pat}
use Rattle.jsx_tree.specs.declared.tree.Stmt.{Stmt}
use Rattle.jsx_tree.specs.declared.tree.Control.{Control}
use Rattle.jsx_tree.specs.declared.tree.Jsx.{Jsx}
use Rattle.jsx_tree.specs.declared.tree.Expr.TheVariants as expr
use Rattle.jsx_tree.specs.declared.tree.Operation.TheVariants as operation
use Rattle.jsx_tree.specs.declared.tree.Access.TheVariants as access
use Rattle.jsx_tree.specs.declared.tree.Link.TheVariants as link
use Rattle.jsx_tree.specs.declared.tree.Prop.TheVariants as prop
use Rattle.jsx_tree.specs.declared.tree.Pat.TheVariants as pat
use Rattle.jsx_tree.specs.declared.tree.Control.TheVariants as control
use Rattle.jsx_tree.specs.declared.tree.Jsx.TheVariants as jsx
use Rattle.jsx_tree.specs.declared.text.LiteralKind.TheVariants as literal_kind
use Rattle.jsx_tree.specs.declared.text.Word.TheVariants as word
use Rattle.jsx_tree.specs.View.{Owner, inside, text_of, name_of, kind_of_literal, view_word, forest, template, shorthand_of, clause_of, container_of, view_expr, view_operation, view_access, view_link, view_member, view_pattern, view_control, view_stmt, view_jsx}
use Rattle.jsx_tree.specs.Normal.{is_empty, laid_tree}
use Rattle.jsx_pen.specs.Pen.{signs, is_void}
use Rattle.jsx_tree.proofs.Views.{views, view-Access-Call, view-Access-Chain, view-Access-ImportCall, view-Access-Index, view-Access-Member, view-Access-New, view-Access-NewWithoutArguments, view-Access-SuperCall, view-Access-SuperIndex, view-Access-SuperMember, view-Access-Tagged, view-Control-Case, view-Control-Catch, view-Control-Do, view-Control-For, view-Control-ForIn, view-Control-ForOf, view-Control-If, view-Control-Label, view-Control-Switch, view-Control-Try, view-Control-While, view-Expr-Access, view-Expr-Array, view-Expr-Class, view-Expr-Function, view-Expr-Ident, view-Expr-Jsx, view-Expr-Literal, view-Expr-Object, view-Expr-Operation, view-Expr-Paren, view-Expr-Template, view-Expr-Word, view-Jsx-Attribute, view-Jsx-Container, view-Jsx-Element, view-Jsx-ElementWithChildren, view-Jsx-Fragment, view-Jsx-Spread, view-Jsx-Str, view-Jsx-Text, view-Link-Call, view-Link-Index, view-Link-Member, view-Operation-Arrow, view-Operation-ArrowBlock, view-Operation-Assign, view-Operation-BareArrow, view-Operation-BareArrowBlock, view-Operation-Binary, view-Operation-Cond, view-Operation-Hole, view-Operation-OpAssign, view-Operation-Seq, view-Operation-Spread, view-Operation-Unary, view-Operation-Update, view-Pat-Array, view-Pat-Binding, view-Pat-Declaration, view-Pat-Head, view-Pat-Hole, view-Pat-Ident, view-Pat-Object, view-Pat-Pair, view-Pat-Paren, view-Pat-Rest, view-Pat-RestProperty, view-Pat-Shorthand, view-Pat-Target, view-Pat-WithInit, view-Prop-Field, view-Prop-Getter, view-Prop-Method, view-Prop-Pair, view-Prop-Setter, view-Prop-Shorthand, view-Prop-Spread}
use Rattle.jsx_tree.specs.declared.tree.Access.TheOpen.{Access-F, Control-F, Expr-F, Jsx-F, Link-F, Operation-F, Pat-F, Prop-F}
use Rattle.jsx_tree.specs.declared.tree.Access.TheViews.{roll-Expr, out-Expr, roll-out-Expr, roll-Operation, out-Operation, roll-out-Operation, roll-Access, out-Access, roll-out-Access, roll-Link, out-Link, roll-out-Link, roll-Prop, out-Prop, roll-out-Prop, roll-Pat, out-Pat, roll-out-Pat, roll-Control, out-Control, roll-out-Control, roll-Jsx, out-Jsx, roll-out-Jsx}

-- ---- no part of an expression is an empty statement

solid_literal : (k : LiteralKind) (t : token.Text) → is_empty (laid_tree (leaf (kind_of_literal k) t)) ≡ false
solid_literal k t = refl

solid_word : (w : Word) → is_empty (laid_tree (view_word w)) ≡ false
solid_word word.ImportMeta = refl
solid_word word.NewTarget = refl
solid_word _ = refl

solid_template : (b : Bool) (ps : List Text) (ts : List Tree) → is_empty (laid_tree (template b ps ts)) ≡ false
solid_template b [] ts = refl
solid_template b (p ∷ []) [] = refl
solid_template b (p ∷ []) (t ∷ ts) = refl
solid_template b (p ∷ q ∷ ps) [] = refl
solid_template b (p ∷ q ∷ ps) (t ∷ ts) = refl

solid_container : (e : Option (Box Expr Global)) → is_empty (laid_tree (container_of view_expr e)) ≡ false
solid_container None = refl
solid_container (Some e) = refl

solid_shorthand : (r : Role) (a : Tree) (e : Option (Box Expr Global)) → is_empty (laid_tree (shorthand_of view_expr r a e)) ≡ false
solid_shorthand r a None = refl
solid_shorthand r a (Some e) = refl

solid_clause : (e : Option (Box Expr Global)) (ss : Tree) → is_empty (laid_tree (clause_of view_expr e ss)) ≡ false
solid_clause None ss = refl
solid_clause (Some e) ss = refl

solid_update : (o : code_update.UpdateOp) (s : UpdateSide) (a : Tree) → is_empty (laid_tree (node (expression (update_of o s)) (part a none))) ≡ false
solid_update o side.Before a = refl
solid_update o side.After a = refl

solid_rolled_jsx : (y : Jsx-F Access Control Expr Jsx Key Link Operation Pat Prop Stmt) → is_empty (laid_tree (view_jsx (roll-Jsx y))) ≡ false
solid_rolled_jsx (Jsx-F.Element at t as') = ap (λ e. is_empty (laid_tree (view_jsx e))) (jsx.rolls-Element at t as') ∙ ap (λ t. is_empty (laid_tree t)) (view-Jsx-Element at t as')
solid_rolled_jsx (Jsx-F.ElementWithChildren at t as' xs u) = ap (λ e. is_empty (laid_tree (view_jsx e))) (jsx.rolls-ElementWithChildren at t as' xs u) ∙ ap (λ t. is_empty (laid_tree t)) (view-Jsx-ElementWithChildren at t as' xs u)
solid_rolled_jsx (Jsx-F.Fragment at xs) = ap (λ e. is_empty (laid_tree (view_jsx e))) (jsx.rolls-Fragment at xs) ∙ ap (λ t. is_empty (laid_tree t)) (view-Jsx-Fragment at xs)
solid_rolled_jsx (Jsx-F.Text at a) = ap (λ e. is_empty (laid_tree (view_jsx e))) (jsx.rolls-Text at a) ∙ ap (λ t. is_empty (laid_tree t)) (view-Jsx-Text at a)
solid_rolled_jsx (Jsx-F.Str at a) = ap (λ e. is_empty (laid_tree (view_jsx e))) (jsx.rolls-Str at a) ∙ ap (λ t. is_empty (laid_tree t)) (view-Jsx-Str at a)
solid_rolled_jsx (Jsx-F.Container at e) = ap (λ e. is_empty (laid_tree (view_jsx e))) (jsx.rolls-Container at e) ∙ ap (λ t. is_empty (laid_tree t)) (view-Jsx-Container at e) ∙ solid_container e
solid_rolled_jsx (Jsx-F.«Jsx::Spread» at e) = ap (λ e. is_empty (laid_tree (view_jsx e))) (jsx.rolls-Spread at e) ∙ ap (λ t. is_empty (laid_tree t)) (view-Jsx-Spread at e)
solid_rolled_jsx (Jsx-F.Attribute at a v) = ap (λ e. is_empty (laid_tree (view_jsx e))) (jsx.rolls-Attribute at a v) ∙ ap (λ t. is_empty (laid_tree t)) (view-Jsx-Attribute at a v)

pub solid_jsx : (x : Jsx) → is_empty (laid_tree (view_jsx x)) ≡ false
solid_jsx x = ap (λ e. is_empty (laid_tree (view_jsx e))) (sym (roll-out-Jsx x)) ∙ solid_rolled_jsx (out-Jsx x)

solid_rolled_operation : (y : Operation-F Access Control Expr Jsx Key Link Operation Pat Prop Stmt) → is_empty (laid_tree (view_operation (roll-Operation y))) ≡ false
solid_rolled_operation (Operation-F.Seq at xs) = ap (λ e. is_empty (laid_tree (view_operation e))) (operation.rolls-Seq at xs) ∙ ap (λ t. is_empty (laid_tree t)) (view-Operation-Seq at xs)
solid_rolled_operation (Operation-F.Assign at p a) = ap (λ e. is_empty (laid_tree (view_operation e))) (operation.rolls-Assign at p a) ∙ ap (λ t. is_empty (laid_tree t)) (view-Operation-Assign at p a)
solid_rolled_operation (Operation-F.OpAssign at o a b) = ap (λ e. is_empty (laid_tree (view_operation e))) (operation.rolls-OpAssign at o a b) ∙ ap (λ t. is_empty (laid_tree t)) (view-Operation-OpAssign at o a b)
solid_rolled_operation (Operation-F.Arrow at ps b) = ap (λ e. is_empty (laid_tree (view_operation e))) (operation.rolls-Arrow at ps b) ∙ ap (λ t. is_empty (laid_tree t)) (view-Operation-Arrow at ps b)
solid_rolled_operation (Operation-F.ArrowBlock at ps ds ss) = ap (λ e. is_empty (laid_tree (view_operation e))) (operation.rolls-ArrowBlock at ps ds ss) ∙ ap (λ t. is_empty (laid_tree t)) (view-Operation-ArrowBlock at ps ds ss)
solid_rolled_operation (Operation-F.BareArrow at a b) = ap (λ e. is_empty (laid_tree (view_operation e))) (operation.rolls-BareArrow at a b) ∙ ap (λ t. is_empty (laid_tree t)) (view-Operation-BareArrow at a b)
solid_rolled_operation (Operation-F.BareArrowBlock at a ds ss) = ap (λ e. is_empty (laid_tree (view_operation e))) (operation.rolls-BareArrowBlock at a ds ss) ∙ ap (λ t. is_empty (laid_tree t)) (view-Operation-BareArrowBlock at a ds ss)
solid_rolled_operation (Operation-F.Cond at a b c) = ap (λ e. is_empty (laid_tree (view_operation e))) (operation.rolls-Cond at a b c) ∙ ap (λ t. is_empty (laid_tree t)) (view-Operation-Cond at a b c)
solid_rolled_operation (Operation-F.Binary at o a b) = ap (λ e. is_empty (laid_tree (view_operation e))) (operation.rolls-Binary at o a b) ∙ ap (λ t. is_empty (laid_tree t)) (view-Operation-Binary at o a b)
solid_rolled_operation (Operation-F.Unary at o a) = ap (λ e. is_empty (laid_tree (view_operation e))) (operation.rolls-Unary at o a) ∙ ap (λ t. is_empty (laid_tree t)) (view-Operation-Unary at o a)
solid_rolled_operation (Operation-F.Update at o s a) = ap (λ e. is_empty (laid_tree (view_operation e))) (operation.rolls-Update at o s a) ∙ ap (λ t. is_empty (laid_tree t)) (view-Operation-Update at o s a) ∙ solid_update o s ((view_pattern a.value) Assigns)
solid_rolled_operation (Operation-F.«Operation::Spread» at a) = ap (λ e. is_empty (laid_tree (view_operation e))) (operation.rolls-Spread at a) ∙ ap (λ t. is_empty (laid_tree t)) (view-Operation-Spread at a)
solid_rolled_operation Operation-F.«Operation::Hole» = ap (λ e. is_empty (laid_tree (view_operation e))) (operation.rolls-Hole) ∙ ap (λ t. is_empty (laid_tree t)) (view-Operation-Hole)

pub solid_operation : (x : Operation) → is_empty (laid_tree (view_operation x)) ≡ false
solid_operation x = ap (λ e. is_empty (laid_tree (view_operation e))) (sym (roll-out-Operation x)) ∙ solid_rolled_operation (out-Operation x)

solid_rolled_access : (y : Access-F Access Control Expr Jsx Key Link Operation Pat Prop Stmt) → is_empty (laid_tree (view_access (roll-Access y))) ≡ false
solid_rolled_access (Access-F.«Access::Call» at f xs) = ap (λ e. is_empty (laid_tree (view_access e))) (access.rolls-Call at f xs) ∙ ap (λ t. is_empty (laid_tree t)) (view-Access-Call at f xs)
solid_rolled_access (Access-F.«Access::Member» at a b) = ap (λ e. is_empty (laid_tree (view_access e))) (access.rolls-Member at a b) ∙ ap (λ t. is_empty (laid_tree t)) (view-Access-Member at a b)
solid_rolled_access (Access-F.«Access::Index» at a b) = ap (λ e. is_empty (laid_tree (view_access e))) (access.rolls-Index at a b) ∙ ap (λ t. is_empty (laid_tree t)) (view-Access-Index at a b)
solid_rolled_access (Access-F.Tagged at a here ps xs) = ap (λ e. is_empty (laid_tree (view_access e))) (access.rolls-Tagged at a here ps xs) ∙ ap (λ t. is_empty (laid_tree t)) (view-Access-Tagged at a here ps xs)
solid_rolled_access (Access-F.New at f xs) = ap (λ e. is_empty (laid_tree (view_access e))) (access.rolls-New at f xs) ∙ ap (λ t. is_empty (laid_tree t)) (view-Access-New at f xs)
solid_rolled_access (Access-F.NewWithoutArguments at f) = ap (λ e. is_empty (laid_tree (view_access e))) (access.rolls-NewWithoutArguments at f) ∙ ap (λ t. is_empty (laid_tree t)) (view-Access-NewWithoutArguments at f)
solid_rolled_access (Access-F.SuperCall at xs) = ap (λ e. is_empty (laid_tree (view_access e))) (access.rolls-SuperCall at xs) ∙ ap (λ t. is_empty (laid_tree t)) (view-Access-SuperCall at xs)
solid_rolled_access (Access-F.SuperMember at b) = ap (λ e. is_empty (laid_tree (view_access e))) (access.rolls-SuperMember at b) ∙ ap (λ t. is_empty (laid_tree t)) (view-Access-SuperMember at b)
solid_rolled_access (Access-F.SuperIndex at b) = ap (λ e. is_empty (laid_tree (view_access e))) (access.rolls-SuperIndex at b) ∙ ap (λ t. is_empty (laid_tree t)) (view-Access-SuperIndex at b)
solid_rolled_access (Access-F.ImportCall at a) = ap (λ e. is_empty (laid_tree (view_access e))) (access.rolls-ImportCall at a) ∙ ap (λ t. is_empty (laid_tree t)) (view-Access-ImportCall at a)
solid_rolled_access (Access-F.Chain at a xs) = ap (λ e. is_empty (laid_tree (view_access e))) (access.rolls-Chain at a xs) ∙ ap (λ t. is_empty (laid_tree t)) (view-Access-Chain at a xs)

pub solid_access : (x : Access) → is_empty (laid_tree (view_access x)) ≡ false
solid_access x = ap (λ e. is_empty (laid_tree (view_access e))) (sym (roll-out-Access x)) ∙ solid_rolled_access (out-Access x)

solid_rolled_expr : (y : Expr-F Access Control Expr Jsx Key Link Operation Pat Prop Stmt) → is_empty (laid_tree (view_expr (roll-Expr y))) ≡ false
solid_rolled_expr (Expr-F.«Expr::Ident» at a) = ap (λ e. is_empty (laid_tree (view_expr e))) (expr.rolls-Ident at a) ∙ ap (λ t. is_empty (laid_tree t)) (view-Expr-Ident at a)
solid_rolled_expr (Expr-F.«Expr::Literal» at k a) = ap (λ e. is_empty (laid_tree (view_expr e))) (expr.rolls-Literal at k a) ∙ ap (λ t. is_empty (laid_tree t)) (view-Expr-Literal at k a) ∙ solid_literal k (text_of a)
solid_rolled_expr (Expr-F.Word at w) = ap (λ e. is_empty (laid_tree (view_expr e))) (expr.rolls-Word at w) ∙ ap (λ t. is_empty (laid_tree t)) (view-Expr-Word at w) ∙ solid_word w
solid_rolled_expr (Expr-F.Operation a) = ap (λ e. is_empty (laid_tree (view_expr e))) (expr.rolls-Operation a) ∙ ap (λ t. is_empty (laid_tree t)) (view-Expr-Operation a) ∙ solid_operation a
solid_rolled_expr (Expr-F.Access a) = ap (λ e. is_empty (laid_tree (view_expr e))) (expr.rolls-Access a) ∙ ap (λ t. is_empty (laid_tree t)) (view-Expr-Access a) ∙ solid_access a
solid_rolled_expr (Expr-F.«Expr::Array» at xs) = ap (λ e. is_empty (laid_tree (view_expr e))) (expr.rolls-Array at xs) ∙ ap (λ t. is_empty (laid_tree t)) (view-Expr-Array at xs)
solid_rolled_expr (Expr-F.«Expr::Object» at xs) = ap (λ e. is_empty (laid_tree (view_expr e))) (expr.rolls-Object at xs) ∙ ap (λ t. is_empty (laid_tree t)) (view-Expr-Object at xs)
solid_rolled_expr (Expr-F.Template at ps xs) = ap (λ e. is_empty (laid_tree (view_expr e))) (expr.rolls-Template at ps xs) ∙ ap (λ t. is_empty (laid_tree t)) (view-Expr-Template at ps xs) ∙ solid_template false ps.items (map (inside view_expr) xs.items)
solid_rolled_expr (Expr-F.«Expr::Function» at a ps ds ss) = ap (λ e. is_empty (laid_tree (view_expr e))) (expr.rolls-Function at a ps ds ss) ∙ ap (λ t. is_empty (laid_tree t)) (view-Expr-Function at a ps ds ss)
solid_rolled_expr (Expr-F.«Expr::Class» at a e ms) = ap (λ e. is_empty (laid_tree (view_expr e))) (expr.rolls-Class at a e ms) ∙ ap (λ t. is_empty (laid_tree t)) (view-Expr-Class at a e ms)
solid_rolled_expr (Expr-F.Jsx a) = ap (λ e. is_empty (laid_tree (view_expr e))) (expr.rolls-Jsx a) ∙ ap (λ t. is_empty (laid_tree t)) (view-Expr-Jsx a) ∙ solid_jsx a.value
solid_rolled_expr (Expr-F.«Expr::Paren» at a) = ap (λ e. is_empty (laid_tree (view_expr e))) (expr.rolls-Paren at a) ∙ ap (λ t. is_empty (laid_tree t)) (view-Expr-Paren at a)

pub solid_expr : (x : Expr) → is_empty (laid_tree (view_expr x)) ≡ false
solid_expr x = ap (λ e. is_empty (laid_tree (view_expr e))) (sym (roll-out-Expr x)) ∙ solid_rolled_expr (out-Expr x)

solid_rolled_link : (y : Link-F Access Control Expr Jsx Key Link Operation Pat Prop Stmt) → is_empty (laid_tree (view_link (roll-Link y))) ≡ false
solid_rolled_link (Link-F.«Link::Member» at q b) = ap (λ e. is_empty (laid_tree (view_link e))) (link.rolls-Member at q b) ∙ ap (λ t. is_empty (laid_tree t)) (view-Link-Member at q b)
solid_rolled_link (Link-F.«Link::Index» at q b) = ap (λ e. is_empty (laid_tree (view_link e))) (link.rolls-Index at q b) ∙ ap (λ t. is_empty (laid_tree t)) (view-Link-Index at q b)
solid_rolled_link (Link-F.«Link::Call» at q xs) = ap (λ e. is_empty (laid_tree (view_link e))) (link.rolls-Call at q xs) ∙ ap (λ t. is_empty (laid_tree t)) (view-Link-Call at q xs)

pub solid_link : (x : Link) → is_empty (laid_tree (view_link x)) ≡ false
solid_link x = ap (λ e. is_empty (laid_tree (view_link e))) (sym (roll-out-Link x)) ∙ solid_rolled_link (out-Link x)

solid_rolled_member : (y : Prop-F Access Control Expr Jsx Key Link Operation Pat Prop Stmt) (o : Owner) → is_empty (laid_tree (view_member (roll-Prop y) o)) ≡ false
solid_rolled_member (Prop-F.«Prop::Pair» at k a) o = ap (λ e. is_empty (laid_tree (view_member e o))) (prop.rolls-Pair at k a) ∙ ap (λ t. is_empty (laid_tree t)) (view-Prop-Pair at k a o)
solid_rolled_member (Prop-F.«Prop::Shorthand» at a) o = ap (λ e. is_empty (laid_tree (view_member e o))) (prop.rolls-Shorthand at a) ∙ ap (λ t. is_empty (laid_tree t)) (view-Prop-Shorthand at a o)
solid_rolled_member (Prop-F.«Prop::Spread» at a) o = ap (λ e. is_empty (laid_tree (view_member e o))) (prop.rolls-Spread at a) ∙ ap (λ t. is_empty (laid_tree t)) (view-Prop-Spread at a o)
solid_rolled_member (Prop-F.Method at p k ps ds ss) o = ap (λ e. is_empty (laid_tree (view_member e o))) (prop.rolls-Method at p k ps ds ss) ∙ ap (λ t. is_empty (laid_tree t)) (view-Prop-Method at p k ps ds ss o)
solid_rolled_member (Prop-F.Getter at p k ds ss) o = ap (λ e. is_empty (laid_tree (view_member e o))) (prop.rolls-Getter at p k ds ss) ∙ ap (λ t. is_empty (laid_tree t)) (view-Prop-Getter at p k ds ss o)
solid_rolled_member (Prop-F.Setter at p k q ds ss) o = ap (λ e. is_empty (laid_tree (view_member e o))) (prop.rolls-Setter at p k q ds ss) ∙ ap (λ t. is_empty (laid_tree t)) (view-Prop-Setter at p k q ds ss o)
solid_rolled_member (Prop-F.Field at p k e) o = ap (λ e. is_empty (laid_tree (view_member e o))) (prop.rolls-Field at p k e) ∙ ap (λ t. is_empty (laid_tree t)) (view-Prop-Field at p k e o)

pub solid_member : (x : Prop) (o : Owner) → is_empty (laid_tree (view_member x o)) ≡ false
solid_member x o = ap (λ e. is_empty (laid_tree (view_member e o))) (sym (roll-out-Prop x)) ∙ solid_rolled_member (out-Prop x) o

solid_rolled_pattern : (y : Pat-F Access Control Expr Jsx Key Link Operation Pat Prop Stmt) (r : Role) → is_empty (laid_tree (view_pattern (roll-Pat y) r)) ≡ false
solid_rolled_pattern (Pat-F.«Pat::Ident» at a) r = ap (λ e. is_empty (laid_tree (view_pattern e r))) (pat.rolls-Ident at a) ∙ ap (λ t. is_empty (laid_tree t)) (view-Pat-Ident at a r)
solid_rolled_pattern (Pat-F.«Pat::Array» at xs) r = ap (λ e. is_empty (laid_tree (view_pattern e r))) (pat.rolls-Array at xs) ∙ ap (λ t. is_empty (laid_tree t)) (view-Pat-Array at xs r)
solid_rolled_pattern (Pat-F.«Pat::Object» at xs) r = ap (λ e. is_empty (laid_tree (view_pattern e r))) (pat.rolls-Object at xs) ∙ ap (λ t. is_empty (laid_tree t)) (view-Pat-Object at xs r)
solid_rolled_pattern (Pat-F.Target a) r = ap (λ e. is_empty (laid_tree (view_pattern e r))) (pat.rolls-Target a) ∙ ap (λ t. is_empty (laid_tree t)) (view-Pat-Target a r) ∙ solid_expr a.value
solid_rolled_pattern (Pat-F.«Pat::Paren» at p) r = ap (λ e. is_empty (laid_tree (view_pattern e r))) (pat.rolls-Paren at p) ∙ ap (λ t. is_empty (laid_tree t)) (view-Pat-Paren at p r)
solid_rolled_pattern (Pat-F.Binding at p i) r = ap (λ e. is_empty (laid_tree (view_pattern e r))) (pat.rolls-Binding at p i) ∙ ap (λ t. is_empty (laid_tree t)) (view-Pat-Binding at p i r)
solid_rolled_pattern (Pat-F.WithInit at p a) r = ap (λ e. is_empty (laid_tree (view_pattern e r))) (pat.rolls-WithInit at p a) ∙ ap (λ t. is_empty (laid_tree t)) (view-Pat-WithInit at p a r)
solid_rolled_pattern (Pat-F.Rest at p) r = ap (λ e. is_empty (laid_tree (view_pattern e r))) (pat.rolls-Rest at p) ∙ ap (λ t. is_empty (laid_tree t)) (view-Pat-Rest at p r)
solid_rolled_pattern Pat-F.«Pat::Hole» r = ap (λ e. is_empty (laid_tree (view_pattern e r))) (pat.rolls-Hole) ∙ ap (λ t. is_empty (laid_tree t)) (view-Pat-Hole r)
solid_rolled_pattern (Pat-F.«Pat::Pair» at k p) r = ap (λ e. is_empty (laid_tree (view_pattern e r))) (pat.rolls-Pair at k p) ∙ ap (λ t. is_empty (laid_tree t)) (view-Pat-Pair at k p r)
solid_rolled_pattern (Pat-F.«Pat::Shorthand» at a e) r = ap (λ e. is_empty (laid_tree (view_pattern e r))) (pat.rolls-Shorthand at a e) ∙ ap (λ t. is_empty (laid_tree t)) (view-Pat-Shorthand at a e r) ∙ solid_shorthand r (name_of a) e
solid_rolled_pattern (Pat-F.RestProperty at a) r = ap (λ e. is_empty (laid_tree (view_pattern e r))) (pat.rolls-RestProperty at a) ∙ ap (λ t. is_empty (laid_tree t)) (view-Pat-RestProperty at a r)
solid_rolled_pattern (Pat-F.Declaration at w ps) r = ap (λ e. is_empty (laid_tree (view_pattern e r))) (pat.rolls-Declaration at w ps) ∙ ap (λ t. is_empty (laid_tree t)) (view-Pat-Declaration at w ps r)
solid_rolled_pattern (Pat-F.Head at w p) r = ap (λ e. is_empty (laid_tree (view_pattern e r))) (pat.rolls-Head at w p) ∙ ap (λ t. is_empty (laid_tree t)) (view-Pat-Head at w p r)

pub solid_pattern : (x : Pat) (r : Role) → is_empty (laid_tree (view_pattern x r)) ≡ false
solid_pattern x r = ap (λ e. is_empty (laid_tree (view_pattern e r))) (sym (roll-out-Pat x)) ∙ solid_rolled_pattern (out-Pat x) r

solid_rolled_control : (y : Control-F Access Control Expr Jsx Key Link Operation Pat Prop Stmt) → is_empty (laid_tree (view_control (roll-Control y))) ≡ false
solid_rolled_control (Control-F.If at e s o) = ap (λ e. is_empty (laid_tree (view_control e))) (control.rolls-If at e s o) ∙ ap (λ t. is_empty (laid_tree t)) (view-Control-If at e s o)
solid_rolled_control (Control-F.Do at s e) = ap (λ e. is_empty (laid_tree (view_control e))) (control.rolls-Do at s e) ∙ ap (λ t. is_empty (laid_tree t)) (view-Control-Do at s e)
solid_rolled_control (Control-F.While at e s) = ap (λ e. is_empty (laid_tree (view_control e))) (control.rolls-While at e s) ∙ ap (λ t. is_empty (laid_tree t)) (view-Control-While at e s)
solid_rolled_control (Control-F.For at i e u s) = ap (λ e. is_empty (laid_tree (view_control e))) (control.rolls-For at i e u s) ∙ ap (λ t. is_empty (laid_tree t)) (view-Control-For at i e u s)
solid_rolled_control (Control-F.ForIn at h e s) = ap (λ e. is_empty (laid_tree (view_control e))) (control.rolls-ForIn at h e s) ∙ ap (λ t. is_empty (laid_tree t)) (view-Control-ForIn at h e s)
solid_rolled_control (Control-F.ForOf at h e s) = ap (λ e. is_empty (laid_tree (view_control e))) (control.rolls-ForOf at h e s) ∙ ap (λ t. is_empty (laid_tree t)) (view-Control-ForOf at h e s)
solid_rolled_control (Control-F.Label at a s) = ap (λ e. is_empty (laid_tree (view_control e))) (control.rolls-Label at a s) ∙ ap (λ t. is_empty (laid_tree t)) (view-Control-Label at a s)
solid_rolled_control (Control-F.Switch at e cs) = ap (λ e. is_empty (laid_tree (view_control e))) (control.rolls-Switch at e cs) ∙ ap (λ t. is_empty (laid_tree t)) (view-Control-Switch at e cs)
solid_rolled_control (Control-F.Case at e ss) = ap (λ e. is_empty (laid_tree (view_control e))) (control.rolls-Case at e ss) ∙ ap (λ t. is_empty (laid_tree t)) (view-Control-Case at e ss) ∙ solid_clause e (list (forest (map (inside view_stmt) ss.items)))
solid_rolled_control (Control-F.Try at b c f) = ap (λ e. is_empty (laid_tree (view_control e))) (control.rolls-Try at b c f) ∙ ap (λ t. is_empty (laid_tree t)) (view-Control-Try at b c f)
solid_rolled_control (Control-F.Catch at p s) = ap (λ e. is_empty (laid_tree (view_control e))) (control.rolls-Catch at p s) ∙ ap (λ t. is_empty (laid_tree t)) (view-Control-Catch at p s)

pub solid_control : (x : Control) → is_empty (laid_tree (view_control x)) ≡ false
solid_control x = ap (λ e. is_empty (laid_tree (view_control e))) (sym (roll-out-Control x)) ∙ solid_rolled_control (out-Control x)

-- ---- what has no signs

pub void_literal : (k : LiteralKind) (t : token.Text) → is_void (signs (leaf (kind_of_literal k) t)) ≡ false
void_literal literal_kind.Num t = refl
void_literal literal_kind.BigInt t = refl
void_literal literal_kind.Str t = refl
void_literal literal_kind.RegExp t = refl

pub void_word : (w : Word) → is_void (signs (view_word w)) ≡ false
void_word word.ImportMeta = refl
void_word word.NewTarget = refl
void_word _ = refl

pub void_template : (b : Bool) (ps : List Text) (ts : List Tree) → is_void (signs (template b ps ts)) ≡ false
void_template b [] ts = refl
void_template b (p ∷ []) [] = refl
void_template b (p ∷ []) (t ∷ ts) = refl
void_template b (p ∷ q ∷ ps) [] = refl
void_template b (p ∷ q ∷ ps) (t ∷ ts) = refl

pub void_container : (e : Option (Box Expr Global)) → is_void (signs (container_of view_expr e)) ≡ false
void_container None = refl
void_container (Some e) = refl

pub void_shorthand : (r : Role) (a : Tree) (e : Option (Box Expr Global)) → is_void (signs (shorthand_of view_expr r a e)) ≡ false
void_shorthand r a None = refl
void_shorthand r a (Some e) = refl

void_rolled_jsx : (y : Jsx-F Access Control Expr Jsx Key Link Operation Pat Prop Stmt) → is_void (signs (view_jsx (roll-Jsx y))) ≡ false
void_rolled_jsx (Jsx-F.Element at t as') = ap (λ e. is_void (signs (view_jsx e))) (jsx.rolls-Element at t as') ∙ ap (λ t. is_void (signs t)) (view-Jsx-Element at t as')
void_rolled_jsx (Jsx-F.ElementWithChildren at t as' xs u) = ap (λ e. is_void (signs (view_jsx e))) (jsx.rolls-ElementWithChildren at t as' xs u) ∙ ap (λ t. is_void (signs t)) (view-Jsx-ElementWithChildren at t as' xs u)
void_rolled_jsx (Jsx-F.Fragment at xs) = ap (λ e. is_void (signs (view_jsx e))) (jsx.rolls-Fragment at xs) ∙ ap (λ t. is_void (signs t)) (view-Jsx-Fragment at xs)
void_rolled_jsx (Jsx-F.Text at a) = ap (λ e. is_void (signs (view_jsx e))) (jsx.rolls-Text at a) ∙ ap (λ t. is_void (signs t)) (view-Jsx-Text at a)
void_rolled_jsx (Jsx-F.Str at a) = ap (λ e. is_void (signs (view_jsx e))) (jsx.rolls-Str at a) ∙ ap (λ t. is_void (signs t)) (view-Jsx-Str at a)
void_rolled_jsx (Jsx-F.Container at e) = ap (λ e. is_void (signs (view_jsx e))) (jsx.rolls-Container at e) ∙ ap (λ t. is_void (signs t)) (view-Jsx-Container at e) ∙ void_container e
void_rolled_jsx (Jsx-F.«Jsx::Spread» at e) = ap (λ e. is_void (signs (view_jsx e))) (jsx.rolls-Spread at e) ∙ ap (λ t. is_void (signs t)) (view-Jsx-Spread at e)
void_rolled_jsx (Jsx-F.Attribute at a v) = ap (λ e. is_void (signs (view_jsx e))) (jsx.rolls-Attribute at a v) ∙ ap (λ t. is_void (signs t)) (view-Jsx-Attribute at a v)

pub void_jsx : (x : Jsx) → is_void (signs (view_jsx x)) ≡ false
void_jsx x = ap (λ e. is_void (signs (view_jsx e))) (sym (roll-out-Jsx x)) ∙ void_rolled_jsx (out-Jsx x)

void_rolled_access : (y : Access-F Access Control Expr Jsx Key Link Operation Pat Prop Stmt) → is_void (signs (view_access (roll-Access y))) ≡ false
void_rolled_access (Access-F.«Access::Call» at f xs) = ap (λ e. is_void (signs (view_access e))) (access.rolls-Call at f xs) ∙ ap (λ t. is_void (signs t)) (view-Access-Call at f xs)
void_rolled_access (Access-F.«Access::Member» at a b) = ap (λ e. is_void (signs (view_access e))) (access.rolls-Member at a b) ∙ ap (λ t. is_void (signs t)) (view-Access-Member at a b)
void_rolled_access (Access-F.«Access::Index» at a b) = ap (λ e. is_void (signs (view_access e))) (access.rolls-Index at a b) ∙ ap (λ t. is_void (signs t)) (view-Access-Index at a b)
void_rolled_access (Access-F.Tagged at a here ps xs) = ap (λ e. is_void (signs (view_access e))) (access.rolls-Tagged at a here ps xs) ∙ ap (λ t. is_void (signs t)) (view-Access-Tagged at a here ps xs)
void_rolled_access (Access-F.New at f xs) = ap (λ e. is_void (signs (view_access e))) (access.rolls-New at f xs) ∙ ap (λ t. is_void (signs t)) (view-Access-New at f xs)
void_rolled_access (Access-F.NewWithoutArguments at f) = ap (λ e. is_void (signs (view_access e))) (access.rolls-NewWithoutArguments at f) ∙ ap (λ t. is_void (signs t)) (view-Access-NewWithoutArguments at f)
void_rolled_access (Access-F.SuperCall at xs) = ap (λ e. is_void (signs (view_access e))) (access.rolls-SuperCall at xs) ∙ ap (λ t. is_void (signs t)) (view-Access-SuperCall at xs)
void_rolled_access (Access-F.SuperMember at b) = ap (λ e. is_void (signs (view_access e))) (access.rolls-SuperMember at b) ∙ ap (λ t. is_void (signs t)) (view-Access-SuperMember at b)
void_rolled_access (Access-F.SuperIndex at b) = ap (λ e. is_void (signs (view_access e))) (access.rolls-SuperIndex at b) ∙ ap (λ t. is_void (signs t)) (view-Access-SuperIndex at b)
void_rolled_access (Access-F.ImportCall at a) = ap (λ e. is_void (signs (view_access e))) (access.rolls-ImportCall at a) ∙ ap (λ t. is_void (signs t)) (view-Access-ImportCall at a)
void_rolled_access (Access-F.Chain at a xs) = ap (λ e. is_void (signs (view_access e))) (access.rolls-Chain at a xs) ∙ ap (λ t. is_void (signs t)) (view-Access-Chain at a xs)

pub void_access : (x : Access) → is_void (signs (view_access x)) ≡ false
void_access x = ap (λ e. is_void (signs (view_access e))) (sym (roll-out-Access x)) ∙ void_rolled_access (out-Access x)

pub ruleset voids = (views, void_literal, void_word, void_template, void_shorthand, void_jsx, void_access)

pub ruleset empties = (views, solid_control)
