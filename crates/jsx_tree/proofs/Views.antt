-- The view of each variant that holds other nodes.
use Rattle.std.proofs.Common.{◌≡◌, refl, ap, sym, ◌∙◌, map, List, [], ◌∷◌, true, false, Option, Some, None, Box, Vec, Global}
use Rattle.jsx_base.specs.Token as token
use Rattle.jsx_base.specs.declared.place.Span.{Span}
use Rattle.jsx_tree.specs.Kinds.{Block, Var, Declarator, Empty, ExprStmt, If, Do, While, For, ForDeclaration, ForIn, ForOf, ForBinding, Continue, Break, Return, Throw, Debugger, Label, Switch, Try, Catch, FunctionDecl, ClassDecl, Role, Binds, Assigns, FunctionExpr, ClassExpr, Method, Getter, Setter, Field, ComputedKey, ArrayPat, ObjectPat, PropertyPat, WithInit, RestPat, RestProperty, ParenTarget, Seq, Assign, OpAssign, Arrow, ArrowBlock, BareArrow, BareArrowBlock, Cond, Binary, Unary, Call, Member, Index, Tagged, New, NewWithoutArguments, SuperCall, SuperMember, SuperIndex, ImportCall, Chain, NameLink, IndexLink, CallLink, Array, Object, Property, Shorthand, Spread, Parenthesized, Element, ElementWithChildren, Fragment, Attribute, JsxSpread, statement, function, expression, jsx, Tree, leaf, node, list, none, part}
use Rattle.jsx_tree.specs.declared.text.Text.{Text}
use Rattle.jsx_tree.specs.declared.text.Ident.{Ident}
use Rattle.jsx_tree.specs.declared.text.LiteralKind.{LiteralKind}
use Rattle.jsx_tree.specs.declared.text.Word.{Word}
use Rattle.jsx_tree.specs.declared.text.DeclareWord as declared
use Rattle.jsx_tree.specs.declared.text.LinkForm.{LinkForm}
use Rattle.jsx_tree.specs.declared.text.Placement.{Placement}
use Rattle.jsx_tree.specs.declared.operator.BinaryOp as code_binary
use Rattle.jsx_tree.specs.declared.operator.AssignOp.{AssignOp}
use Rattle.jsx_tree.specs.declared.operator.UnaryOp as code_unary
use Rattle.jsx_tree.specs.declared.operator.UpdateOp as code_update
use Rattle.jsx_tree.specs.declared.operator.UpdateSide.{UpdateSide}
use Rattle.jsx_tree.specs.declared.tree.Tag.{Tag}
use Rattle.jsx_tree.specs.declared.tree.AttrName.{AttrName}
use Rattle.jsx_tree.specs.ViewOperators.{binary_of, assign_of, unary_of, update_of}
use Rattle.jsx_tree.specs.declared.tree.Expr.{Expr}
use Rattle.jsx_tree.specs.declared.tree.Operation.{Operation}
use Rattle.jsx_tree.specs.declared.tree.Access.{Access}
use Rattle.jsx_tree.specs.declared.tree.Link.{Link}
use Rattle.jsx_tree.specs.declared.tree.Prop.{Prop}
use Rattle.jsx_tree.specs.declared.tree.Key.{Key}
use Rattle.jsx_tree.specs.declared.tree.Pat.{Pat}
use Rattle.jsx_tree.specs.declared.tree.Stmt.{Stmt}
use Rattle.jsx_tree.specs.declared.tree.Control.{Control}
use Rattle.jsx_tree.specs.declared.tree.Jsx.{Jsx}
use Rattle.jsx_tree.specs.declared.tree.Expr.TheVariants as expr
use Rattle.jsx_tree.specs.declared.tree.Operation.TheVariants as operation
use Rattle.jsx_tree.specs.declared.tree.Access.TheVariants as access
use Rattle.jsx_tree.specs.declared.tree.Link.TheVariants as link
use Rattle.jsx_tree.specs.declared.tree.Prop.TheVariants as prop
use Rattle.jsx_tree.specs.declared.tree.Key.TheVariants as key
use Rattle.jsx_tree.specs.declared.tree.Pat.TheVariants as pat
use Rattle.jsx_tree.specs.declared.tree.Stmt.TheVariants as stmt
use Rattle.jsx_tree.specs.declared.tree.Control.TheVariants as control
use Rattle.jsx_tree.specs.declared.tree.Jsx.TheVariants as jsx
use Rattle.jsx_tree.specs.declared.tree.Access.TheOpen.{Access-F, Control-F, Expr-F, Jsx-F, Key-F, Link-F, Operation-F, Pat-F, Prop-F, Stmt-F}
use Rattle.jsx_tree.specs.declared.tree.Access.TheFolds.{fold-roll-Access, fold-roll-Control, fold-roll-Expr, fold-roll-Jsx, fold-roll-Key, fold-roll-Link, fold-roll-Operation, fold-roll-Pat, fold-roll-Prop, fold-roll-Stmt}
use Rattle.jsx_tree.specs.View.{inside, contents, text_of, word, name_of, kind_of_literal, view_word, word_of, is_optional, holder_of, forest, forest_at, optional_of, optional_at_of, optional_name, template, Owner, body, members_of_object, members_of_class, shorthand_of, clause_of, container_of, view_tag, view_attr_name, access_step, control_step, expr_step, jsx_step, key_step, link_step, operation_step, pat_step, prop_step, stmt_step, view_expr, view_operation, view_access, view_link, view_member, view_key, view_pattern, view_pat, view_stmt, view_control, view_jsx}

pub ap_2 : {A B C : Type 0} (f : A → B → C) {a a' : A} {b b' : B} → a ≡ a' → b ≡ b' → f a b ≡ f a' b'
ap_2 f {a} {a'} {b} {b'} p q = ap (λ x. f x b) p ∙ ap (f a') q

-- what boxes hold, seen one by one
pub held : {A B : Type 0} (g : Box A Global → Box B Global) (f : A → B) → ((b : Box A Global) → (g b).value ≡ f b.value) → (xs : List (Box A Global)) → contents (map g xs) ≡ map (inside f) xs
held g f e [] = refl
held g f e (x ∷ xs) = ap_2 (λ y ys. y ∷ ys) (e x) (held g f e xs)

pub view-Expr-Ident : (at : Option Span) (a : Ident) → view_expr (expr.Ident at a) ≡ name_of a
view-Expr-Ident at a = ap view_expr (sym (expr.rolls-Ident at a)) ∙ fold-roll-Expr Tree Tree Tree Tree Tree Tree Tree (Role → Tree) (Owner → Tree) Tree access_step control_step expr_step jsx_step key_step link_step operation_step pat_step prop_step stmt_step (Expr-F.«Expr::Ident» at a)

pub view-Expr-Literal : (at : Option Span) (k : LiteralKind) (a : Text) → view_expr (expr.Literal at k a) ≡ leaf (kind_of_literal k) (text_of a)
view-Expr-Literal at k a = ap view_expr (sym (expr.rolls-Literal at k a)) ∙ fold-roll-Expr Tree Tree Tree Tree Tree Tree Tree (Role → Tree) (Owner → Tree) Tree access_step control_step expr_step jsx_step key_step link_step operation_step pat_step prop_step stmt_step (Expr-F.«Expr::Literal» at k a)

pub view-Expr-Word : (at : Option Span) (w : Word) → view_expr (expr.Word at w) ≡ view_word w
view-Expr-Word at w = ap view_expr (sym (expr.rolls-Word at w)) ∙ fold-roll-Expr Tree Tree Tree Tree Tree Tree Tree (Role → Tree) (Owner → Tree) Tree access_step control_step expr_step jsx_step key_step link_step operation_step pat_step prop_step stmt_step (Expr-F.Word at w)

pub view-Expr-Operation : (a : Operation) → view_expr (expr.Operation a) ≡ (view_operation a)
view-Expr-Operation a = ap view_expr (sym (expr.rolls-Operation a)) ∙ fold-roll-Expr Tree Tree Tree Tree Tree Tree Tree (Role → Tree) (Owner → Tree) Tree access_step control_step expr_step jsx_step key_step link_step operation_step pat_step prop_step stmt_step (Expr-F.Operation a)

pub view-Expr-Access : (a : Access) → view_expr (expr.Access a) ≡ (view_access a)
view-Expr-Access a = ap view_expr (sym (expr.rolls-Access a)) ∙ fold-roll-Expr Tree Tree Tree Tree Tree Tree Tree (Role → Tree) (Owner → Tree) Tree access_step control_step expr_step jsx_step key_step link_step operation_step pat_step prop_step stmt_step (Expr-F.Access a)

pub view-Expr-Array : (at : Option Span) (xs : Vec (Box Expr Global) Global) → view_expr (expr.Array at xs) ≡ node (expression Array) (part (list (forest (map (inside view_expr) xs.items))) none)
view-Expr-Array at xs = ap view_expr (sym (expr.rolls-Array at xs)) ∙ fold-roll-Expr Tree Tree Tree Tree Tree Tree Tree (Role → Tree) (Owner → Tree) Tree access_step control_step expr_step jsx_step key_step link_step operation_step pat_step prop_step stmt_step (Expr-F.«Expr::Array» at xs) ∙ ap (λ us. node (expression Array) (part (list (forest us)) none)) (held _ view_expr (λ b. refl) xs.items)

pub view-Expr-Object : (at : Option Span) (xs : Vec (Box Prop Global) Global) → view_expr (expr.Object at xs) ≡ node (expression Object) (part (list (members_of_object (map (inside view_member) xs.items))) none)
view-Expr-Object at xs = ap view_expr (sym (expr.rolls-Object at xs)) ∙ fold-roll-Expr Tree Tree Tree Tree Tree Tree Tree (Role → Tree) (Owner → Tree) Tree access_step control_step expr_step jsx_step key_step link_step operation_step pat_step prop_step stmt_step (Expr-F.«Expr::Object» at xs) ∙ ap (λ us. node (expression Object) (part (list (members_of_object us)) none)) (held _ view_member (λ b. refl) xs.items)

pub view-Expr-Template : (at : Option Span) (ps : Vec Text Global) (xs : Vec (Box Expr Global) Global) → view_expr (expr.Template at ps xs) ≡ template false ps.items (map (inside view_expr) xs.items)
view-Expr-Template at ps xs = ap view_expr (sym (expr.rolls-Template at ps xs)) ∙ fold-roll-Expr Tree Tree Tree Tree Tree Tree Tree (Role → Tree) (Owner → Tree) Tree access_step control_step expr_step jsx_step key_step link_step operation_step pat_step prop_step stmt_step (Expr-F.Template at ps xs) ∙ ap (λ us. template false ps.items us) (held _ view_expr (λ b. refl) xs.items)

pub view-Expr-Function : (at : Option Span) (a : Option (Box Ident Global)) (ps : Vec (Box Pat Global) Global) (ds : Vec Text Global) (ss : Vec (Box Stmt Global) Global) → view_expr (expr.Function at a ps ds ss) ≡ node (function FunctionExpr) (part (optional_of name_of a) (part (list (forest_at Binds (map (inside view_pattern) ps.items))) (part (body ds.items (map (inside view_stmt) ss.items)) none)))
view-Expr-Function at a ps ds ss = ap view_expr (sym (expr.rolls-Function at a ps ds ss)) ∙ fold-roll-Expr Tree Tree Tree Tree Tree Tree Tree (Role → Tree) (Owner → Tree) Tree access_step control_step expr_step jsx_step key_step link_step operation_step pat_step prop_step stmt_step (Expr-F.«Expr::Function» at a ps ds ss) ∙ ap_2 (λ us vs. node (function FunctionExpr) (part (optional_of name_of a) (part (list (forest_at Binds us)) (part (body ds.items vs) none)))) (held _ view_pattern (λ b. refl) ps.items) (held _ view_stmt (λ b. refl) ss.items)

pub view-Expr-Class : (at : Option Span) (a : Option (Box Ident Global)) (e : Option (Box Expr Global)) (ms : Vec (Box Prop Global) Global) → view_expr (expr.Class at a e ms) ≡ node (function ClassExpr) (part (optional_of name_of a) (part (optional_of view_expr e) (part (list (members_of_class (map (inside view_member) ms.items))) none)))
view-Expr-Class at a None ms = ap view_expr (sym (expr.rolls-Class at a None ms)) ∙ fold-roll-Expr Tree Tree Tree Tree Tree Tree Tree (Role → Tree) (Owner → Tree) Tree access_step control_step expr_step jsx_step key_step link_step operation_step pat_step prop_step stmt_step (Expr-F.«Expr::Class» at a None ms) ∙ ap (λ us. node (function ClassExpr) (part (optional_of name_of a) (part (optional_of view_expr None) (part (list (members_of_class us)) none)))) (held _ view_member (λ b. refl) ms.items)
view-Expr-Class at a (Some e) ms = ap view_expr (sym (expr.rolls-Class at a (Some e) ms)) ∙ fold-roll-Expr Tree Tree Tree Tree Tree Tree Tree (Role → Tree) (Owner → Tree) Tree access_step control_step expr_step jsx_step key_step link_step operation_step pat_step prop_step stmt_step (Expr-F.«Expr::Class» at a (Some e) ms) ∙ ap (λ us. node (function ClassExpr) (part (optional_of name_of a) (part (optional_of view_expr (Some e)) (part (list (members_of_class us)) none)))) (held _ view_member (λ b. refl) ms.items)

pub view-Expr-Jsx : (a : Box Jsx Global) → view_expr (expr.Jsx a) ≡ view_jsx a.value
view-Expr-Jsx a = ap view_expr (sym (expr.rolls-Jsx a)) ∙ fold-roll-Expr Tree Tree Tree Tree Tree Tree Tree (Role → Tree) (Owner → Tree) Tree access_step control_step expr_step jsx_step key_step link_step operation_step pat_step prop_step stmt_step (Expr-F.Jsx a)

pub view-Expr-Paren : (at : Option Span) (a : Box Expr Global) → view_expr (expr.Paren at a) ≡ node (expression Parenthesized) (part (view_expr a.value) none)
view-Expr-Paren at a = ap view_expr (sym (expr.rolls-Paren at a)) ∙ fold-roll-Expr Tree Tree Tree Tree Tree Tree Tree (Role → Tree) (Owner → Tree) Tree access_step control_step expr_step jsx_step key_step link_step operation_step pat_step prop_step stmt_step (Expr-F.«Expr::Paren» at a)

pub view-Operation-Seq : (at : Option Span) (xs : Vec (Box Expr Global) Global) → view_operation (operation.Seq at xs) ≡ node (expression Seq) (part (list (forest (map (inside view_expr) xs.items))) none)
view-Operation-Seq at xs = ap view_operation (sym (operation.rolls-Seq at xs)) ∙ fold-roll-Operation Tree Tree Tree Tree Tree Tree Tree (Role → Tree) (Owner → Tree) Tree access_step control_step expr_step jsx_step key_step link_step operation_step pat_step prop_step stmt_step (Operation-F.Seq at xs) ∙ ap (λ us. node (expression Seq) (part (list (forest us)) none)) (held _ view_expr (λ b. refl) xs.items)

pub view-Operation-Assign : (at : Option Span) (p : Box Pat Global) (a : Box Expr Global) → view_operation (operation.Assign at p a) ≡ node (expression Assign) (part ((view_pattern p.value) Assigns) (part (view_expr a.value) none))
view-Operation-Assign at p a = ap view_operation (sym (operation.rolls-Assign at p a)) ∙ fold-roll-Operation Tree Tree Tree Tree Tree Tree Tree (Role → Tree) (Owner → Tree) Tree access_step control_step expr_step jsx_step key_step link_step operation_step pat_step prop_step stmt_step (Operation-F.Assign at p a)

pub view-Operation-OpAssign : (at : Option Span) (o : AssignOp) (p : Box Pat Global) (a : Box Expr Global) → view_operation (operation.OpAssign at o p a) ≡ node (expression (OpAssign (assign_of o))) (part ((view_pattern p.value) Assigns) (part (view_expr a.value) none))
view-Operation-OpAssign at o p a = ap view_operation (sym (operation.rolls-OpAssign at o p a)) ∙ fold-roll-Operation Tree Tree Tree Tree Tree Tree Tree (Role → Tree) (Owner → Tree) Tree access_step control_step expr_step jsx_step key_step link_step operation_step pat_step prop_step stmt_step (Operation-F.OpAssign at o p a)

pub view-Operation-Arrow : (at : Option Span) (ps : Vec (Box Pat Global) Global) (b : Box Expr Global) → view_operation (operation.Arrow at ps b) ≡ node (expression Arrow) (part (list (forest_at Binds (map (inside view_pattern) ps.items))) (part (view_expr b.value) none))
view-Operation-Arrow at ps b = ap view_operation (sym (operation.rolls-Arrow at ps b)) ∙ fold-roll-Operation Tree Tree Tree Tree Tree Tree Tree (Role → Tree) (Owner → Tree) Tree access_step control_step expr_step jsx_step key_step link_step operation_step pat_step prop_step stmt_step (Operation-F.Arrow at ps b) ∙ ap (λ us. node (expression Arrow) (part (list (forest_at Binds us)) (part (view_expr b.value) none))) (held _ view_pattern (λ b. refl) ps.items)

pub view-Operation-ArrowBlock : (at : Option Span) (ps : Vec (Box Pat Global) Global) (ds : Vec Text Global) (ss : Vec (Box Stmt Global) Global) → view_operation (operation.ArrowBlock at ps ds ss) ≡ node (expression ArrowBlock) (part (list (forest_at Binds (map (inside view_pattern) ps.items))) (part (body ds.items (map (inside view_stmt) ss.items)) none))
view-Operation-ArrowBlock at ps ds ss = ap view_operation (sym (operation.rolls-ArrowBlock at ps ds ss)) ∙ fold-roll-Operation Tree Tree Tree Tree Tree Tree Tree (Role → Tree) (Owner → Tree) Tree access_step control_step expr_step jsx_step key_step link_step operation_step pat_step prop_step stmt_step (Operation-F.ArrowBlock at ps ds ss) ∙ ap_2 (λ us vs. node (expression ArrowBlock) (part (list (forest_at Binds us)) (part (body ds.items vs) none))) (held _ view_pattern (λ b. refl) ps.items) (held _ view_stmt (λ b. refl) ss.items)

pub view-Operation-BareArrow : (at : Option Span) (a : Ident) (b : Box Expr Global) → view_operation (operation.BareArrow at a b) ≡ node (expression BareArrow) (part (name_of a) (part (view_expr b.value) none))
view-Operation-BareArrow at a b = ap view_operation (sym (operation.rolls-BareArrow at a b)) ∙ fold-roll-Operation Tree Tree Tree Tree Tree Tree Tree (Role → Tree) (Owner → Tree) Tree access_step control_step expr_step jsx_step key_step link_step operation_step pat_step prop_step stmt_step (Operation-F.BareArrow at a b)

pub view-Operation-BareArrowBlock : (at : Option Span) (a : Ident) (ds : Vec Text Global) (ss : Vec (Box Stmt Global) Global) → view_operation (operation.BareArrowBlock at a ds ss) ≡ node (expression BareArrowBlock) (part (name_of a) (part (body ds.items (map (inside view_stmt) ss.items)) none))
view-Operation-BareArrowBlock at a ds ss = ap view_operation (sym (operation.rolls-BareArrowBlock at a ds ss)) ∙ fold-roll-Operation Tree Tree Tree Tree Tree Tree Tree (Role → Tree) (Owner → Tree) Tree access_step control_step expr_step jsx_step key_step link_step operation_step pat_step prop_step stmt_step (Operation-F.BareArrowBlock at a ds ss) ∙ ap (λ us. node (expression BareArrowBlock) (part (name_of a) (part (body ds.items us) none))) (held _ view_stmt (λ b. refl) ss.items)

pub view-Operation-Cond : (at : Option Span) (a : Box Expr Global) (b : Box Expr Global) (c : Box Expr Global) → view_operation (operation.Cond at a b c) ≡ node (expression Cond) (part (view_expr a.value) (part (view_expr b.value) (part (view_expr c.value) none)))
view-Operation-Cond at a b c = ap view_operation (sym (operation.rolls-Cond at a b c)) ∙ fold-roll-Operation Tree Tree Tree Tree Tree Tree Tree (Role → Tree) (Owner → Tree) Tree access_step control_step expr_step jsx_step key_step link_step operation_step pat_step prop_step stmt_step (Operation-F.Cond at a b c)

pub view-Operation-Binary : (at : Option Span) (o : code_binary.BinaryOp) (a : Box Expr Global) (b : Box Expr Global) → view_operation (operation.Binary at o a b) ≡ node (expression (Binary (binary_of o))) (part (view_expr a.value) (part (view_expr b.value) none))
view-Operation-Binary at o a b = ap view_operation (sym (operation.rolls-Binary at o a b)) ∙ fold-roll-Operation Tree Tree Tree Tree Tree Tree Tree (Role → Tree) (Owner → Tree) Tree access_step control_step expr_step jsx_step key_step link_step operation_step pat_step prop_step stmt_step (Operation-F.Binary at o a b)

pub view-Operation-Unary : (at : Option Span) (o : code_unary.UnaryOp) (a : Box Expr Global) → view_operation (operation.Unary at o a) ≡ node (expression (Unary (unary_of o))) (part (view_expr a.value) none)
view-Operation-Unary at o a = ap view_operation (sym (operation.rolls-Unary at o a)) ∙ fold-roll-Operation Tree Tree Tree Tree Tree Tree Tree (Role → Tree) (Owner → Tree) Tree access_step control_step expr_step jsx_step key_step link_step operation_step pat_step prop_step stmt_step (Operation-F.Unary at o a)

pub view-Operation-Update : (at : Option Span) (o : code_update.UpdateOp) (s : UpdateSide) (p : Box Pat Global) → view_operation (operation.Update at o s p) ≡ node (expression (update_of o s)) (part ((view_pattern p.value) Assigns) none)
view-Operation-Update at o s p = ap view_operation (sym (operation.rolls-Update at o s p)) ∙ fold-roll-Operation Tree Tree Tree Tree Tree Tree Tree (Role → Tree) (Owner → Tree) Tree access_step control_step expr_step jsx_step key_step link_step operation_step pat_step prop_step stmt_step (Operation-F.Update at o s p)

pub view-Operation-Spread : (at : Option Span) (a : Box Expr Global) → view_operation (operation.Spread at a) ≡ node (expression Spread) (part (view_expr a.value) none)
view-Operation-Spread at a = ap view_operation (sym (operation.rolls-Spread at a)) ∙ fold-roll-Operation Tree Tree Tree Tree Tree Tree Tree (Role → Tree) (Owner → Tree) Tree access_step control_step expr_step jsx_step key_step link_step operation_step pat_step prop_step stmt_step (Operation-F.«Operation::Spread» at a)

pub view-Operation-Hole : view_operation operation.Hole ≡ leaf token.Elision []
view-Operation-Hole = ap view_operation (sym operation.rolls-Hole) ∙ fold-roll-Operation Tree Tree Tree Tree Tree Tree Tree (Role → Tree) (Owner → Tree) Tree access_step control_step expr_step jsx_step key_step link_step operation_step pat_step prop_step stmt_step Operation-F.«Operation::Hole»

pub view-Access-Call : (at : Option Span) (f : Box Expr Global) (xs : Vec (Box Expr Global) Global) → view_access (access.Call at f xs) ≡ node (expression Call) (part (view_expr f.value) (part (list (forest (map (inside view_expr) xs.items))) none))
view-Access-Call at f xs = ap view_access (sym (access.rolls-Call at f xs)) ∙ fold-roll-Access Tree Tree Tree Tree Tree Tree Tree (Role → Tree) (Owner → Tree) Tree access_step control_step expr_step jsx_step key_step link_step operation_step pat_step prop_step stmt_step (Access-F.«Access::Call» at f xs) ∙ ap (λ us. node (expression Call) (part (view_expr f.value) (part (list (forest us)) none))) (held _ view_expr (λ b. refl) xs.items)

pub view-Access-Member : (at : Option Span) (a : Box Expr Global) (b : Text) → view_access (access.Member at a b) ≡ node (expression Member) (part (view_expr a.value) (part (word b) none))
view-Access-Member at a b = ap view_access (sym (access.rolls-Member at a b)) ∙ fold-roll-Access Tree Tree Tree Tree Tree Tree Tree (Role → Tree) (Owner → Tree) Tree access_step control_step expr_step jsx_step key_step link_step operation_step pat_step prop_step stmt_step (Access-F.«Access::Member» at a b)

pub view-Access-Index : (at : Option Span) (a : Box Expr Global) (b : Box Expr Global) → view_access (access.Index at a b) ≡ node (expression Index) (part (view_expr a.value) (part (view_expr b.value) none))
view-Access-Index at a b = ap view_access (sym (access.rolls-Index at a b)) ∙ fold-roll-Access Tree Tree Tree Tree Tree Tree Tree (Role → Tree) (Owner → Tree) Tree access_step control_step expr_step jsx_step key_step link_step operation_step pat_step prop_step stmt_step (Access-F.«Access::Index» at a b)

pub view-Access-Tagged : (at : Option Span) (a : Box Expr Global) (here : Option Span) (ps : Vec Text Global) (xs : Vec (Box Expr Global) Global) → view_access (access.Tagged at a here ps xs) ≡ node (expression Tagged) (part (view_expr a.value) (part (template true ps.items (map (inside view_expr) xs.items)) none))
view-Access-Tagged at a here ps xs = ap view_access (sym (access.rolls-Tagged at a here ps xs)) ∙ fold-roll-Access Tree Tree Tree Tree Tree Tree Tree (Role → Tree) (Owner → Tree) Tree access_step control_step expr_step jsx_step key_step link_step operation_step pat_step prop_step stmt_step (Access-F.Tagged at a here ps xs) ∙ ap (λ us. node (expression Tagged) (part (view_expr a.value) (part (template true ps.items us) none))) (held _ view_expr (λ b. refl) xs.items)

pub view-Access-New : (at : Option Span) (f : Box Expr Global) (xs : Vec (Box Expr Global) Global) → view_access (access.New at f xs) ≡ node (expression New) (part (view_expr f.value) (part (list (forest (map (inside view_expr) xs.items))) none))
view-Access-New at f xs = ap view_access (sym (access.rolls-New at f xs)) ∙ fold-roll-Access Tree Tree Tree Tree Tree Tree Tree (Role → Tree) (Owner → Tree) Tree access_step control_step expr_step jsx_step key_step link_step operation_step pat_step prop_step stmt_step (Access-F.New at f xs) ∙ ap (λ us. node (expression New) (part (view_expr f.value) (part (list (forest us)) none))) (held _ view_expr (λ b. refl) xs.items)

pub view-Access-NewWithoutArguments : (at : Option Span) (f : Box Expr Global) → view_access (access.NewWithoutArguments at f) ≡ node (expression NewWithoutArguments) (part (view_expr f.value) none)
view-Access-NewWithoutArguments at f = ap view_access (sym (access.rolls-NewWithoutArguments at f)) ∙ fold-roll-Access Tree Tree Tree Tree Tree Tree Tree (Role → Tree) (Owner → Tree) Tree access_step control_step expr_step jsx_step key_step link_step operation_step pat_step prop_step stmt_step (Access-F.NewWithoutArguments at f)

pub view-Access-SuperCall : (at : Option Span) (xs : Vec (Box Expr Global) Global) → view_access (access.SuperCall at xs) ≡ node (expression SuperCall) (part (list (forest (map (inside view_expr) xs.items))) none)
view-Access-SuperCall at xs = ap view_access (sym (access.rolls-SuperCall at xs)) ∙ fold-roll-Access Tree Tree Tree Tree Tree Tree Tree (Role → Tree) (Owner → Tree) Tree access_step control_step expr_step jsx_step key_step link_step operation_step pat_step prop_step stmt_step (Access-F.SuperCall at xs) ∙ ap (λ us. node (expression SuperCall) (part (list (forest us)) none)) (held _ view_expr (λ b. refl) xs.items)

pub view-Access-SuperMember : (at : Option Span) (b : Text) → view_access (access.SuperMember at b) ≡ node (expression SuperMember) (part (word b) none)
view-Access-SuperMember at b = ap view_access (sym (access.rolls-SuperMember at b)) ∙ fold-roll-Access Tree Tree Tree Tree Tree Tree Tree (Role → Tree) (Owner → Tree) Tree access_step control_step expr_step jsx_step key_step link_step operation_step pat_step prop_step stmt_step (Access-F.SuperMember at b)

pub view-Access-SuperIndex : (at : Option Span) (b : Box Expr Global) → view_access (access.SuperIndex at b) ≡ node (expression SuperIndex) (part (view_expr b.value) none)
view-Access-SuperIndex at b = ap view_access (sym (access.rolls-SuperIndex at b)) ∙ fold-roll-Access Tree Tree Tree Tree Tree Tree Tree (Role → Tree) (Owner → Tree) Tree access_step control_step expr_step jsx_step key_step link_step operation_step pat_step prop_step stmt_step (Access-F.SuperIndex at b)

pub view-Access-ImportCall : (at : Option Span) (a : Box Expr Global) → view_access (access.ImportCall at a) ≡ node (expression ImportCall) (part (view_expr a.value) none)
view-Access-ImportCall at a = ap view_access (sym (access.rolls-ImportCall at a)) ∙ fold-roll-Access Tree Tree Tree Tree Tree Tree Tree (Role → Tree) (Owner → Tree) Tree access_step control_step expr_step jsx_step key_step link_step operation_step pat_step prop_step stmt_step (Access-F.ImportCall at a)

pub view-Access-Chain : (at : Option Span) (a : Box Expr Global) (xs : Vec (Box Link Global) Global) → view_access (access.Chain at a xs) ≡ node (expression Chain) (part (view_expr a.value) (part (list (forest (map (inside view_link) xs.items))) none))
view-Access-Chain at a xs = ap view_access (sym (access.rolls-Chain at a xs)) ∙ fold-roll-Access Tree Tree Tree Tree Tree Tree Tree (Role → Tree) (Owner → Tree) Tree access_step control_step expr_step jsx_step key_step link_step operation_step pat_step prop_step stmt_step (Access-F.Chain at a xs) ∙ ap (λ us. node (expression Chain) (part (view_expr a.value) (part (list (forest us)) none))) (held _ view_link (λ b. refl) xs.items)

pub view-Link-Member : (at : Option Span) (q : LinkForm) (b : Text) → view_link (link.Member at q b) ≡ node (expression (NameLink (is_optional q))) (part (word b) none)
view-Link-Member at q b = ap view_link (sym (link.rolls-Member at q b)) ∙ fold-roll-Link Tree Tree Tree Tree Tree Tree Tree (Role → Tree) (Owner → Tree) Tree access_step control_step expr_step jsx_step key_step link_step operation_step pat_step prop_step stmt_step (Link-F.«Link::Member» at q b)

pub view-Link-Index : (at : Option Span) (q : LinkForm) (b : Box Expr Global) → view_link (link.Index at q b) ≡ node (expression (IndexLink (is_optional q))) (part (view_expr b.value) none)
view-Link-Index at q b = ap view_link (sym (link.rolls-Index at q b)) ∙ fold-roll-Link Tree Tree Tree Tree Tree Tree Tree (Role → Tree) (Owner → Tree) Tree access_step control_step expr_step jsx_step key_step link_step operation_step pat_step prop_step stmt_step (Link-F.«Link::Index» at q b)

pub view-Link-Call : (at : Option Span) (q : LinkForm) (xs : Vec (Box Expr Global) Global) → view_link (link.Call at q xs) ≡ node (expression (CallLink (is_optional q))) (part (list (forest (map (inside view_expr) xs.items))) none)
view-Link-Call at q xs = ap view_link (sym (link.rolls-Call at q xs)) ∙ fold-roll-Link Tree Tree Tree Tree Tree Tree Tree (Role → Tree) (Owner → Tree) Tree access_step control_step expr_step jsx_step key_step link_step operation_step pat_step prop_step stmt_step (Link-F.«Link::Call» at q xs) ∙ ap (λ us. node (expression (CallLink (is_optional q))) (part (list (forest us)) none)) (held _ view_expr (λ b. refl) xs.items)

pub view-Prop-Pair : (at : Option Span) (k : Key) (a : Box Expr Global) (o : Owner) → view_member (prop.Pair at k a) o ≡ node (expression Property) (part (view_key k) (part (view_expr a.value) none))
view-Prop-Pair at k a o = ap (λ f. f o) (ap view_member (sym (prop.rolls-Pair at k a)) ∙ fold-roll-Prop Tree Tree Tree Tree Tree Tree Tree (Role → Tree) (Owner → Tree) Tree access_step control_step expr_step jsx_step key_step link_step operation_step pat_step prop_step stmt_step (Prop-F.«Prop::Pair» at k a))

pub view-Prop-Shorthand : (at : Option Span) (a : Ident) (o : Owner) → view_member (prop.Shorthand at a) o ≡ node (expression Shorthand) (part (name_of a) none)
view-Prop-Shorthand at a o = ap (λ f. f o) (ap view_member (sym (prop.rolls-Shorthand at a)) ∙ fold-roll-Prop Tree Tree Tree Tree Tree Tree Tree (Role → Tree) (Owner → Tree) Tree access_step control_step expr_step jsx_step key_step link_step operation_step pat_step prop_step stmt_step (Prop-F.«Prop::Shorthand» at a))

pub view-Prop-Spread : (at : Option Span) (a : Box Expr Global) (o : Owner) → view_member (prop.Spread at a) o ≡ node (expression Spread) (part (view_expr a.value) none)
view-Prop-Spread at a o = ap (λ f. f o) (ap view_member (sym (prop.rolls-Spread at a)) ∙ fold-roll-Prop Tree Tree Tree Tree Tree Tree Tree (Role → Tree) (Owner → Tree) Tree access_step control_step expr_step jsx_step key_step link_step operation_step pat_step prop_step stmt_step (Prop-F.«Prop::Spread» at a))

pub view-Prop-Method : (at : Option Span) (p : Placement) (k : Key) (ps : Vec (Box Pat Global) Global) (ds : Vec Text Global) (ss : Vec (Box Stmt Global) Global) (o : Owner) → view_member (prop.Method at p k ps ds ss) o ≡ node (function (Method (holder_of o p))) (part (view_key k) (part (list (forest_at Binds (map (inside view_pattern) ps.items))) (part (body ds.items (map (inside view_stmt) ss.items)) none)))
view-Prop-Method at p k ps ds ss o = ap (λ f. f o) (ap view_member (sym (prop.rolls-Method at p k ps ds ss)) ∙ fold-roll-Prop Tree Tree Tree Tree Tree Tree Tree (Role → Tree) (Owner → Tree) Tree access_step control_step expr_step jsx_step key_step link_step operation_step pat_step prop_step stmt_step (Prop-F.Method at p k ps ds ss)) ∙ ap_2 (λ us vs. node (function (Method (holder_of o p))) (part (view_key k) (part (list (forest_at Binds us)) (part (body ds.items vs) none)))) (held _ view_pattern (λ b. refl) ps.items) (held _ view_stmt (λ b. refl) ss.items)

pub view-Prop-Getter : (at : Option Span) (p : Placement) (k : Key) (ds : Vec Text Global) (ss : Vec (Box Stmt Global) Global) (o : Owner) → view_member (prop.Getter at p k ds ss) o ≡ node (function (Getter (holder_of o p))) (part (view_key k) (part (body ds.items (map (inside view_stmt) ss.items)) none))
view-Prop-Getter at p k ds ss o = ap (λ f. f o) (ap view_member (sym (prop.rolls-Getter at p k ds ss)) ∙ fold-roll-Prop Tree Tree Tree Tree Tree Tree Tree (Role → Tree) (Owner → Tree) Tree access_step control_step expr_step jsx_step key_step link_step operation_step pat_step prop_step stmt_step (Prop-F.Getter at p k ds ss)) ∙ ap (λ us. node (function (Getter (holder_of o p))) (part (view_key k) (part (body ds.items us) none))) (held _ view_stmt (λ b. refl) ss.items)

pub view-Prop-Setter : (at : Option Span) (p : Placement) (k : Key) (q : Box Pat Global) (ds : Vec Text Global) (ss : Vec (Box Stmt Global) Global) (o : Owner) → view_member (prop.Setter at p k q ds ss) o ≡ node (function (Setter (holder_of o p))) (part (view_key k) (part ((view_pattern q.value) Binds) (part (body ds.items (map (inside view_stmt) ss.items)) none)))
view-Prop-Setter at p k q ds ss o = ap (λ f. f o) (ap view_member (sym (prop.rolls-Setter at p k q ds ss)) ∙ fold-roll-Prop Tree Tree Tree Tree Tree Tree Tree (Role → Tree) (Owner → Tree) Tree access_step control_step expr_step jsx_step key_step link_step operation_step pat_step prop_step stmt_step (Prop-F.Setter at p k q ds ss)) ∙ ap (λ us. node (function (Setter (holder_of o p))) (part (view_key k) (part ((view_pattern q.value) Binds) (part (body ds.items us) none)))) (held _ view_stmt (λ b. refl) ss.items)

pub view-Prop-Field : (at : Option Span) (p : Placement) (k : Key) (e : Option (Box Expr Global)) (o : Owner) → view_member (prop.Field at p k e) o ≡ node (function (Field (holder_of o p))) (part (view_key k) (part (optional_of view_expr e) none))
view-Prop-Field at p k None o = ap (λ f. f o) (ap view_member (sym (prop.rolls-Field at p k None)) ∙ fold-roll-Prop Tree Tree Tree Tree Tree Tree Tree (Role → Tree) (Owner → Tree) Tree access_step control_step expr_step jsx_step key_step link_step operation_step pat_step prop_step stmt_step (Prop-F.Field at p k None))
view-Prop-Field at p k (Some e) o = ap (λ f. f o) (ap view_member (sym (prop.rolls-Field at p k (Some e))) ∙ fold-roll-Prop Tree Tree Tree Tree Tree Tree Tree (Role → Tree) (Owner → Tree) Tree access_step control_step expr_step jsx_step key_step link_step operation_step pat_step prop_step stmt_step (Prop-F.Field at p k (Some e)))

pub view-Key-Name : (a : Text) → view_key (key.Name a) ≡ word a
view-Key-Name a = ap view_key (sym (key.rolls-Name a)) ∙ fold-roll-Key Tree Tree Tree Tree Tree Tree Tree (Role → Tree) (Owner → Tree) Tree access_step control_step expr_step jsx_step key_step link_step operation_step pat_step prop_step stmt_step (Key-F.Name a)

pub view-Key-Literal : (k : LiteralKind) (a : Text) → view_key (key.Literal k a) ≡ leaf (kind_of_literal k) (text_of a)
view-Key-Literal k a = ap view_key (sym (key.rolls-Literal k a)) ∙ fold-roll-Key Tree Tree Tree Tree Tree Tree Tree (Role → Tree) (Owner → Tree) Tree access_step control_step expr_step jsx_step key_step link_step operation_step pat_step prop_step stmt_step (Key-F.«Key::Literal» k a)

pub view-Key-Computed : (at : Option Span) (a : Box Expr Global) → view_key (key.Computed at a) ≡ node (function ComputedKey) (part (view_expr a.value) none)
view-Key-Computed at a = ap view_key (sym (key.rolls-Computed at a)) ∙ fold-roll-Key Tree Tree Tree Tree Tree Tree Tree (Role → Tree) (Owner → Tree) Tree access_step control_step expr_step jsx_step key_step link_step operation_step pat_step prop_step stmt_step (Key-F.Computed at a)

pub view-Pat-Ident : (at : Option Span) (a : Ident) (r : Role) → view_pattern (pat.Ident at a) r ≡ name_of a
view-Pat-Ident at a r = ap (λ f. f r) (ap view_pattern (sym (pat.rolls-Ident at a)) ∙ fold-roll-Pat Tree Tree Tree Tree Tree Tree Tree (Role → Tree) (Owner → Tree) Tree access_step control_step expr_step jsx_step key_step link_step operation_step pat_step prop_step stmt_step (Pat-F.«Pat::Ident» at a))

pub view-Pat-Array : (at : Option Span) (xs : Vec (Box Pat Global) Global) (r : Role) → view_pattern (pat.Array at xs) r ≡ node (function (ArrayPat r)) (part (list (forest_at r (map (inside view_pattern) xs.items))) none)
view-Pat-Array at xs r = ap (λ f. f r) (ap view_pattern (sym (pat.rolls-Array at xs)) ∙ fold-roll-Pat Tree Tree Tree Tree Tree Tree Tree (Role → Tree) (Owner → Tree) Tree access_step control_step expr_step jsx_step key_step link_step operation_step pat_step prop_step stmt_step (Pat-F.«Pat::Array» at xs)) ∙ ap (λ us. node (function (ArrayPat r)) (part (list (forest_at r us)) none)) (held _ view_pattern (λ b. refl) xs.items)

pub view-Pat-Object : (at : Option Span) (xs : Vec (Box Pat Global) Global) (r : Role) → view_pattern (pat.Object at xs) r ≡ node (function (ObjectPat r)) (part (list (forest_at r (map (inside view_pattern) xs.items))) none)
view-Pat-Object at xs r = ap (λ f. f r) (ap view_pattern (sym (pat.rolls-Object at xs)) ∙ fold-roll-Pat Tree Tree Tree Tree Tree Tree Tree (Role → Tree) (Owner → Tree) Tree access_step control_step expr_step jsx_step key_step link_step operation_step pat_step prop_step stmt_step (Pat-F.«Pat::Object» at xs)) ∙ ap (λ us. node (function (ObjectPat r)) (part (list (forest_at r us)) none)) (held _ view_pattern (λ b. refl) xs.items)

pub view-Pat-Target : (a : Box Expr Global) (r : Role) → view_pattern (pat.Target a) r ≡ (view_expr a.value)
view-Pat-Target a r = ap (λ f. f r) (ap view_pattern (sym (pat.rolls-Target a)) ∙ fold-roll-Pat Tree Tree Tree Tree Tree Tree Tree (Role → Tree) (Owner → Tree) Tree access_step control_step expr_step jsx_step key_step link_step operation_step pat_step prop_step stmt_step (Pat-F.Target a))

pub view-Pat-Paren : (at : Option Span) (p : Box Pat Global) (r : Role) → view_pattern (pat.Paren at p) r ≡ node (function ParenTarget) (part ((view_pattern p.value) r) none)
view-Pat-Paren at p r = ap (λ f. f r) (ap view_pattern (sym (pat.rolls-Paren at p)) ∙ fold-roll-Pat Tree Tree Tree Tree Tree Tree Tree (Role → Tree) (Owner → Tree) Tree access_step control_step expr_step jsx_step key_step link_step operation_step pat_step prop_step stmt_step (Pat-F.«Pat::Paren» at p))

pub view-Pat-Binding : (at : Option Span) (p : Box Pat Global) (i : Option (Box Expr Global)) (r : Role) → view_pattern (pat.Binding at p i) r ≡ node (statement Declarator) (part ((view_pattern p.value) r) (part (optional_of view_expr i) none))
view-Pat-Binding at p None r = ap (λ f. f r) (ap view_pattern (sym (pat.rolls-Binding at p None)) ∙ fold-roll-Pat Tree Tree Tree Tree Tree Tree Tree (Role → Tree) (Owner → Tree) Tree access_step control_step expr_step jsx_step key_step link_step operation_step pat_step prop_step stmt_step (Pat-F.Binding at p None))
view-Pat-Binding at p (Some i) r = ap (λ f. f r) (ap view_pattern (sym (pat.rolls-Binding at p (Some i))) ∙ fold-roll-Pat Tree Tree Tree Tree Tree Tree Tree (Role → Tree) (Owner → Tree) Tree access_step control_step expr_step jsx_step key_step link_step operation_step pat_step prop_step stmt_step (Pat-F.Binding at p (Some i)))

pub view-Pat-WithInit : (at : Option Span) (p : Box Pat Global) (a : Box Expr Global) (r : Role) → view_pattern (pat.WithInit at p a) r ≡ node (function (WithInit r)) (part ((view_pattern p.value) r) (part (view_expr a.value) none))
view-Pat-WithInit at p a r = ap (λ f. f r) (ap view_pattern (sym (pat.rolls-WithInit at p a)) ∙ fold-roll-Pat Tree Tree Tree Tree Tree Tree Tree (Role → Tree) (Owner → Tree) Tree access_step control_step expr_step jsx_step key_step link_step operation_step pat_step prop_step stmt_step (Pat-F.WithInit at p a))

pub view-Pat-Rest : (at : Option Span) (p : Box Pat Global) (r : Role) → view_pattern (pat.Rest at p) r ≡ node (function (RestPat r)) (part ((view_pattern p.value) r) none)
view-Pat-Rest at p r = ap (λ f. f r) (ap view_pattern (sym (pat.rolls-Rest at p)) ∙ fold-roll-Pat Tree Tree Tree Tree Tree Tree Tree (Role → Tree) (Owner → Tree) Tree access_step control_step expr_step jsx_step key_step link_step operation_step pat_step prop_step stmt_step (Pat-F.Rest at p))

pub view-Pat-Hole : (r : Role) → view_pattern pat.Hole r ≡ leaf token.Elision []
view-Pat-Hole r = ap (λ f. f r) (ap view_pattern (sym pat.rolls-Hole) ∙ fold-roll-Pat Tree Tree Tree Tree Tree Tree Tree (Role → Tree) (Owner → Tree) Tree access_step control_step expr_step jsx_step key_step link_step operation_step pat_step prop_step stmt_step Pat-F.«Pat::Hole»)

pub view-Pat-Pair : (at : Option Span) (k : Key) (p : Box Pat Global) (r : Role) → view_pattern (pat.Pair at k p) r ≡ node (function (PropertyPat r)) (part (view_key k) (part ((view_pattern p.value) r) none))
view-Pat-Pair at k p r = ap (λ f. f r) (ap view_pattern (sym (pat.rolls-Pair at k p)) ∙ fold-roll-Pat Tree Tree Tree Tree Tree Tree Tree (Role → Tree) (Owner → Tree) Tree access_step control_step expr_step jsx_step key_step link_step operation_step pat_step prop_step stmt_step (Pat-F.«Pat::Pair» at k p))

pub view-Pat-Shorthand : (at : Option Span) (a : Ident) (e : Option (Box Expr Global)) (r : Role) → view_pattern (pat.Shorthand at a e) r ≡ shorthand_of view_expr r (name_of a) e
view-Pat-Shorthand at a None r = ap (λ f. f r) (ap view_pattern (sym (pat.rolls-Shorthand at a None)) ∙ fold-roll-Pat Tree Tree Tree Tree Tree Tree Tree (Role → Tree) (Owner → Tree) Tree access_step control_step expr_step jsx_step key_step link_step operation_step pat_step prop_step stmt_step (Pat-F.«Pat::Shorthand» at a None))
view-Pat-Shorthand at a (Some e) r = ap (λ f. f r) (ap view_pattern (sym (pat.rolls-Shorthand at a (Some e))) ∙ fold-roll-Pat Tree Tree Tree Tree Tree Tree Tree (Role → Tree) (Owner → Tree) Tree access_step control_step expr_step jsx_step key_step link_step operation_step pat_step prop_step stmt_step (Pat-F.«Pat::Shorthand» at a (Some e)))

pub view-Pat-RestProperty : (at : Option Span) (a : Ident) (r : Role) → view_pattern (pat.RestProperty at a) r ≡ node (function (RestProperty r)) (part (name_of a) none)
view-Pat-RestProperty at a r = ap (λ f. f r) (ap view_pattern (sym (pat.rolls-RestProperty at a)) ∙ fold-roll-Pat Tree Tree Tree Tree Tree Tree Tree (Role → Tree) (Owner → Tree) Tree access_step control_step expr_step jsx_step key_step link_step operation_step pat_step prop_step stmt_step (Pat-F.RestProperty at a))

pub view-Pat-Declaration : (at : Option Span) (w : declared.DeclareWord) (ps : Vec (Box Pat Global) Global) (r : Role) → view_pattern (pat.Declaration at w ps) r ≡ node (statement (ForDeclaration (word_of w))) (part (list (forest_at Binds (map (inside view_pattern) ps.items))) none)
view-Pat-Declaration at w ps r = ap (λ f. f r) (ap view_pattern (sym (pat.rolls-Declaration at w ps)) ∙ fold-roll-Pat Tree Tree Tree Tree Tree Tree Tree (Role → Tree) (Owner → Tree) Tree access_step control_step expr_step jsx_step key_step link_step operation_step pat_step prop_step stmt_step (Pat-F.Declaration at w ps)) ∙ ap (λ us. node (statement (ForDeclaration (word_of w))) (part (list (forest_at Binds us)) none)) (held _ view_pattern (λ b. refl) ps.items)

pub view-Pat-Head : (at : Option Span) (w : declared.DeclareWord) (p : Box Pat Global) (r : Role) → view_pattern (pat.Head at w p) r ≡ node (statement (ForBinding (word_of w))) (part ((view_pattern p.value) Binds) none)
view-Pat-Head at w p r = ap (λ f. f r) (ap view_pattern (sym (pat.rolls-Head at w p)) ∙ fold-roll-Pat Tree Tree Tree Tree Tree Tree Tree (Role → Tree) (Owner → Tree) Tree access_step control_step expr_step jsx_step key_step link_step operation_step pat_step prop_step stmt_step (Pat-F.Head at w p))

pub view-Stmt-Block : (at : Option Span) (ss : Vec (Box Stmt Global) Global) → view_stmt (stmt.Block at ss) ≡ node (statement Block) (part (list (forest (map (inside view_stmt) ss.items))) none)
view-Stmt-Block at ss = ap view_stmt (sym (stmt.rolls-Block at ss)) ∙ fold-roll-Stmt Tree Tree Tree Tree Tree Tree Tree (Role → Tree) (Owner → Tree) Tree access_step control_step expr_step jsx_step key_step link_step operation_step pat_step prop_step stmt_step (Stmt-F.Block at ss) ∙ ap (λ us. node (statement Block) (part (list (forest us)) none)) (held _ view_stmt (λ b. refl) ss.items)

pub view-Stmt-Var : (at : Option Span) (w : declared.DeclareWord) (ps : Vec (Box Pat Global) Global) → view_stmt (stmt.Var at w ps) ≡ node (statement (Var (word_of w))) (part (list (forest_at Binds (map (inside view_pattern) ps.items))) none)
view-Stmt-Var at w ps = ap view_stmt (sym (stmt.rolls-Var at w ps)) ∙ fold-roll-Stmt Tree Tree Tree Tree Tree Tree Tree (Role → Tree) (Owner → Tree) Tree access_step control_step expr_step jsx_step key_step link_step operation_step pat_step prop_step stmt_step (Stmt-F.Var at w ps) ∙ ap (λ us. node (statement (Var (word_of w))) (part (list (forest_at Binds us)) none)) (held _ view_pattern (λ b. refl) ps.items)

pub view-Stmt-Empty : (at : Option Span) → view_stmt (stmt.Empty at) ≡ node (statement Empty) none
view-Stmt-Empty at = ap view_stmt (sym (stmt.rolls-Empty at)) ∙ fold-roll-Stmt Tree Tree Tree Tree Tree Tree Tree (Role → Tree) (Owner → Tree) Tree access_step control_step expr_step jsx_step key_step link_step operation_step pat_step prop_step stmt_step (Stmt-F.Empty at)

pub view-Stmt-Expr : (at : Option Span) (e : Box Expr Global) → view_stmt (stmt.Expr at e) ≡ node (statement ExprStmt) (part (view_expr e.value) none)
view-Stmt-Expr at e = ap view_stmt (sym (stmt.rolls-Expr at e)) ∙ fold-roll-Stmt Tree Tree Tree Tree Tree Tree Tree (Role → Tree) (Owner → Tree) Tree access_step control_step expr_step jsx_step key_step link_step operation_step pat_step prop_step stmt_step (Stmt-F.Expr at e)

pub view-Stmt-Control : (a : Control) → view_stmt (stmt.Control a) ≡ (view_control a)
view-Stmt-Control a = ap view_stmt (sym (stmt.rolls-Control a)) ∙ fold-roll-Stmt Tree Tree Tree Tree Tree Tree Tree (Role → Tree) (Owner → Tree) Tree access_step control_step expr_step jsx_step key_step link_step operation_step pat_step prop_step stmt_step (Stmt-F.Control a)

pub view-Stmt-Continue : (at : Option Span) (a : Option Ident) → view_stmt (stmt.Continue at a) ≡ node (statement Continue) (part (optional_name a) none)
view-Stmt-Continue at a = ap view_stmt (sym (stmt.rolls-Continue at a)) ∙ fold-roll-Stmt Tree Tree Tree Tree Tree Tree Tree (Role → Tree) (Owner → Tree) Tree access_step control_step expr_step jsx_step key_step link_step operation_step pat_step prop_step stmt_step (Stmt-F.Continue at a)

pub view-Stmt-Break : (at : Option Span) (a : Option Ident) → view_stmt (stmt.Break at a) ≡ node (statement Break) (part (optional_name a) none)
view-Stmt-Break at a = ap view_stmt (sym (stmt.rolls-Break at a)) ∙ fold-roll-Stmt Tree Tree Tree Tree Tree Tree Tree (Role → Tree) (Owner → Tree) Tree access_step control_step expr_step jsx_step key_step link_step operation_step pat_step prop_step stmt_step (Stmt-F.Break at a)

pub view-Stmt-Return : (at : Option Span) (e : Option (Box Expr Global)) → view_stmt (stmt.Return at e) ≡ node (statement Return) (part (optional_of view_expr e) none)
view-Stmt-Return at None = ap view_stmt (sym (stmt.rolls-Return at None)) ∙ fold-roll-Stmt Tree Tree Tree Tree Tree Tree Tree (Role → Tree) (Owner → Tree) Tree access_step control_step expr_step jsx_step key_step link_step operation_step pat_step prop_step stmt_step (Stmt-F.Return at None)
view-Stmt-Return at (Some e) = ap view_stmt (sym (stmt.rolls-Return at (Some e))) ∙ fold-roll-Stmt Tree Tree Tree Tree Tree Tree Tree (Role → Tree) (Owner → Tree) Tree access_step control_step expr_step jsx_step key_step link_step operation_step pat_step prop_step stmt_step (Stmt-F.Return at (Some e))

pub view-Stmt-Throw : (at : Option Span) (e : Box Expr Global) → view_stmt (stmt.Throw at e) ≡ node (statement Throw) (part (view_expr e.value) none)
view-Stmt-Throw at e = ap view_stmt (sym (stmt.rolls-Throw at e)) ∙ fold-roll-Stmt Tree Tree Tree Tree Tree Tree Tree (Role → Tree) (Owner → Tree) Tree access_step control_step expr_step jsx_step key_step link_step operation_step pat_step prop_step stmt_step (Stmt-F.Throw at e)

pub view-Stmt-Debugger : (at : Option Span) → view_stmt (stmt.Debugger at) ≡ node (statement Debugger) none
view-Stmt-Debugger at = ap view_stmt (sym (stmt.rolls-Debugger at)) ∙ fold-roll-Stmt Tree Tree Tree Tree Tree Tree Tree (Role → Tree) (Owner → Tree) Tree access_step control_step expr_step jsx_step key_step link_step operation_step pat_step prop_step stmt_step (Stmt-F.Debugger at)

pub view-Stmt-Function : (at : Option Span) (a : Ident) (ps : Vec (Box Pat Global) Global) (ds : Vec Text Global) (ss : Vec (Box Stmt Global) Global) → view_stmt (stmt.Function at a ps ds ss) ≡ node (statement FunctionDecl) (part (name_of a) (part (list (forest_at Binds (map (inside view_pattern) ps.items))) (part (body ds.items (map (inside view_stmt) ss.items)) none)))
view-Stmt-Function at a ps ds ss = ap view_stmt (sym (stmt.rolls-Function at a ps ds ss)) ∙ fold-roll-Stmt Tree Tree Tree Tree Tree Tree Tree (Role → Tree) (Owner → Tree) Tree access_step control_step expr_step jsx_step key_step link_step operation_step pat_step prop_step stmt_step (Stmt-F.«Stmt::Function» at a ps ds ss) ∙ ap_2 (λ us vs. node (statement FunctionDecl) (part (name_of a) (part (list (forest_at Binds us)) (part (body ds.items vs) none)))) (held _ view_pattern (λ b. refl) ps.items) (held _ view_stmt (λ b. refl) ss.items)

pub view-Stmt-Class : (at : Option Span) (a : Ident) (e : Option (Box Expr Global)) (ms : Vec (Box Prop Global) Global) → view_stmt (stmt.Class at a e ms) ≡ node (statement ClassDecl) (part (name_of a) (part (optional_of view_expr e) (part (list (members_of_class (map (inside view_member) ms.items))) none)))
view-Stmt-Class at a None ms = ap view_stmt (sym (stmt.rolls-Class at a None ms)) ∙ fold-roll-Stmt Tree Tree Tree Tree Tree Tree Tree (Role → Tree) (Owner → Tree) Tree access_step control_step expr_step jsx_step key_step link_step operation_step pat_step prop_step stmt_step (Stmt-F.«Stmt::Class» at a None ms) ∙ ap (λ us. node (statement ClassDecl) (part (name_of a) (part (optional_of view_expr None) (part (list (members_of_class us)) none)))) (held _ view_member (λ b. refl) ms.items)
view-Stmt-Class at a (Some e) ms = ap view_stmt (sym (stmt.rolls-Class at a (Some e) ms)) ∙ fold-roll-Stmt Tree Tree Tree Tree Tree Tree Tree (Role → Tree) (Owner → Tree) Tree access_step control_step expr_step jsx_step key_step link_step operation_step pat_step prop_step stmt_step (Stmt-F.«Stmt::Class» at a (Some e) ms) ∙ ap (λ us. node (statement ClassDecl) (part (name_of a) (part (optional_of view_expr (Some e)) (part (list (members_of_class us)) none)))) (held _ view_member (λ b. refl) ms.items)

pub view-Control-If : (at : Option Span) (e : Box Expr Global) (s : Box Stmt Global) (o : Option (Box Stmt Global)) → view_control (control.If at e s o) ≡ node (statement If) (part (view_expr e.value) (part (view_stmt s.value) (part (optional_of view_stmt o) none)))
view-Control-If at e s None = ap view_control (sym (control.rolls-If at e s None)) ∙ fold-roll-Control Tree Tree Tree Tree Tree Tree Tree (Role → Tree) (Owner → Tree) Tree access_step control_step expr_step jsx_step key_step link_step operation_step pat_step prop_step stmt_step (Control-F.If at e s None)
view-Control-If at e s (Some o) = ap view_control (sym (control.rolls-If at e s (Some o))) ∙ fold-roll-Control Tree Tree Tree Tree Tree Tree Tree (Role → Tree) (Owner → Tree) Tree access_step control_step expr_step jsx_step key_step link_step operation_step pat_step prop_step stmt_step (Control-F.If at e s (Some o))

pub view-Control-Do : (at : Option Span) (s : Box Stmt Global) (e : Box Expr Global) → view_control (control.Do at s e) ≡ node (statement Do) (part (view_stmt s.value) (part (view_expr e.value) none))
view-Control-Do at s e = ap view_control (sym (control.rolls-Do at s e)) ∙ fold-roll-Control Tree Tree Tree Tree Tree Tree Tree (Role → Tree) (Owner → Tree) Tree access_step control_step expr_step jsx_step key_step link_step operation_step pat_step prop_step stmt_step (Control-F.Do at s e)

pub view-Control-While : (at : Option Span) (e : Box Expr Global) (s : Box Stmt Global) → view_control (control.While at e s) ≡ node (statement While) (part (view_expr e.value) (part (view_stmt s.value) none))
view-Control-While at e s = ap view_control (sym (control.rolls-While at e s)) ∙ fold-roll-Control Tree Tree Tree Tree Tree Tree Tree (Role → Tree) (Owner → Tree) Tree access_step control_step expr_step jsx_step key_step link_step operation_step pat_step prop_step stmt_step (Control-F.While at e s)

pub view-Control-For : (at : Option Span) (i : Option (Box Pat Global)) (e : Option (Box Expr Global)) (u : Option (Box Expr Global)) (s : Box Stmt Global) → view_control (control.For at i e u s) ≡ node (statement For) (part (optional_at_of Assigns view_pattern i) (part (optional_of view_expr e) (part (optional_of view_expr u) (part (view_stmt s.value) none))))
view-Control-For at None None None s = ap view_control (sym (control.rolls-For at None None None s)) ∙ fold-roll-Control Tree Tree Tree Tree Tree Tree Tree (Role → Tree) (Owner → Tree) Tree access_step control_step expr_step jsx_step key_step link_step operation_step pat_step prop_step stmt_step (Control-F.For at None None None s)
view-Control-For at None None (Some u) s = ap view_control (sym (control.rolls-For at None None (Some u) s)) ∙ fold-roll-Control Tree Tree Tree Tree Tree Tree Tree (Role → Tree) (Owner → Tree) Tree access_step control_step expr_step jsx_step key_step link_step operation_step pat_step prop_step stmt_step (Control-F.For at None None (Some u) s)
view-Control-For at None (Some e) None s = ap view_control (sym (control.rolls-For at None (Some e) None s)) ∙ fold-roll-Control Tree Tree Tree Tree Tree Tree Tree (Role → Tree) (Owner → Tree) Tree access_step control_step expr_step jsx_step key_step link_step operation_step pat_step prop_step stmt_step (Control-F.For at None (Some e) None s)
view-Control-For at None (Some e) (Some u) s = ap view_control (sym (control.rolls-For at None (Some e) (Some u) s)) ∙ fold-roll-Control Tree Tree Tree Tree Tree Tree Tree (Role → Tree) (Owner → Tree) Tree access_step control_step expr_step jsx_step key_step link_step operation_step pat_step prop_step stmt_step (Control-F.For at None (Some e) (Some u) s)
view-Control-For at (Some i) None None s = ap view_control (sym (control.rolls-For at (Some i) None None s)) ∙ fold-roll-Control Tree Tree Tree Tree Tree Tree Tree (Role → Tree) (Owner → Tree) Tree access_step control_step expr_step jsx_step key_step link_step operation_step pat_step prop_step stmt_step (Control-F.For at (Some i) None None s)
view-Control-For at (Some i) None (Some u) s = ap view_control (sym (control.rolls-For at (Some i) None (Some u) s)) ∙ fold-roll-Control Tree Tree Tree Tree Tree Tree Tree (Role → Tree) (Owner → Tree) Tree access_step control_step expr_step jsx_step key_step link_step operation_step pat_step prop_step stmt_step (Control-F.For at (Some i) None (Some u) s)
view-Control-For at (Some i) (Some e) None s = ap view_control (sym (control.rolls-For at (Some i) (Some e) None s)) ∙ fold-roll-Control Tree Tree Tree Tree Tree Tree Tree (Role → Tree) (Owner → Tree) Tree access_step control_step expr_step jsx_step key_step link_step operation_step pat_step prop_step stmt_step (Control-F.For at (Some i) (Some e) None s)
view-Control-For at (Some i) (Some e) (Some u) s = ap view_control (sym (control.rolls-For at (Some i) (Some e) (Some u) s)) ∙ fold-roll-Control Tree Tree Tree Tree Tree Tree Tree (Role → Tree) (Owner → Tree) Tree access_step control_step expr_step jsx_step key_step link_step operation_step pat_step prop_step stmt_step (Control-F.For at (Some i) (Some e) (Some u) s)

pub view-Control-ForIn : (at : Option Span) (h : Box Pat Global) (e : Box Expr Global) (s : Box Stmt Global) → view_control (control.ForIn at h e s) ≡ node (statement ForIn) (part ((view_pattern h.value) Assigns) (part (view_expr e.value) (part (view_stmt s.value) none)))
view-Control-ForIn at h e s = ap view_control (sym (control.rolls-ForIn at h e s)) ∙ fold-roll-Control Tree Tree Tree Tree Tree Tree Tree (Role → Tree) (Owner → Tree) Tree access_step control_step expr_step jsx_step key_step link_step operation_step pat_step prop_step stmt_step (Control-F.ForIn at h e s)

pub view-Control-ForOf : (at : Option Span) (h : Box Pat Global) (e : Box Expr Global) (s : Box Stmt Global) → view_control (control.ForOf at h e s) ≡ node (statement ForOf) (part ((view_pattern h.value) Assigns) (part (view_expr e.value) (part (view_stmt s.value) none)))
view-Control-ForOf at h e s = ap view_control (sym (control.rolls-ForOf at h e s)) ∙ fold-roll-Control Tree Tree Tree Tree Tree Tree Tree (Role → Tree) (Owner → Tree) Tree access_step control_step expr_step jsx_step key_step link_step operation_step pat_step prop_step stmt_step (Control-F.ForOf at h e s)

pub view-Control-Label : (at : Option Span) (a : Ident) (s : Box Stmt Global) → view_control (control.Label at a s) ≡ node (statement Label) (part (name_of a) (part (view_stmt s.value) none))
view-Control-Label at a s = ap view_control (sym (control.rolls-Label at a s)) ∙ fold-roll-Control Tree Tree Tree Tree Tree Tree Tree (Role → Tree) (Owner → Tree) Tree access_step control_step expr_step jsx_step key_step link_step operation_step pat_step prop_step stmt_step (Control-F.Label at a s)

pub view-Control-Switch : (at : Option Span) (e : Box Expr Global) (cs : Vec (Box Control Global) Global) → view_control (control.Switch at e cs) ≡ node (statement Switch) (part (view_expr e.value) (part (list (forest (map (inside view_control) cs.items))) none))
view-Control-Switch at e cs = ap view_control (sym (control.rolls-Switch at e cs)) ∙ fold-roll-Control Tree Tree Tree Tree Tree Tree Tree (Role → Tree) (Owner → Tree) Tree access_step control_step expr_step jsx_step key_step link_step operation_step pat_step prop_step stmt_step (Control-F.Switch at e cs) ∙ ap (λ us. node (statement Switch) (part (view_expr e.value) (part (list (forest us)) none))) (held _ view_control (λ b. refl) cs.items)

pub view-Control-Case : (at : Option Span) (e : Option (Box Expr Global)) (ss : Vec (Box Stmt Global) Global) → view_control (control.Case at e ss) ≡ clause_of view_expr e (list (forest (map (inside view_stmt) ss.items)))
view-Control-Case at None ss = ap view_control (sym (control.rolls-Case at None ss)) ∙ fold-roll-Control Tree Tree Tree Tree Tree Tree Tree (Role → Tree) (Owner → Tree) Tree access_step control_step expr_step jsx_step key_step link_step operation_step pat_step prop_step stmt_step (Control-F.Case at None ss) ∙ ap (λ us. clause_of view_expr None (list (forest us))) (held _ view_stmt (λ b. refl) ss.items)
view-Control-Case at (Some e) ss = ap view_control (sym (control.rolls-Case at (Some e) ss)) ∙ fold-roll-Control Tree Tree Tree Tree Tree Tree Tree (Role → Tree) (Owner → Tree) Tree access_step control_step expr_step jsx_step key_step link_step operation_step pat_step prop_step stmt_step (Control-F.Case at (Some e) ss) ∙ ap (λ us. clause_of view_expr (Some e) (list (forest us))) (held _ view_stmt (λ b. refl) ss.items)

pub view-Control-Try : (at : Option Span) (b : Box Stmt Global) (c : Option (Box Control Global)) (f : Option (Box Stmt Global)) → view_control (control.Try at b c f) ≡ node (statement Try) (part (view_stmt b.value) (part (optional_of view_control c) (part (optional_of view_stmt f) none)))
view-Control-Try at b None None = ap view_control (sym (control.rolls-Try at b None None)) ∙ fold-roll-Control Tree Tree Tree Tree Tree Tree Tree (Role → Tree) (Owner → Tree) Tree access_step control_step expr_step jsx_step key_step link_step operation_step pat_step prop_step stmt_step (Control-F.Try at b None None)
view-Control-Try at b None (Some f) = ap view_control (sym (control.rolls-Try at b None (Some f))) ∙ fold-roll-Control Tree Tree Tree Tree Tree Tree Tree (Role → Tree) (Owner → Tree) Tree access_step control_step expr_step jsx_step key_step link_step operation_step pat_step prop_step stmt_step (Control-F.Try at b None (Some f))
view-Control-Try at b (Some c) None = ap view_control (sym (control.rolls-Try at b (Some c) None)) ∙ fold-roll-Control Tree Tree Tree Tree Tree Tree Tree (Role → Tree) (Owner → Tree) Tree access_step control_step expr_step jsx_step key_step link_step operation_step pat_step prop_step stmt_step (Control-F.Try at b (Some c) None)
view-Control-Try at b (Some c) (Some f) = ap view_control (sym (control.rolls-Try at b (Some c) (Some f))) ∙ fold-roll-Control Tree Tree Tree Tree Tree Tree Tree (Role → Tree) (Owner → Tree) Tree access_step control_step expr_step jsx_step key_step link_step operation_step pat_step prop_step stmt_step (Control-F.Try at b (Some c) (Some f))

pub view-Control-Catch : (at : Option Span) (p : Option (Box Pat Global)) (s : Box Stmt Global) → view_control (control.Catch at p s) ≡ node (statement Catch) (part (optional_at_of Binds view_pattern p) (part (view_stmt s.value) none))
view-Control-Catch at None s = ap view_control (sym (control.rolls-Catch at None s)) ∙ fold-roll-Control Tree Tree Tree Tree Tree Tree Tree (Role → Tree) (Owner → Tree) Tree access_step control_step expr_step jsx_step key_step link_step operation_step pat_step prop_step stmt_step (Control-F.Catch at None s)
view-Control-Catch at (Some p) s = ap view_control (sym (control.rolls-Catch at (Some p) s)) ∙ fold-roll-Control Tree Tree Tree Tree Tree Tree Tree (Role → Tree) (Owner → Tree) Tree access_step control_step expr_step jsx_step key_step link_step operation_step pat_step prop_step stmt_step (Control-F.Catch at (Some p) s)

pub view-Jsx-Element : (at : Option Span) (t : Tag) (as' : Vec (Box Jsx Global) Global) → view_jsx (jsx.Element at t as') ≡ node (jsx Element) (part (view_tag t) (part (list (forest (map (inside view_jsx) as'.items))) none))
view-Jsx-Element at t as' = ap view_jsx (sym (jsx.rolls-Element at t as')) ∙ fold-roll-Jsx Tree Tree Tree Tree Tree Tree Tree (Role → Tree) (Owner → Tree) Tree access_step control_step expr_step jsx_step key_step link_step operation_step pat_step prop_step stmt_step (Jsx-F.Element at t as') ∙ ap (λ us. node (jsx Element) (part (view_tag t) (part (list (forest us)) none))) (held _ view_jsx (λ b. refl) as'.items)

pub view-Jsx-ElementWithChildren : (at : Option Span) (t : Tag) (as' : Vec (Box Jsx Global) Global) (xs : Vec (Box Jsx Global) Global) (u : Box Tag Global) → view_jsx (jsx.ElementWithChildren at t as' xs u) ≡ node (jsx ElementWithChildren) (part (view_tag t) (part (list (forest (map (inside view_jsx) as'.items))) (part (list (forest (map (inside view_jsx) xs.items))) (part (view_tag u.value) none))))
view-Jsx-ElementWithChildren at t as' xs u = ap view_jsx (sym (jsx.rolls-ElementWithChildren at t as' xs u)) ∙ fold-roll-Jsx Tree Tree Tree Tree Tree Tree Tree (Role → Tree) (Owner → Tree) Tree access_step control_step expr_step jsx_step key_step link_step operation_step pat_step prop_step stmt_step (Jsx-F.ElementWithChildren at t as' xs u) ∙ ap_2 (λ us vs. node (jsx ElementWithChildren) (part (view_tag t) (part (list (forest us)) (part (list (forest vs)) (part (view_tag u.value) none))))) (held _ view_jsx (λ b. refl) as'.items) (held _ view_jsx (λ b. refl) xs.items)

pub view-Jsx-Fragment : (at : Option Span) (xs : Vec (Box Jsx Global) Global) → view_jsx (jsx.Fragment at xs) ≡ node (jsx Fragment) (part (list (forest (map (inside view_jsx) xs.items))) none)
view-Jsx-Fragment at xs = ap view_jsx (sym (jsx.rolls-Fragment at xs)) ∙ fold-roll-Jsx Tree Tree Tree Tree Tree Tree Tree (Role → Tree) (Owner → Tree) Tree access_step control_step expr_step jsx_step key_step link_step operation_step pat_step prop_step stmt_step (Jsx-F.Fragment at xs) ∙ ap (λ us. node (jsx Fragment) (part (list (forest us)) none)) (held _ view_jsx (λ b. refl) xs.items)

pub view-Jsx-Text : (at : Option Span) (a : Text) → view_jsx (jsx.Text at a) ≡ leaf token.JsxText (text_of a)
view-Jsx-Text at a = ap view_jsx (sym (jsx.rolls-Text at a)) ∙ fold-roll-Jsx Tree Tree Tree Tree Tree Tree Tree (Role → Tree) (Owner → Tree) Tree access_step control_step expr_step jsx_step key_step link_step operation_step pat_step prop_step stmt_step (Jsx-F.Text at a)

pub view-Jsx-Str : (at : Option Span) (a : Text) → view_jsx (jsx.Str at a) ≡ leaf token.JsxString (text_of a)
view-Jsx-Str at a = ap view_jsx (sym (jsx.rolls-Str at a)) ∙ fold-roll-Jsx Tree Tree Tree Tree Tree Tree Tree (Role → Tree) (Owner → Tree) Tree access_step control_step expr_step jsx_step key_step link_step operation_step pat_step prop_step stmt_step (Jsx-F.Str at a)

pub view-Jsx-Container : (at : Option Span) (e : Option (Box Expr Global)) → view_jsx (jsx.Container at e) ≡ container_of view_expr e
view-Jsx-Container at None = ap view_jsx (sym (jsx.rolls-Container at None)) ∙ fold-roll-Jsx Tree Tree Tree Tree Tree Tree Tree (Role → Tree) (Owner → Tree) Tree access_step control_step expr_step jsx_step key_step link_step operation_step pat_step prop_step stmt_step (Jsx-F.Container at None)
view-Jsx-Container at (Some e) = ap view_jsx (sym (jsx.rolls-Container at (Some e))) ∙ fold-roll-Jsx Tree Tree Tree Tree Tree Tree Tree (Role → Tree) (Owner → Tree) Tree access_step control_step expr_step jsx_step key_step link_step operation_step pat_step prop_step stmt_step (Jsx-F.Container at (Some e))

pub view-Jsx-Spread : (at : Option Span) (e : Box Expr Global) → view_jsx (jsx.Spread at e) ≡ node (jsx JsxSpread) (part (view_expr e.value) none)
view-Jsx-Spread at e = ap view_jsx (sym (jsx.rolls-Spread at e)) ∙ fold-roll-Jsx Tree Tree Tree Tree Tree Tree Tree (Role → Tree) (Owner → Tree) Tree access_step control_step expr_step jsx_step key_step link_step operation_step pat_step prop_step stmt_step (Jsx-F.«Jsx::Spread» at e)

pub view-Jsx-Attribute : (at : Option Span) (a : AttrName) (v : Option (Box Jsx Global)) → view_jsx (jsx.Attribute at a v) ≡ node (jsx Attribute) (part (view_attr_name a) (part (optional_of view_jsx v) none))
view-Jsx-Attribute at a None = ap view_jsx (sym (jsx.rolls-Attribute at a None)) ∙ fold-roll-Jsx Tree Tree Tree Tree Tree Tree Tree (Role → Tree) (Owner → Tree) Tree access_step control_step expr_step jsx_step key_step link_step operation_step pat_step prop_step stmt_step (Jsx-F.Attribute at a None)
view-Jsx-Attribute at a (Some v) = ap view_jsx (sym (jsx.rolls-Attribute at a (Some v))) ∙ fold-roll-Jsx Tree Tree Tree Tree Tree Tree Tree (Role → Tree) (Owner → Tree) Tree access_step control_step expr_step jsx_step key_step link_step operation_step pat_step prop_step stmt_step (Jsx-F.Attribute at a (Some v))

-- patterns that bind, as one list
pub bound_forest : (ps : List (Box Pat Global)) → forest_at Binds (map (inside view_pattern) ps) ≡ forest (map (inside view_pat) ps)
bound_forest [] = refl
bound_forest (p ∷ ps) = ap (part (view_pat p.value)) (bound_forest ps)

pub ruleset views = (view-Expr-Ident, view-Expr-Literal, view-Expr-Word, view-Expr-Operation, view-Expr-Access, view-Expr-Array, view-Expr-Object, view-Expr-Template, view-Expr-Function, view-Expr-Class, view-Expr-Jsx, view-Expr-Paren, view-Operation-Seq, view-Operation-Assign, view-Operation-OpAssign, view-Operation-Arrow, view-Operation-ArrowBlock, view-Operation-BareArrow, view-Operation-BareArrowBlock, view-Operation-Cond, view-Operation-Binary, view-Operation-Unary, view-Operation-Update, view-Operation-Spread, view-Operation-Hole, view-Access-Call, view-Access-Member, view-Access-Index, view-Access-Tagged, view-Access-New, view-Access-NewWithoutArguments, view-Access-SuperCall, view-Access-SuperMember, view-Access-SuperIndex, view-Access-ImportCall, view-Access-Chain, view-Link-Member, view-Link-Index, view-Link-Call, view-Prop-Pair, view-Prop-Shorthand, view-Prop-Spread, view-Prop-Method, view-Prop-Getter, view-Prop-Setter, view-Prop-Field, view-Key-Name, view-Key-Literal, view-Key-Computed, view-Pat-Ident, view-Pat-Array, view-Pat-Object, view-Pat-Target, view-Pat-Paren, view-Pat-Binding, view-Pat-WithInit, view-Pat-Rest, view-Pat-Hole, view-Pat-Pair, view-Pat-Shorthand, view-Pat-RestProperty, view-Pat-Declaration, view-Pat-Head, view-Stmt-Block, view-Stmt-Var, view-Stmt-Empty, view-Stmt-Expr, view-Stmt-Control, view-Stmt-Continue, view-Stmt-Break, view-Stmt-Return, view-Stmt-Throw, view-Stmt-Debugger, view-Stmt-Function, view-Stmt-Class, view-Control-If, view-Control-Do, view-Control-While, view-Control-For, view-Control-ForIn, view-Control-ForOf, view-Control-Label, view-Control-Switch, view-Control-Case, view-Control-Try, view-Control-Catch, view-Jsx-Element, view-Jsx-ElementWithChildren, view-Jsx-Fragment, view-Jsx-Text, view-Jsx-Str, view-Jsx-Container, view-Jsx-Spread, view-Jsx-Attribute)
