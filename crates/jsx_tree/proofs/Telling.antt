-- What each variant tells of places.
use Rattle.std.proofs.Common.{◌≡◌, refl, ap, sym, ◌∙◌, map, [], ◌∷◌, Option, Some, None, Box, Vec, Global}
use Rattle.jsx_base.specs.declared.place.Span.{Span}
use Rattle.jsx_tree.specs.declared.text.Text.{Text}
use Rattle.jsx_tree.specs.declared.text.Ident.{Ident}
use Rattle.jsx_tree.specs.declared.text.LiteralKind.{LiteralKind}
use Rattle.jsx_tree.specs.declared.text.Word.{Word}
use Rattle.jsx_tree.specs.declared.text.DeclareWord as declared
use Rattle.jsx_tree.specs.declared.text.LinkForm.{LinkForm}
use Rattle.jsx_tree.specs.declared.text.Placement.{Placement}
use Rattle.jsx_tree.specs.declared.operator.BinaryOp as code_binary
use Rattle.jsx_tree.specs.declared.operator.AssignOp.{AssignOp}
use Rattle.jsx_tree.specs.declared.operator.UnaryOp as code_unary
use Rattle.jsx_tree.specs.declared.operator.UpdateOp as code_update
use Rattle.jsx_tree.specs.declared.operator.UpdateSide.{UpdateSide}
use Rattle.jsx_tree.specs.declared.tree.Tag.{Tag}
use Rattle.jsx_tree.specs.declared.tree.AttrName.{AttrName}
use Rattle.jsx_tree.specs.Spans.{Told, tells, no_tales}
use Rattle.jsx_tree.specs.declared.tree.Expr.{Expr}
use Rattle.jsx_tree.specs.declared.tree.Operation.{Operation}
use Rattle.jsx_tree.specs.declared.tree.Access.{Access}
use Rattle.jsx_tree.specs.declared.tree.Link.{Link}
use Rattle.jsx_tree.specs.declared.tree.Prop.{Prop}
use Rattle.jsx_tree.specs.declared.tree.Key.{Key}
use Rattle.jsx_tree.specs.declared.tree.Pat.{Pat}
use Rattle.jsx_tree.specs.declared.tree.Stmt.{Stmt}
use Rattle.jsx_tree.specs.declared.tree.Control.{Control}
use Rattle.jsx_tree.specs.declared.tree.Jsx.{Jsx}
use Rattle.jsx_tree.specs.declared.tree.Expr.TheVariants as expr
use Rattle.jsx_tree.specs.declared.tree.Operation.TheVariants as operation
use Rattle.jsx_tree.specs.declared.tree.Access.TheVariants as access
use Rattle.jsx_tree.specs.declared.tree.Link.TheVariants as link
use Rattle.jsx_tree.specs.declared.tree.Prop.TheVariants as prop
use Rattle.jsx_tree.specs.declared.tree.Key.TheVariants as key
use Rattle.jsx_tree.specs.declared.tree.Pat.TheVariants as pat
use Rattle.jsx_tree.specs.declared.tree.Stmt.TheVariants as stmt
use Rattle.jsx_tree.specs.declared.tree.Control.TheVariants as control
use Rattle.jsx_tree.specs.declared.tree.Jsx.TheVariants as jsx
use Rattle.jsx_tree.specs.declared.tree.Access.TheOpen.{Access-F, Control-F, Expr-F, Jsx-F, Key-F, Link-F, Operation-F, Pat-F, Prop-F, Stmt-F}
use Rattle.jsx_tree.specs.declared.tree.Access.TheFolds.{fold-roll-Access, fold-roll-Control, fold-roll-Expr, fold-roll-Jsx, fold-roll-Key, fold-roll-Link, fold-roll-Operation, fold-roll-Pat, fold-roll-Prop, fold-roll-Stmt}
use Rattle.jsx_tree.specs.View.{inside}
use Rattle.jsx_tree.proofs.Views.{ap_2, held}
use Rattle.jsx_tree.specs.Told.{told_list, told_optional, led_by, told_text, told_leaf, told_node, told_ident, told_name, told_body, told_template, told_tag, told_attr_name, told_access_step, told_control_step, told_expr_step, told_jsx_step, told_key_step, told_link_step, told_operation_step, told_pat_step, told_prop_step, told_stmt_step, told_expr, told_operation, told_access, told_link, told_prop, told_key, told_pat, told_stmt, told_control, told_jsx}

pub told-Expr-Ident : (at : Option Span) (a : Ident) → told_expr (expr.Ident at a) ≡ told_leaf at a.text
told-Expr-Ident at a = ap told_expr (sym (expr.rolls-Ident at a)) ∙ fold-roll-Expr Told Told Told Told Told Told Told Told Told Told told_access_step told_control_step told_expr_step told_jsx_step told_key_step told_link_step told_operation_step told_pat_step told_prop_step told_stmt_step (Expr-F.«Expr::Ident» at a)

pub told-Expr-Literal : (at : Option Span) (k : LiteralKind) (a : Text) → told_expr (expr.Literal at k a) ≡ told_leaf at a
told-Expr-Literal at k a = ap told_expr (sym (expr.rolls-Literal at k a)) ∙ fold-roll-Expr Told Told Told Told Told Told Told Told Told Told told_access_step told_control_step told_expr_step told_jsx_step told_key_step told_link_step told_operation_step told_pat_step told_prop_step told_stmt_step (Expr-F.«Expr::Literal» at k a)

pub told-Expr-Word : (at : Option Span) (w : Word) → told_expr (expr.Word at w) ≡ told_node at []
told-Expr-Word at w = ap told_expr (sym (expr.rolls-Word at w)) ∙ fold-roll-Expr Told Told Told Told Told Told Told Told Told Told told_access_step told_control_step told_expr_step told_jsx_step told_key_step told_link_step told_operation_step told_pat_step told_prop_step told_stmt_step (Expr-F.Word at w)

pub told-Expr-Operation : (a : Operation) → told_expr (expr.Operation a) ≡ told_operation a
told-Expr-Operation a = ap told_expr (sym (expr.rolls-Operation a)) ∙ fold-roll-Expr Told Told Told Told Told Told Told Told Told Told told_access_step told_control_step told_expr_step told_jsx_step told_key_step told_link_step told_operation_step told_pat_step told_prop_step told_stmt_step (Expr-F.Operation a)

pub told-Expr-Access : (a : Access) → told_expr (expr.Access a) ≡ told_access a
told-Expr-Access a = ap told_expr (sym (expr.rolls-Access a)) ∙ fold-roll-Expr Told Told Told Told Told Told Told Told Told Told told_access_step told_control_step told_expr_step told_jsx_step told_key_step told_link_step told_operation_step told_pat_step told_prop_step told_stmt_step (Expr-F.Access a)

pub told-Expr-Array : (at : Option Span) (xs : Vec (Box Expr Global) Global) → told_expr (expr.Array at xs) ≡ told_node at (told_list (map (inside told_expr) xs.items) ∷ [])
told-Expr-Array at xs = ap told_expr (sym (expr.rolls-Array at xs)) ∙ fold-roll-Expr Told Told Told Told Told Told Told Told Told Told told_access_step told_control_step told_expr_step told_jsx_step told_key_step told_link_step told_operation_step told_pat_step told_prop_step told_stmt_step (Expr-F.«Expr::Array» at xs) ∙ ap (λ us. told_node at (told_list us ∷ [])) (held _ told_expr (λ b. refl) xs.items)

pub told-Expr-Object : (at : Option Span) (xs : Vec (Box Prop Global) Global) → told_expr (expr.Object at xs) ≡ told_node at (told_list (map (inside told_prop) xs.items) ∷ [])
told-Expr-Object at xs = ap told_expr (sym (expr.rolls-Object at xs)) ∙ fold-roll-Expr Told Told Told Told Told Told Told Told Told Told told_access_step told_control_step told_expr_step told_jsx_step told_key_step told_link_step told_operation_step told_pat_step told_prop_step told_stmt_step (Expr-F.«Expr::Object» at xs) ∙ ap (λ us. told_node at (told_list us ∷ [])) (held _ told_prop (λ b. refl) xs.items)

pub told-Expr-Template : (at : Option Span) (ps : Vec Text Global) (xs : Vec (Box Expr Global) Global) → told_expr (expr.Template at ps xs) ≡ told_template at ps.items (map (inside told_expr) xs.items)
told-Expr-Template at ps xs = ap told_expr (sym (expr.rolls-Template at ps xs)) ∙ fold-roll-Expr Told Told Told Told Told Told Told Told Told Told told_access_step told_control_step told_expr_step told_jsx_step told_key_step told_link_step told_operation_step told_pat_step told_prop_step told_stmt_step (Expr-F.Template at ps xs) ∙ ap (λ us. told_template at ps.items us) (held _ told_expr (λ b. refl) xs.items)

pub told-Expr-Function : (at : Option Span) (a : Option (Box Ident Global)) (ps : Vec (Box Pat Global) Global) (ds : Vec Text Global) (ss : Vec (Box Stmt Global) Global) → told_expr (expr.Function at a ps ds ss) ≡ told_node at (told_optional told_ident a ∷ told_list (map (inside told_pat) ps.items) ∷ told_body ds.items (map (inside told_stmt) ss.items) ∷ [])
told-Expr-Function at a ps ds ss = ap told_expr (sym (expr.rolls-Function at a ps ds ss)) ∙ fold-roll-Expr Told Told Told Told Told Told Told Told Told Told told_access_step told_control_step told_expr_step told_jsx_step told_key_step told_link_step told_operation_step told_pat_step told_prop_step told_stmt_step (Expr-F.«Expr::Function» at a ps ds ss) ∙ ap_2 (λ us vs. told_node at (told_optional told_ident a ∷ told_list us ∷ told_body ds.items vs ∷ [])) (held _ told_pat (λ b. refl) ps.items) (held _ told_stmt (λ b. refl) ss.items)

pub told-Expr-Class : (at : Option Span) (a : Option (Box Ident Global)) (e : Option (Box Expr Global)) (ms : Vec (Box Prop Global) Global) → told_expr (expr.Class at a e ms) ≡ told_node at (told_optional told_ident a ∷ told_optional told_expr e ∷ told_list (map (inside told_prop) ms.items) ∷ [])
told-Expr-Class at a None ms = ap told_expr (sym (expr.rolls-Class at a None ms)) ∙ fold-roll-Expr Told Told Told Told Told Told Told Told Told Told told_access_step told_control_step told_expr_step told_jsx_step told_key_step told_link_step told_operation_step told_pat_step told_prop_step told_stmt_step (Expr-F.«Expr::Class» at a None ms) ∙ ap (λ us. told_node at (told_optional told_ident a ∷ told_optional told_expr None ∷ told_list us ∷ [])) (held _ told_prop (λ b. refl) ms.items)
told-Expr-Class at a (Some e) ms = ap told_expr (sym (expr.rolls-Class at a (Some e) ms)) ∙ fold-roll-Expr Told Told Told Told Told Told Told Told Told Told told_access_step told_control_step told_expr_step told_jsx_step told_key_step told_link_step told_operation_step told_pat_step told_prop_step told_stmt_step (Expr-F.«Expr::Class» at a (Some e) ms) ∙ ap (λ us. told_node at (told_optional told_ident a ∷ told_optional told_expr (Some e) ∷ told_list us ∷ [])) (held _ told_prop (λ b. refl) ms.items)

pub told-Expr-Jsx : (a : Box Jsx Global) → told_expr (expr.Jsx a) ≡ told_jsx a.value
told-Expr-Jsx a = ap told_expr (sym (expr.rolls-Jsx a)) ∙ fold-roll-Expr Told Told Told Told Told Told Told Told Told Told told_access_step told_control_step told_expr_step told_jsx_step told_key_step told_link_step told_operation_step told_pat_step told_prop_step told_stmt_step (Expr-F.Jsx a)

pub told-Expr-Paren : (at : Option Span) (a : Box Expr Global) → told_expr (expr.Paren at a) ≡ told_expr a.value
told-Expr-Paren at a = ap told_expr (sym (expr.rolls-Paren at a)) ∙ fold-roll-Expr Told Told Told Told Told Told Told Told Told Told told_access_step told_control_step told_expr_step told_jsx_step told_key_step told_link_step told_operation_step told_pat_step told_prop_step told_stmt_step (Expr-F.«Expr::Paren» at a)

pub told-Operation-Seq : (at : Option Span) (xs : Vec (Box Expr Global) Global) → told_operation (operation.Seq at xs) ≡ told_node at (told_list (map (inside told_expr) xs.items) ∷ [])
told-Operation-Seq at xs = ap told_operation (sym (operation.rolls-Seq at xs)) ∙ fold-roll-Operation Told Told Told Told Told Told Told Told Told Told told_access_step told_control_step told_expr_step told_jsx_step told_key_step told_link_step told_operation_step told_pat_step told_prop_step told_stmt_step (Operation-F.Seq at xs) ∙ ap (λ us. told_node at (told_list us ∷ [])) (held _ told_expr (λ b. refl) xs.items)

pub told-Operation-Assign : (at : Option Span) (p : Box Pat Global) (a : Box Expr Global) → told_operation (operation.Assign at p a) ≡ told_node at (told_pat p.value ∷ told_expr a.value ∷ [])
told-Operation-Assign at p a = ap told_operation (sym (operation.rolls-Assign at p a)) ∙ fold-roll-Operation Told Told Told Told Told Told Told Told Told Told told_access_step told_control_step told_expr_step told_jsx_step told_key_step told_link_step told_operation_step told_pat_step told_prop_step told_stmt_step (Operation-F.Assign at p a)

pub told-Operation-OpAssign : (at : Option Span) (o : AssignOp) (p : Box Pat Global) (a : Box Expr Global) → told_operation (operation.OpAssign at o p a) ≡ told_node at (told_pat p.value ∷ told_expr a.value ∷ [])
told-Operation-OpAssign at o p a = ap told_operation (sym (operation.rolls-OpAssign at o p a)) ∙ fold-roll-Operation Told Told Told Told Told Told Told Told Told Told told_access_step told_control_step told_expr_step told_jsx_step told_key_step told_link_step told_operation_step told_pat_step told_prop_step told_stmt_step (Operation-F.OpAssign at o p a)

pub told-Operation-Arrow : (at : Option Span) (ps : Vec (Box Pat Global) Global) (b : Box Expr Global) → told_operation (operation.Arrow at ps b) ≡ told_node at (told_list (map (inside told_pat) ps.items) ∷ told_expr b.value ∷ [])
told-Operation-Arrow at ps b = ap told_operation (sym (operation.rolls-Arrow at ps b)) ∙ fold-roll-Operation Told Told Told Told Told Told Told Told Told Told told_access_step told_control_step told_expr_step told_jsx_step told_key_step told_link_step told_operation_step told_pat_step told_prop_step told_stmt_step (Operation-F.Arrow at ps b) ∙ ap (λ us. told_node at (told_list us ∷ told_expr b.value ∷ [])) (held _ told_pat (λ b. refl) ps.items)

pub told-Operation-ArrowBlock : (at : Option Span) (ps : Vec (Box Pat Global) Global) (ds : Vec Text Global) (ss : Vec (Box Stmt Global) Global) → told_operation (operation.ArrowBlock at ps ds ss) ≡ told_node at (told_list (map (inside told_pat) ps.items) ∷ told_body ds.items (map (inside told_stmt) ss.items) ∷ [])
told-Operation-ArrowBlock at ps ds ss = ap told_operation (sym (operation.rolls-ArrowBlock at ps ds ss)) ∙ fold-roll-Operation Told Told Told Told Told Told Told Told Told Told told_access_step told_control_step told_expr_step told_jsx_step told_key_step told_link_step told_operation_step told_pat_step told_prop_step told_stmt_step (Operation-F.ArrowBlock at ps ds ss) ∙ ap_2 (λ us vs. told_node at (told_list us ∷ told_body ds.items vs ∷ [])) (held _ told_pat (λ b. refl) ps.items) (held _ told_stmt (λ b. refl) ss.items)

pub told-Operation-BareArrow : (at : Option Span) (a : Ident) (b : Box Expr Global) → told_operation (operation.BareArrow at a b) ≡ told_node at (told_text a.text ∷ told_expr b.value ∷ [])
told-Operation-BareArrow at a b = ap told_operation (sym (operation.rolls-BareArrow at a b)) ∙ fold-roll-Operation Told Told Told Told Told Told Told Told Told Told told_access_step told_control_step told_expr_step told_jsx_step told_key_step told_link_step told_operation_step told_pat_step told_prop_step told_stmt_step (Operation-F.BareArrow at a b)

pub told-Operation-BareArrowBlock : (at : Option Span) (a : Ident) (ds : Vec Text Global) (ss : Vec (Box Stmt Global) Global) → told_operation (operation.BareArrowBlock at a ds ss) ≡ told_node at (told_text a.text ∷ told_body ds.items (map (inside told_stmt) ss.items) ∷ [])
told-Operation-BareArrowBlock at a ds ss = ap told_operation (sym (operation.rolls-BareArrowBlock at a ds ss)) ∙ fold-roll-Operation Told Told Told Told Told Told Told Told Told Told told_access_step told_control_step told_expr_step told_jsx_step told_key_step told_link_step told_operation_step told_pat_step told_prop_step told_stmt_step (Operation-F.BareArrowBlock at a ds ss) ∙ ap (λ us. told_node at (told_text a.text ∷ told_body ds.items us ∷ [])) (held _ told_stmt (λ b. refl) ss.items)

pub told-Operation-Cond : (at : Option Span) (a : Box Expr Global) (b : Box Expr Global) (c : Box Expr Global) → told_operation (operation.Cond at a b c) ≡ told_node at (told_expr a.value ∷ told_expr b.value ∷ told_expr c.value ∷ [])
told-Operation-Cond at a b c = ap told_operation (sym (operation.rolls-Cond at a b c)) ∙ fold-roll-Operation Told Told Told Told Told Told Told Told Told Told told_access_step told_control_step told_expr_step told_jsx_step told_key_step told_link_step told_operation_step told_pat_step told_prop_step told_stmt_step (Operation-F.Cond at a b c)

pub told-Operation-Binary : (at : Option Span) (o : code_binary.BinaryOp) (a : Box Expr Global) (b : Box Expr Global) → told_operation (operation.Binary at o a b) ≡ told_node at (told_expr a.value ∷ told_expr b.value ∷ [])
told-Operation-Binary at o a b = ap told_operation (sym (operation.rolls-Binary at o a b)) ∙ fold-roll-Operation Told Told Told Told Told Told Told Told Told Told told_access_step told_control_step told_expr_step told_jsx_step told_key_step told_link_step told_operation_step told_pat_step told_prop_step told_stmt_step (Operation-F.Binary at o a b)

pub told-Operation-Unary : (at : Option Span) (o : code_unary.UnaryOp) (a : Box Expr Global) → told_operation (operation.Unary at o a) ≡ told_node at (told_expr a.value ∷ [])
told-Operation-Unary at o a = ap told_operation (sym (operation.rolls-Unary at o a)) ∙ fold-roll-Operation Told Told Told Told Told Told Told Told Told Told told_access_step told_control_step told_expr_step told_jsx_step told_key_step told_link_step told_operation_step told_pat_step told_prop_step told_stmt_step (Operation-F.Unary at o a)

pub told-Operation-Update : (at : Option Span) (o : code_update.UpdateOp) (s : UpdateSide) (p : Box Pat Global) → told_operation (operation.Update at o s p) ≡ told_node at (told_pat p.value ∷ [])
told-Operation-Update at o s p = ap told_operation (sym (operation.rolls-Update at o s p)) ∙ fold-roll-Operation Told Told Told Told Told Told Told Told Told Told told_access_step told_control_step told_expr_step told_jsx_step told_key_step told_link_step told_operation_step told_pat_step told_prop_step told_stmt_step (Operation-F.Update at o s p)

pub told-Operation-Spread : (at : Option Span) (a : Box Expr Global) → told_operation (operation.Spread at a) ≡ told_node at (told_expr a.value ∷ [])
told-Operation-Spread at a = ap told_operation (sym (operation.rolls-Spread at a)) ∙ fold-roll-Operation Told Told Told Told Told Told Told Told Told Told told_access_step told_control_step told_expr_step told_jsx_step told_key_step told_link_step told_operation_step told_pat_step told_prop_step told_stmt_step (Operation-F.«Operation::Spread» at a)

pub told-Operation-Hole : told_operation operation.Hole ≡ tells [] no_tales
told-Operation-Hole = ap told_operation (sym operation.rolls-Hole) ∙ fold-roll-Operation Told Told Told Told Told Told Told Told Told Told told_access_step told_control_step told_expr_step told_jsx_step told_key_step told_link_step told_operation_step told_pat_step told_prop_step told_stmt_step Operation-F.«Operation::Hole»

pub told-Access-Call : (at : Option Span) (f : Box Expr Global) (xs : Vec (Box Expr Global) Global) → told_access (access.Call at f xs) ≡ told_node at (told_expr f.value ∷ told_list (map (inside told_expr) xs.items) ∷ [])
told-Access-Call at f xs = ap told_access (sym (access.rolls-Call at f xs)) ∙ fold-roll-Access Told Told Told Told Told Told Told Told Told Told told_access_step told_control_step told_expr_step told_jsx_step told_key_step told_link_step told_operation_step told_pat_step told_prop_step told_stmt_step (Access-F.«Access::Call» at f xs) ∙ ap (λ us. told_node at (told_expr f.value ∷ told_list us ∷ [])) (held _ told_expr (λ b. refl) xs.items)

pub told-Access-Member : (at : Option Span) (a : Box Expr Global) (b : Text) → told_access (access.Member at a b) ≡ told_node at (told_expr a.value ∷ told_text b ∷ [])
told-Access-Member at a b = ap told_access (sym (access.rolls-Member at a b)) ∙ fold-roll-Access Told Told Told Told Told Told Told Told Told Told told_access_step told_control_step told_expr_step told_jsx_step told_key_step told_link_step told_operation_step told_pat_step told_prop_step told_stmt_step (Access-F.«Access::Member» at a b)

pub told-Access-Index : (at : Option Span) (a : Box Expr Global) (b : Box Expr Global) → told_access (access.Index at a b) ≡ told_node at (told_expr a.value ∷ told_expr b.value ∷ [])
told-Access-Index at a b = ap told_access (sym (access.rolls-Index at a b)) ∙ fold-roll-Access Told Told Told Told Told Told Told Told Told Told told_access_step told_control_step told_expr_step told_jsx_step told_key_step told_link_step told_operation_step told_pat_step told_prop_step told_stmt_step (Access-F.«Access::Index» at a b)

pub told-Access-Tagged : (at : Option Span) (a : Box Expr Global) (here : Option Span) (ps : Vec Text Global) (xs : Vec (Box Expr Global) Global) → told_access (access.Tagged at a here ps xs) ≡ told_node at (told_expr a.value ∷ told_template here ps.items (map (inside told_expr) xs.items) ∷ [])
told-Access-Tagged at a here ps xs = ap told_access (sym (access.rolls-Tagged at a here ps xs)) ∙ fold-roll-Access Told Told Told Told Told Told Told Told Told Told told_access_step told_control_step told_expr_step told_jsx_step told_key_step told_link_step told_operation_step told_pat_step told_prop_step told_stmt_step (Access-F.Tagged at a here ps xs) ∙ ap (λ us. told_node at (told_expr a.value ∷ told_template here ps.items us ∷ [])) (held _ told_expr (λ b. refl) xs.items)

pub told-Access-New : (at : Option Span) (f : Box Expr Global) (xs : Vec (Box Expr Global) Global) → told_access (access.New at f xs) ≡ told_node at (told_expr f.value ∷ told_list (map (inside told_expr) xs.items) ∷ [])
told-Access-New at f xs = ap told_access (sym (access.rolls-New at f xs)) ∙ fold-roll-Access Told Told Told Told Told Told Told Told Told Told told_access_step told_control_step told_expr_step told_jsx_step told_key_step told_link_step told_operation_step told_pat_step told_prop_step told_stmt_step (Access-F.New at f xs) ∙ ap (λ us. told_node at (told_expr f.value ∷ told_list us ∷ [])) (held _ told_expr (λ b. refl) xs.items)

pub told-Access-NewWithoutArguments : (at : Option Span) (f : Box Expr Global) → told_access (access.NewWithoutArguments at f) ≡ told_node at (told_expr f.value ∷ [])
told-Access-NewWithoutArguments at f = ap told_access (sym (access.rolls-NewWithoutArguments at f)) ∙ fold-roll-Access Told Told Told Told Told Told Told Told Told Told told_access_step told_control_step told_expr_step told_jsx_step told_key_step told_link_step told_operation_step told_pat_step told_prop_step told_stmt_step (Access-F.NewWithoutArguments at f)

pub told-Access-SuperCall : (at : Option Span) (xs : Vec (Box Expr Global) Global) → told_access (access.SuperCall at xs) ≡ told_node at (told_list (map (inside told_expr) xs.items) ∷ [])
told-Access-SuperCall at xs = ap told_access (sym (access.rolls-SuperCall at xs)) ∙ fold-roll-Access Told Told Told Told Told Told Told Told Told Told told_access_step told_control_step told_expr_step told_jsx_step told_key_step told_link_step told_operation_step told_pat_step told_prop_step told_stmt_step (Access-F.SuperCall at xs) ∙ ap (λ us. told_node at (told_list us ∷ [])) (held _ told_expr (λ b. refl) xs.items)

pub told-Access-SuperMember : (at : Option Span) (b : Text) → told_access (access.SuperMember at b) ≡ told_node at (told_text b ∷ [])
told-Access-SuperMember at b = ap told_access (sym (access.rolls-SuperMember at b)) ∙ fold-roll-Access Told Told Told Told Told Told Told Told Told Told told_access_step told_control_step told_expr_step told_jsx_step told_key_step told_link_step told_operation_step told_pat_step told_prop_step told_stmt_step (Access-F.SuperMember at b)

pub told-Access-SuperIndex : (at : Option Span) (b : Box Expr Global) → told_access (access.SuperIndex at b) ≡ told_node at (told_expr b.value ∷ [])
told-Access-SuperIndex at b = ap told_access (sym (access.rolls-SuperIndex at b)) ∙ fold-roll-Access Told Told Told Told Told Told Told Told Told Told told_access_step told_control_step told_expr_step told_jsx_step told_key_step told_link_step told_operation_step told_pat_step told_prop_step told_stmt_step (Access-F.SuperIndex at b)

pub told-Access-ImportCall : (at : Option Span) (a : Box Expr Global) → told_access (access.ImportCall at a) ≡ told_node at (told_expr a.value ∷ [])
told-Access-ImportCall at a = ap told_access (sym (access.rolls-ImportCall at a)) ∙ fold-roll-Access Told Told Told Told Told Told Told Told Told Told told_access_step told_control_step told_expr_step told_jsx_step told_key_step told_link_step told_operation_step told_pat_step told_prop_step told_stmt_step (Access-F.ImportCall at a)

pub told-Access-Chain : (at : Option Span) (a : Box Expr Global) (xs : Vec (Box Link Global) Global) → told_access (access.Chain at a xs) ≡ told_node at (told_expr a.value ∷ told_list (map (inside told_link) xs.items) ∷ [])
told-Access-Chain at a xs = ap told_access (sym (access.rolls-Chain at a xs)) ∙ fold-roll-Access Told Told Told Told Told Told Told Told Told Told told_access_step told_control_step told_expr_step told_jsx_step told_key_step told_link_step told_operation_step told_pat_step told_prop_step told_stmt_step (Access-F.Chain at a xs) ∙ ap (λ us. told_node at (told_expr a.value ∷ told_list us ∷ [])) (held _ told_link (λ b. refl) xs.items)

pub told-Link-Member : (at : Option Span) (q : LinkForm) (b : Text) → told_link (link.Member at q b) ≡ told_node at (told_text b ∷ [])
told-Link-Member at q b = ap told_link (sym (link.rolls-Member at q b)) ∙ fold-roll-Link Told Told Told Told Told Told Told Told Told Told told_access_step told_control_step told_expr_step told_jsx_step told_key_step told_link_step told_operation_step told_pat_step told_prop_step told_stmt_step (Link-F.«Link::Member» at q b)

pub told-Link-Index : (at : Option Span) (q : LinkForm) (b : Box Expr Global) → told_link (link.Index at q b) ≡ told_node at (told_expr b.value ∷ [])
told-Link-Index at q b = ap told_link (sym (link.rolls-Index at q b)) ∙ fold-roll-Link Told Told Told Told Told Told Told Told Told Told told_access_step told_control_step told_expr_step told_jsx_step told_key_step told_link_step told_operation_step told_pat_step told_prop_step told_stmt_step (Link-F.«Link::Index» at q b)

pub told-Link-Call : (at : Option Span) (q : LinkForm) (xs : Vec (Box Expr Global) Global) → told_link (link.Call at q xs) ≡ told_node at (told_list (map (inside told_expr) xs.items) ∷ [])
told-Link-Call at q xs = ap told_link (sym (link.rolls-Call at q xs)) ∙ fold-roll-Link Told Told Told Told Told Told Told Told Told Told told_access_step told_control_step told_expr_step told_jsx_step told_key_step told_link_step told_operation_step told_pat_step told_prop_step told_stmt_step (Link-F.«Link::Call» at q xs) ∙ ap (λ us. told_node at (told_list us ∷ [])) (held _ told_expr (λ b. refl) xs.items)

pub told-Prop-Pair : (at : Option Span) (k : Key) (a : Box Expr Global) → told_prop (prop.Pair at k a) ≡ told_node at (told_key k ∷ told_expr a.value ∷ [])
told-Prop-Pair at k a = ap told_prop (sym (prop.rolls-Pair at k a)) ∙ fold-roll-Prop Told Told Told Told Told Told Told Told Told Told told_access_step told_control_step told_expr_step told_jsx_step told_key_step told_link_step told_operation_step told_pat_step told_prop_step told_stmt_step (Prop-F.«Prop::Pair» at k a)

pub told-Prop-Shorthand : (at : Option Span) (a : Ident) → told_prop (prop.Shorthand at a) ≡ told_node at (told_text a.text ∷ [])
told-Prop-Shorthand at a = ap told_prop (sym (prop.rolls-Shorthand at a)) ∙ fold-roll-Prop Told Told Told Told Told Told Told Told Told Told told_access_step told_control_step told_expr_step told_jsx_step told_key_step told_link_step told_operation_step told_pat_step told_prop_step told_stmt_step (Prop-F.«Prop::Shorthand» at a)

pub told-Prop-Spread : (at : Option Span) (a : Box Expr Global) → told_prop (prop.Spread at a) ≡ told_node at (told_expr a.value ∷ [])
told-Prop-Spread at a = ap told_prop (sym (prop.rolls-Spread at a)) ∙ fold-roll-Prop Told Told Told Told Told Told Told Told Told Told told_access_step told_control_step told_expr_step told_jsx_step told_key_step told_link_step told_operation_step told_pat_step told_prop_step told_stmt_step (Prop-F.«Prop::Spread» at a)

pub told-Prop-Method : (at : Option Span) (p : Placement) (k : Key) (ps : Vec (Box Pat Global) Global) (ds : Vec Text Global) (ss : Vec (Box Stmt Global) Global) → told_prop (prop.Method at p k ps ds ss) ≡ told_node at (told_key k ∷ told_list (map (inside told_pat) ps.items) ∷ told_body ds.items (map (inside told_stmt) ss.items) ∷ [])
told-Prop-Method at p k ps ds ss = ap told_prop (sym (prop.rolls-Method at p k ps ds ss)) ∙ fold-roll-Prop Told Told Told Told Told Told Told Told Told Told told_access_step told_control_step told_expr_step told_jsx_step told_key_step told_link_step told_operation_step told_pat_step told_prop_step told_stmt_step (Prop-F.Method at p k ps ds ss) ∙ ap_2 (λ us vs. told_node at (told_key k ∷ told_list us ∷ told_body ds.items vs ∷ [])) (held _ told_pat (λ b. refl) ps.items) (held _ told_stmt (λ b. refl) ss.items)

pub told-Prop-Getter : (at : Option Span) (p : Placement) (k : Key) (ds : Vec Text Global) (ss : Vec (Box Stmt Global) Global) → told_prop (prop.Getter at p k ds ss) ≡ told_node at (told_key k ∷ told_body ds.items (map (inside told_stmt) ss.items) ∷ [])
told-Prop-Getter at p k ds ss = ap told_prop (sym (prop.rolls-Getter at p k ds ss)) ∙ fold-roll-Prop Told Told Told Told Told Told Told Told Told Told told_access_step told_control_step told_expr_step told_jsx_step told_key_step told_link_step told_operation_step told_pat_step told_prop_step told_stmt_step (Prop-F.Getter at p k ds ss) ∙ ap (λ us. told_node at (told_key k ∷ told_body ds.items us ∷ [])) (held _ told_stmt (λ b. refl) ss.items)

pub told-Prop-Setter : (at : Option Span) (p : Placement) (k : Key) (q : Box Pat Global) (ds : Vec Text Global) (ss : Vec (Box Stmt Global) Global) → told_prop (prop.Setter at p k q ds ss) ≡ told_node at (told_key k ∷ told_pat q.value ∷ told_body ds.items (map (inside told_stmt) ss.items) ∷ [])
told-Prop-Setter at p k q ds ss = ap told_prop (sym (prop.rolls-Setter at p k q ds ss)) ∙ fold-roll-Prop Told Told Told Told Told Told Told Told Told Told told_access_step told_control_step told_expr_step told_jsx_step told_key_step told_link_step told_operation_step told_pat_step told_prop_step told_stmt_step (Prop-F.Setter at p k q ds ss) ∙ ap (λ us. told_node at (told_key k ∷ told_pat q.value ∷ told_body ds.items us ∷ [])) (held _ told_stmt (λ b. refl) ss.items)

pub told-Prop-Field : (at : Option Span) (p : Placement) (k : Key) (e : Option (Box Expr Global)) → told_prop (prop.Field at p k e) ≡ told_node at (told_key k ∷ told_optional told_expr e ∷ [])
told-Prop-Field at p k None = ap told_prop (sym (prop.rolls-Field at p k None)) ∙ fold-roll-Prop Told Told Told Told Told Told Told Told Told Told told_access_step told_control_step told_expr_step told_jsx_step told_key_step told_link_step told_operation_step told_pat_step told_prop_step told_stmt_step (Prop-F.Field at p k None)
told-Prop-Field at p k (Some e) = ap told_prop (sym (prop.rolls-Field at p k (Some e))) ∙ fold-roll-Prop Told Told Told Told Told Told Told Told Told Told told_access_step told_control_step told_expr_step told_jsx_step told_key_step told_link_step told_operation_step told_pat_step told_prop_step told_stmt_step (Prop-F.Field at p k (Some e))

pub told-Key-Name : (a : Text) → told_key (key.Name a) ≡ told_text a
told-Key-Name a = ap told_key (sym (key.rolls-Name a)) ∙ fold-roll-Key Told Told Told Told Told Told Told Told Told Told told_access_step told_control_step told_expr_step told_jsx_step told_key_step told_link_step told_operation_step told_pat_step told_prop_step told_stmt_step (Key-F.Name a)

pub told-Key-Literal : (k : LiteralKind) (a : Text) → told_key (key.Literal k a) ≡ told_text a
told-Key-Literal k a = ap told_key (sym (key.rolls-Literal k a)) ∙ fold-roll-Key Told Told Told Told Told Told Told Told Told Told told_access_step told_control_step told_expr_step told_jsx_step told_key_step told_link_step told_operation_step told_pat_step told_prop_step told_stmt_step (Key-F.«Key::Literal» k a)

pub told-Key-Computed : (at : Option Span) (a : Box Expr Global) → told_key (key.Computed at a) ≡ told_node at (told_expr a.value ∷ [])
told-Key-Computed at a = ap told_key (sym (key.rolls-Computed at a)) ∙ fold-roll-Key Told Told Told Told Told Told Told Told Told Told told_access_step told_control_step told_expr_step told_jsx_step told_key_step told_link_step told_operation_step told_pat_step told_prop_step told_stmt_step (Key-F.Computed at a)

pub told-Pat-Ident : (at : Option Span) (a : Ident) → told_pat (pat.Ident at a) ≡ told_leaf at a.text
told-Pat-Ident at a = ap told_pat (sym (pat.rolls-Ident at a)) ∙ fold-roll-Pat Told Told Told Told Told Told Told Told Told Told told_access_step told_control_step told_expr_step told_jsx_step told_key_step told_link_step told_operation_step told_pat_step told_prop_step told_stmt_step (Pat-F.«Pat::Ident» at a)

pub told-Pat-Array : (at : Option Span) (xs : Vec (Box Pat Global) Global) → told_pat (pat.Array at xs) ≡ told_node at (told_list (map (inside told_pat) xs.items) ∷ [])
told-Pat-Array at xs = ap told_pat (sym (pat.rolls-Array at xs)) ∙ fold-roll-Pat Told Told Told Told Told Told Told Told Told Told told_access_step told_control_step told_expr_step told_jsx_step told_key_step told_link_step told_operation_step told_pat_step told_prop_step told_stmt_step (Pat-F.«Pat::Array» at xs) ∙ ap (λ us. told_node at (told_list us ∷ [])) (held _ told_pat (λ b. refl) xs.items)

pub told-Pat-Object : (at : Option Span) (xs : Vec (Box Pat Global) Global) → told_pat (pat.Object at xs) ≡ told_node at (told_list (map (inside told_pat) xs.items) ∷ [])
told-Pat-Object at xs = ap told_pat (sym (pat.rolls-Object at xs)) ∙ fold-roll-Pat Told Told Told Told Told Told Told Told Told Told told_access_step told_control_step told_expr_step told_jsx_step told_key_step told_link_step told_operation_step told_pat_step told_prop_step told_stmt_step (Pat-F.«Pat::Object» at xs) ∙ ap (λ us. told_node at (told_list us ∷ [])) (held _ told_pat (λ b. refl) xs.items)

pub told-Pat-Target : (a : Box Expr Global) → told_pat (pat.Target a) ≡ told_expr a.value
told-Pat-Target a = ap told_pat (sym (pat.rolls-Target a)) ∙ fold-roll-Pat Told Told Told Told Told Told Told Told Told Told told_access_step told_control_step told_expr_step told_jsx_step told_key_step told_link_step told_operation_step told_pat_step told_prop_step told_stmt_step (Pat-F.Target a)

pub told-Pat-Paren : (at : Option Span) (p : Box Pat Global) → told_pat (pat.Paren at p) ≡ told_pat p.value
told-Pat-Paren at p = ap told_pat (sym (pat.rolls-Paren at p)) ∙ fold-roll-Pat Told Told Told Told Told Told Told Told Told Told told_access_step told_control_step told_expr_step told_jsx_step told_key_step told_link_step told_operation_step told_pat_step told_prop_step told_stmt_step (Pat-F.«Pat::Paren» at p)

pub told-Pat-Binding : (at : Option Span) (p : Box Pat Global) (i : Option (Box Expr Global)) → told_pat (pat.Binding at p i) ≡ told_node at (told_pat p.value ∷ told_optional told_expr i ∷ [])
told-Pat-Binding at p None = ap told_pat (sym (pat.rolls-Binding at p None)) ∙ fold-roll-Pat Told Told Told Told Told Told Told Told Told Told told_access_step told_control_step told_expr_step told_jsx_step told_key_step told_link_step told_operation_step told_pat_step told_prop_step told_stmt_step (Pat-F.Binding at p None)
told-Pat-Binding at p (Some i) = ap told_pat (sym (pat.rolls-Binding at p (Some i))) ∙ fold-roll-Pat Told Told Told Told Told Told Told Told Told Told told_access_step told_control_step told_expr_step told_jsx_step told_key_step told_link_step told_operation_step told_pat_step told_prop_step told_stmt_step (Pat-F.Binding at p (Some i))

pub told-Pat-WithInit : (at : Option Span) (p : Box Pat Global) (a : Box Expr Global) → told_pat (pat.WithInit at p a) ≡ told_node at (told_pat p.value ∷ told_expr a.value ∷ [])
told-Pat-WithInit at p a = ap told_pat (sym (pat.rolls-WithInit at p a)) ∙ fold-roll-Pat Told Told Told Told Told Told Told Told Told Told told_access_step told_control_step told_expr_step told_jsx_step told_key_step told_link_step told_operation_step told_pat_step told_prop_step told_stmt_step (Pat-F.WithInit at p a)

pub told-Pat-Rest : (at : Option Span) (p : Box Pat Global) → told_pat (pat.Rest at p) ≡ told_node at (told_pat p.value ∷ [])
told-Pat-Rest at p = ap told_pat (sym (pat.rolls-Rest at p)) ∙ fold-roll-Pat Told Told Told Told Told Told Told Told Told Told told_access_step told_control_step told_expr_step told_jsx_step told_key_step told_link_step told_operation_step told_pat_step told_prop_step told_stmt_step (Pat-F.Rest at p)

pub told-Pat-Hole : told_pat pat.Hole ≡ tells [] no_tales
told-Pat-Hole = ap told_pat (sym pat.rolls-Hole) ∙ fold-roll-Pat Told Told Told Told Told Told Told Told Told Told told_access_step told_control_step told_expr_step told_jsx_step told_key_step told_link_step told_operation_step told_pat_step told_prop_step told_stmt_step Pat-F.«Pat::Hole»

pub told-Pat-Pair : (at : Option Span) (k : Key) (p : Box Pat Global) → told_pat (pat.Pair at k p) ≡ told_node at (told_key k ∷ told_pat p.value ∷ [])
told-Pat-Pair at k p = ap told_pat (sym (pat.rolls-Pair at k p)) ∙ fold-roll-Pat Told Told Told Told Told Told Told Told Told Told told_access_step told_control_step told_expr_step told_jsx_step told_key_step told_link_step told_operation_step told_pat_step told_prop_step told_stmt_step (Pat-F.«Pat::Pair» at k p)

pub told-Pat-Shorthand : (at : Option Span) (a : Ident) (e : Option (Box Expr Global)) → told_pat (pat.Shorthand at a e) ≡ told_node at (told_text a.text ∷ led_by told_expr e [])
told-Pat-Shorthand at a None = ap told_pat (sym (pat.rolls-Shorthand at a None)) ∙ fold-roll-Pat Told Told Told Told Told Told Told Told Told Told told_access_step told_control_step told_expr_step told_jsx_step told_key_step told_link_step told_operation_step told_pat_step told_prop_step told_stmt_step (Pat-F.«Pat::Shorthand» at a None)
told-Pat-Shorthand at a (Some e) = ap told_pat (sym (pat.rolls-Shorthand at a (Some e))) ∙ fold-roll-Pat Told Told Told Told Told Told Told Told Told Told told_access_step told_control_step told_expr_step told_jsx_step told_key_step told_link_step told_operation_step told_pat_step told_prop_step told_stmt_step (Pat-F.«Pat::Shorthand» at a (Some e))

pub told-Pat-RestProperty : (at : Option Span) (a : Ident) → told_pat (pat.RestProperty at a) ≡ told_node at (told_text a.text ∷ [])
told-Pat-RestProperty at a = ap told_pat (sym (pat.rolls-RestProperty at a)) ∙ fold-roll-Pat Told Told Told Told Told Told Told Told Told Told told_access_step told_control_step told_expr_step told_jsx_step told_key_step told_link_step told_operation_step told_pat_step told_prop_step told_stmt_step (Pat-F.RestProperty at a)

pub told-Pat-Declaration : (at : Option Span) (w : declared.DeclareWord) (ps : Vec (Box Pat Global) Global) → told_pat (pat.Declaration at w ps) ≡ told_node at (told_list (map (inside told_pat) ps.items) ∷ [])
told-Pat-Declaration at w ps = ap told_pat (sym (pat.rolls-Declaration at w ps)) ∙ fold-roll-Pat Told Told Told Told Told Told Told Told Told Told told_access_step told_control_step told_expr_step told_jsx_step told_key_step told_link_step told_operation_step told_pat_step told_prop_step told_stmt_step (Pat-F.Declaration at w ps) ∙ ap (λ us. told_node at (told_list us ∷ [])) (held _ told_pat (λ b. refl) ps.items)

pub told-Pat-Head : (at : Option Span) (w : declared.DeclareWord) (p : Box Pat Global) → told_pat (pat.Head at w p) ≡ told_node at (told_pat p.value ∷ [])
told-Pat-Head at w p = ap told_pat (sym (pat.rolls-Head at w p)) ∙ fold-roll-Pat Told Told Told Told Told Told Told Told Told Told told_access_step told_control_step told_expr_step told_jsx_step told_key_step told_link_step told_operation_step told_pat_step told_prop_step told_stmt_step (Pat-F.Head at w p)

pub told-Stmt-Block : (at : Option Span) (ss : Vec (Box Stmt Global) Global) → told_stmt (stmt.Block at ss) ≡ told_node at (told_list (map (inside told_stmt) ss.items) ∷ [])
told-Stmt-Block at ss = ap told_stmt (sym (stmt.rolls-Block at ss)) ∙ fold-roll-Stmt Told Told Told Told Told Told Told Told Told Told told_access_step told_control_step told_expr_step told_jsx_step told_key_step told_link_step told_operation_step told_pat_step told_prop_step told_stmt_step (Stmt-F.Block at ss) ∙ ap (λ us. told_node at (told_list us ∷ [])) (held _ told_stmt (λ b. refl) ss.items)

pub told-Stmt-Var : (at : Option Span) (w : declared.DeclareWord) (ps : Vec (Box Pat Global) Global) → told_stmt (stmt.Var at w ps) ≡ told_node at (told_list (map (inside told_pat) ps.items) ∷ [])
told-Stmt-Var at w ps = ap told_stmt (sym (stmt.rolls-Var at w ps)) ∙ fold-roll-Stmt Told Told Told Told Told Told Told Told Told Told told_access_step told_control_step told_expr_step told_jsx_step told_key_step told_link_step told_operation_step told_pat_step told_prop_step told_stmt_step (Stmt-F.Var at w ps) ∙ ap (λ us. told_node at (told_list us ∷ [])) (held _ told_pat (λ b. refl) ps.items)

pub told-Stmt-Empty : (at : Option Span) → told_stmt (stmt.Empty at) ≡ told_node at []
told-Stmt-Empty at = ap told_stmt (sym (stmt.rolls-Empty at)) ∙ fold-roll-Stmt Told Told Told Told Told Told Told Told Told Told told_access_step told_control_step told_expr_step told_jsx_step told_key_step told_link_step told_operation_step told_pat_step told_prop_step told_stmt_step (Stmt-F.Empty at)

pub told-Stmt-Expr : (at : Option Span) (e : Box Expr Global) → told_stmt (stmt.Expr at e) ≡ told_node at (told_expr e.value ∷ [])
told-Stmt-Expr at e = ap told_stmt (sym (stmt.rolls-Expr at e)) ∙ fold-roll-Stmt Told Told Told Told Told Told Told Told Told Told told_access_step told_control_step told_expr_step told_jsx_step told_key_step told_link_step told_operation_step told_pat_step told_prop_step told_stmt_step (Stmt-F.Expr at e)

pub told-Stmt-Control : (a : Control) → told_stmt (stmt.Control a) ≡ told_control a
told-Stmt-Control a = ap told_stmt (sym (stmt.rolls-Control a)) ∙ fold-roll-Stmt Told Told Told Told Told Told Told Told Told Told told_access_step told_control_step told_expr_step told_jsx_step told_key_step told_link_step told_operation_step told_pat_step told_prop_step told_stmt_step (Stmt-F.Control a)

pub told-Stmt-Continue : (at : Option Span) (a : Option Ident) → told_stmt (stmt.Continue at a) ≡ told_node at (told_name a ∷ [])
told-Stmt-Continue at a = ap told_stmt (sym (stmt.rolls-Continue at a)) ∙ fold-roll-Stmt Told Told Told Told Told Told Told Told Told Told told_access_step told_control_step told_expr_step told_jsx_step told_key_step told_link_step told_operation_step told_pat_step told_prop_step told_stmt_step (Stmt-F.Continue at a)

pub told-Stmt-Break : (at : Option Span) (a : Option Ident) → told_stmt (stmt.Break at a) ≡ told_node at (told_name a ∷ [])
told-Stmt-Break at a = ap told_stmt (sym (stmt.rolls-Break at a)) ∙ fold-roll-Stmt Told Told Told Told Told Told Told Told Told Told told_access_step told_control_step told_expr_step told_jsx_step told_key_step told_link_step told_operation_step told_pat_step told_prop_step told_stmt_step (Stmt-F.Break at a)

pub told-Stmt-Return : (at : Option Span) (e : Option (Box Expr Global)) → told_stmt (stmt.Return at e) ≡ told_node at (told_optional told_expr e ∷ [])
told-Stmt-Return at None = ap told_stmt (sym (stmt.rolls-Return at None)) ∙ fold-roll-Stmt Told Told Told Told Told Told Told Told Told Told told_access_step told_control_step told_expr_step told_jsx_step told_key_step told_link_step told_operation_step told_pat_step told_prop_step told_stmt_step (Stmt-F.Return at None)
told-Stmt-Return at (Some e) = ap told_stmt (sym (stmt.rolls-Return at (Some e))) ∙ fold-roll-Stmt Told Told Told Told Told Told Told Told Told Told told_access_step told_control_step told_expr_step told_jsx_step told_key_step told_link_step told_operation_step told_pat_step told_prop_step told_stmt_step (Stmt-F.Return at (Some e))

pub told-Stmt-Throw : (at : Option Span) (e : Box Expr Global) → told_stmt (stmt.Throw at e) ≡ told_node at (told_expr e.value ∷ [])
told-Stmt-Throw at e = ap told_stmt (sym (stmt.rolls-Throw at e)) ∙ fold-roll-Stmt Told Told Told Told Told Told Told Told Told Told told_access_step told_control_step told_expr_step told_jsx_step told_key_step told_link_step told_operation_step told_pat_step told_prop_step told_stmt_step (Stmt-F.Throw at e)

pub told-Stmt-Debugger : (at : Option Span) → told_stmt (stmt.Debugger at) ≡ told_node at []
told-Stmt-Debugger at = ap told_stmt (sym (stmt.rolls-Debugger at)) ∙ fold-roll-Stmt Told Told Told Told Told Told Told Told Told Told told_access_step told_control_step told_expr_step told_jsx_step told_key_step told_link_step told_operation_step told_pat_step told_prop_step told_stmt_step (Stmt-F.Debugger at)

pub told-Stmt-Function : (at : Option Span) (a : Ident) (ps : Vec (Box Pat Global) Global) (ds : Vec Text Global) (ss : Vec (Box Stmt Global) Global) → told_stmt (stmt.Function at a ps ds ss) ≡ told_node at (told_text a.text ∷ told_list (map (inside told_pat) ps.items) ∷ told_body ds.items (map (inside told_stmt) ss.items) ∷ [])
told-Stmt-Function at a ps ds ss = ap told_stmt (sym (stmt.rolls-Function at a ps ds ss)) ∙ fold-roll-Stmt Told Told Told Told Told Told Told Told Told Told told_access_step told_control_step told_expr_step told_jsx_step told_key_step told_link_step told_operation_step told_pat_step told_prop_step told_stmt_step (Stmt-F.«Stmt::Function» at a ps ds ss) ∙ ap_2 (λ us vs. told_node at (told_text a.text ∷ told_list us ∷ told_body ds.items vs ∷ [])) (held _ told_pat (λ b. refl) ps.items) (held _ told_stmt (λ b. refl) ss.items)

pub told-Stmt-Class : (at : Option Span) (a : Ident) (e : Option (Box Expr Global)) (ms : Vec (Box Prop Global) Global) → told_stmt (stmt.Class at a e ms) ≡ told_node at (told_text a.text ∷ told_optional told_expr e ∷ told_list (map (inside told_prop) ms.items) ∷ [])
told-Stmt-Class at a None ms = ap told_stmt (sym (stmt.rolls-Class at a None ms)) ∙ fold-roll-Stmt Told Told Told Told Told Told Told Told Told Told told_access_step told_control_step told_expr_step told_jsx_step told_key_step told_link_step told_operation_step told_pat_step told_prop_step told_stmt_step (Stmt-F.«Stmt::Class» at a None ms) ∙ ap (λ us. told_node at (told_text a.text ∷ told_optional told_expr None ∷ told_list us ∷ [])) (held _ told_prop (λ b. refl) ms.items)
told-Stmt-Class at a (Some e) ms = ap told_stmt (sym (stmt.rolls-Class at a (Some e) ms)) ∙ fold-roll-Stmt Told Told Told Told Told Told Told Told Told Told told_access_step told_control_step told_expr_step told_jsx_step told_key_step told_link_step told_operation_step told_pat_step told_prop_step told_stmt_step (Stmt-F.«Stmt::Class» at a (Some e) ms) ∙ ap (λ us. told_node at (told_text a.text ∷ told_optional told_expr (Some e) ∷ told_list us ∷ [])) (held _ told_prop (λ b. refl) ms.items)

pub told-Control-If : (at : Option Span) (e : Box Expr Global) (s : Box Stmt Global) (o : Option (Box Stmt Global)) → told_control (control.If at e s o) ≡ told_node at (told_expr e.value ∷ told_stmt s.value ∷ told_optional told_stmt o ∷ [])
told-Control-If at e s None = ap told_control (sym (control.rolls-If at e s None)) ∙ fold-roll-Control Told Told Told Told Told Told Told Told Told Told told_access_step told_control_step told_expr_step told_jsx_step told_key_step told_link_step told_operation_step told_pat_step told_prop_step told_stmt_step (Control-F.If at e s None)
told-Control-If at e s (Some o) = ap told_control (sym (control.rolls-If at e s (Some o))) ∙ fold-roll-Control Told Told Told Told Told Told Told Told Told Told told_access_step told_control_step told_expr_step told_jsx_step told_key_step told_link_step told_operation_step told_pat_step told_prop_step told_stmt_step (Control-F.If at e s (Some o))

pub told-Control-Do : (at : Option Span) (s : Box Stmt Global) (e : Box Expr Global) → told_control (control.Do at s e) ≡ told_node at (told_stmt s.value ∷ told_expr e.value ∷ [])
told-Control-Do at s e = ap told_control (sym (control.rolls-Do at s e)) ∙ fold-roll-Control Told Told Told Told Told Told Told Told Told Told told_access_step told_control_step told_expr_step told_jsx_step told_key_step told_link_step told_operation_step told_pat_step told_prop_step told_stmt_step (Control-F.Do at s e)

pub told-Control-While : (at : Option Span) (e : Box Expr Global) (s : Box Stmt Global) → told_control (control.While at e s) ≡ told_node at (told_expr e.value ∷ told_stmt s.value ∷ [])
told-Control-While at e s = ap told_control (sym (control.rolls-While at e s)) ∙ fold-roll-Control Told Told Told Told Told Told Told Told Told Told told_access_step told_control_step told_expr_step told_jsx_step told_key_step told_link_step told_operation_step told_pat_step told_prop_step told_stmt_step (Control-F.While at e s)

pub told-Control-For : (at : Option Span) (i : Option (Box Pat Global)) (e : Option (Box Expr Global)) (u : Option (Box Expr Global)) (s : Box Stmt Global) → told_control (control.For at i e u s) ≡ told_node at (told_optional told_pat i ∷ told_optional told_expr e ∷ told_optional told_expr u ∷ told_stmt s.value ∷ [])
told-Control-For at None None None s = ap told_control (sym (control.rolls-For at None None None s)) ∙ fold-roll-Control Told Told Told Told Told Told Told Told Told Told told_access_step told_control_step told_expr_step told_jsx_step told_key_step told_link_step told_operation_step told_pat_step told_prop_step told_stmt_step (Control-F.For at None None None s)
told-Control-For at None None (Some u) s = ap told_control (sym (control.rolls-For at None None (Some u) s)) ∙ fold-roll-Control Told Told Told Told Told Told Told Told Told Told told_access_step told_control_step told_expr_step told_jsx_step told_key_step told_link_step told_operation_step told_pat_step told_prop_step told_stmt_step (Control-F.For at None None (Some u) s)
told-Control-For at None (Some e) None s = ap told_control (sym (control.rolls-For at None (Some e) None s)) ∙ fold-roll-Control Told Told Told Told Told Told Told Told Told Told told_access_step told_control_step told_expr_step told_jsx_step told_key_step told_link_step told_operation_step told_pat_step told_prop_step told_stmt_step (Control-F.For at None (Some e) None s)
told-Control-For at None (Some e) (Some u) s = ap told_control (sym (control.rolls-For at None (Some e) (Some u) s)) ∙ fold-roll-Control Told Told Told Told Told Told Told Told Told Told told_access_step told_control_step told_expr_step told_jsx_step told_key_step told_link_step told_operation_step told_pat_step told_prop_step told_stmt_step (Control-F.For at None (Some e) (Some u) s)
told-Control-For at (Some i) None None s = ap told_control (sym (control.rolls-For at (Some i) None None s)) ∙ fold-roll-Control Told Told Told Told Told Told Told Told Told Told told_access_step told_control_step told_expr_step told_jsx_step told_key_step told_link_step told_operation_step told_pat_step told_prop_step told_stmt_step (Control-F.For at (Some i) None None s)
told-Control-For at (Some i) None (Some u) s = ap told_control (sym (control.rolls-For at (Some i) None (Some u) s)) ∙ fold-roll-Control Told Told Told Told Told Told Told Told Told Told told_access_step told_control_step told_expr_step told_jsx_step told_key_step told_link_step told_operation_step told_pat_step told_prop_step told_stmt_step (Control-F.For at (Some i) None (Some u) s)
told-Control-For at (Some i) (Some e) None s = ap told_control (sym (control.rolls-For at (Some i) (Some e) None s)) ∙ fold-roll-Control Told Told Told Told Told Told Told Told Told Told told_access_step told_control_step told_expr_step told_jsx_step told_key_step told_link_step told_operation_step told_pat_step told_prop_step told_stmt_step (Control-F.For at (Some i) (Some e) None s)
told-Control-For at (Some i) (Some e) (Some u) s = ap told_control (sym (control.rolls-For at (Some i) (Some e) (Some u) s)) ∙ fold-roll-Control Told Told Told Told Told Told Told Told Told Told told_access_step told_control_step told_expr_step told_jsx_step told_key_step told_link_step told_operation_step told_pat_step told_prop_step told_stmt_step (Control-F.For at (Some i) (Some e) (Some u) s)

pub told-Control-ForIn : (at : Option Span) (h : Box Pat Global) (e : Box Expr Global) (s : Box Stmt Global) → told_control (control.ForIn at h e s) ≡ told_node at (told_pat h.value ∷ told_expr e.value ∷ told_stmt s.value ∷ [])
told-Control-ForIn at h e s = ap told_control (sym (control.rolls-ForIn at h e s)) ∙ fold-roll-Control Told Told Told Told Told Told Told Told Told Told told_access_step told_control_step told_expr_step told_jsx_step told_key_step told_link_step told_operation_step told_pat_step told_prop_step told_stmt_step (Control-F.ForIn at h e s)

pub told-Control-ForOf : (at : Option Span) (h : Box Pat Global) (e : Box Expr Global) (s : Box Stmt Global) → told_control (control.ForOf at h e s) ≡ told_node at (told_pat h.value ∷ told_expr e.value ∷ told_stmt s.value ∷ [])
told-Control-ForOf at h e s = ap told_control (sym (control.rolls-ForOf at h e s)) ∙ fold-roll-Control Told Told Told Told Told Told Told Told Told Told told_access_step told_control_step told_expr_step told_jsx_step told_key_step told_link_step told_operation_step told_pat_step told_prop_step told_stmt_step (Control-F.ForOf at h e s)

pub told-Control-Label : (at : Option Span) (a : Ident) (s : Box Stmt Global) → told_control (control.Label at a s) ≡ told_node at (told_text a.text ∷ told_stmt s.value ∷ [])
told-Control-Label at a s = ap told_control (sym (control.rolls-Label at a s)) ∙ fold-roll-Control Told Told Told Told Told Told Told Told Told Told told_access_step told_control_step told_expr_step told_jsx_step told_key_step told_link_step told_operation_step told_pat_step told_prop_step told_stmt_step (Control-F.Label at a s)

pub told-Control-Switch : (at : Option Span) (e : Box Expr Global) (cs : Vec (Box Control Global) Global) → told_control (control.Switch at e cs) ≡ told_node at (told_expr e.value ∷ told_list (map (inside told_control) cs.items) ∷ [])
told-Control-Switch at e cs = ap told_control (sym (control.rolls-Switch at e cs)) ∙ fold-roll-Control Told Told Told Told Told Told Told Told Told Told told_access_step told_control_step told_expr_step told_jsx_step told_key_step told_link_step told_operation_step told_pat_step told_prop_step told_stmt_step (Control-F.Switch at e cs) ∙ ap (λ us. told_node at (told_expr e.value ∷ told_list us ∷ [])) (held _ told_control (λ b. refl) cs.items)

pub told-Control-Case : (at : Option Span) (e : Option (Box Expr Global)) (ss : Vec (Box Stmt Global) Global) → told_control (control.Case at e ss) ≡ told_node at (led_by told_expr e (told_list (map (inside told_stmt) ss.items) ∷ []))
told-Control-Case at None ss = ap told_control (sym (control.rolls-Case at None ss)) ∙ fold-roll-Control Told Told Told Told Told Told Told Told Told Told told_access_step told_control_step told_expr_step told_jsx_step told_key_step told_link_step told_operation_step told_pat_step told_prop_step told_stmt_step (Control-F.Case at None ss) ∙ ap (λ us. told_node at (led_by told_expr None (told_list us ∷ []))) (held _ told_stmt (λ b. refl) ss.items)
told-Control-Case at (Some e) ss = ap told_control (sym (control.rolls-Case at (Some e) ss)) ∙ fold-roll-Control Told Told Told Told Told Told Told Told Told Told told_access_step told_control_step told_expr_step told_jsx_step told_key_step told_link_step told_operation_step told_pat_step told_prop_step told_stmt_step (Control-F.Case at (Some e) ss) ∙ ap (λ us. told_node at (led_by told_expr (Some e) (told_list us ∷ []))) (held _ told_stmt (λ b. refl) ss.items)

pub told-Control-Try : (at : Option Span) (b : Box Stmt Global) (c : Option (Box Control Global)) (f : Option (Box Stmt Global)) → told_control (control.Try at b c f) ≡ told_node at (told_stmt b.value ∷ told_optional told_control c ∷ told_optional told_stmt f ∷ [])
told-Control-Try at b None None = ap told_control (sym (control.rolls-Try at b None None)) ∙ fold-roll-Control Told Told Told Told Told Told Told Told Told Told told_access_step told_control_step told_expr_step told_jsx_step told_key_step told_link_step told_operation_step told_pat_step told_prop_step told_stmt_step (Control-F.Try at b None None)
told-Control-Try at b None (Some f) = ap told_control (sym (control.rolls-Try at b None (Some f))) ∙ fold-roll-Control Told Told Told Told Told Told Told Told Told Told told_access_step told_control_step told_expr_step told_jsx_step told_key_step told_link_step told_operation_step told_pat_step told_prop_step told_stmt_step (Control-F.Try at b None (Some f))
told-Control-Try at b (Some c) None = ap told_control (sym (control.rolls-Try at b (Some c) None)) ∙ fold-roll-Control Told Told Told Told Told Told Told Told Told Told told_access_step told_control_step told_expr_step told_jsx_step told_key_step told_link_step told_operation_step told_pat_step told_prop_step told_stmt_step (Control-F.Try at b (Some c) None)
told-Control-Try at b (Some c) (Some f) = ap told_control (sym (control.rolls-Try at b (Some c) (Some f))) ∙ fold-roll-Control Told Told Told Told Told Told Told Told Told Told told_access_step told_control_step told_expr_step told_jsx_step told_key_step told_link_step told_operation_step told_pat_step told_prop_step told_stmt_step (Control-F.Try at b (Some c) (Some f))

pub told-Control-Catch : (at : Option Span) (p : Option (Box Pat Global)) (s : Box Stmt Global) → told_control (control.Catch at p s) ≡ told_node at (told_optional told_pat p ∷ told_stmt s.value ∷ [])
told-Control-Catch at None s = ap told_control (sym (control.rolls-Catch at None s)) ∙ fold-roll-Control Told Told Told Told Told Told Told Told Told Told told_access_step told_control_step told_expr_step told_jsx_step told_key_step told_link_step told_operation_step told_pat_step told_prop_step told_stmt_step (Control-F.Catch at None s)
told-Control-Catch at (Some p) s = ap told_control (sym (control.rolls-Catch at (Some p) s)) ∙ fold-roll-Control Told Told Told Told Told Told Told Told Told Told told_access_step told_control_step told_expr_step told_jsx_step told_key_step told_link_step told_operation_step told_pat_step told_prop_step told_stmt_step (Control-F.Catch at (Some p) s)

pub told-Jsx-Element : (at : Option Span) (t : Tag) (as' : Vec (Box Jsx Global) Global) → told_jsx (jsx.Element at t as') ≡ told_node at (told_tag t ∷ told_list (map (inside told_jsx) as'.items) ∷ [])
told-Jsx-Element at t as' = ap told_jsx (sym (jsx.rolls-Element at t as')) ∙ fold-roll-Jsx Told Told Told Told Told Told Told Told Told Told told_access_step told_control_step told_expr_step told_jsx_step told_key_step told_link_step told_operation_step told_pat_step told_prop_step told_stmt_step (Jsx-F.Element at t as') ∙ ap (λ us. told_node at (told_tag t ∷ told_list us ∷ [])) (held _ told_jsx (λ b. refl) as'.items)

pub told-Jsx-ElementWithChildren : (at : Option Span) (t : Tag) (as' : Vec (Box Jsx Global) Global) (xs : Vec (Box Jsx Global) Global) (u : Box Tag Global) → told_jsx (jsx.ElementWithChildren at t as' xs u) ≡ told_node at (told_tag t ∷ told_list (map (inside told_jsx) as'.items) ∷ told_list (map (inside told_jsx) xs.items) ∷ told_tag u.value ∷ [])
told-Jsx-ElementWithChildren at t as' xs u = ap told_jsx (sym (jsx.rolls-ElementWithChildren at t as' xs u)) ∙ fold-roll-Jsx Told Told Told Told Told Told Told Told Told Told told_access_step told_control_step told_expr_step told_jsx_step told_key_step told_link_step told_operation_step told_pat_step told_prop_step told_stmt_step (Jsx-F.ElementWithChildren at t as' xs u) ∙ ap_2 (λ us vs. told_node at (told_tag t ∷ told_list us ∷ told_list vs ∷ told_tag u.value ∷ [])) (held _ told_jsx (λ b. refl) as'.items) (held _ told_jsx (λ b. refl) xs.items)

pub told-Jsx-Fragment : (at : Option Span) (xs : Vec (Box Jsx Global) Global) → told_jsx (jsx.Fragment at xs) ≡ told_node at (told_list (map (inside told_jsx) xs.items) ∷ [])
told-Jsx-Fragment at xs = ap told_jsx (sym (jsx.rolls-Fragment at xs)) ∙ fold-roll-Jsx Told Told Told Told Told Told Told Told Told Told told_access_step told_control_step told_expr_step told_jsx_step told_key_step told_link_step told_operation_step told_pat_step told_prop_step told_stmt_step (Jsx-F.Fragment at xs) ∙ ap (λ us. told_node at (told_list us ∷ [])) (held _ told_jsx (λ b. refl) xs.items)

pub told-Jsx-Text : (at : Option Span) (a : Text) → told_jsx (jsx.Text at a) ≡ told_leaf at a
told-Jsx-Text at a = ap told_jsx (sym (jsx.rolls-Text at a)) ∙ fold-roll-Jsx Told Told Told Told Told Told Told Told Told Told told_access_step told_control_step told_expr_step told_jsx_step told_key_step told_link_step told_operation_step told_pat_step told_prop_step told_stmt_step (Jsx-F.Text at a)

pub told-Jsx-Str : (at : Option Span) (a : Text) → told_jsx (jsx.Str at a) ≡ told_leaf at a
told-Jsx-Str at a = ap told_jsx (sym (jsx.rolls-Str at a)) ∙ fold-roll-Jsx Told Told Told Told Told Told Told Told Told Told told_access_step told_control_step told_expr_step told_jsx_step told_key_step told_link_step told_operation_step told_pat_step told_prop_step told_stmt_step (Jsx-F.Str at a)

pub told-Jsx-Container : (at : Option Span) (e : Option (Box Expr Global)) → told_jsx (jsx.Container at e) ≡ told_node at (led_by told_expr e [])
told-Jsx-Container at None = ap told_jsx (sym (jsx.rolls-Container at None)) ∙ fold-roll-Jsx Told Told Told Told Told Told Told Told Told Told told_access_step told_control_step told_expr_step told_jsx_step told_key_step told_link_step told_operation_step told_pat_step told_prop_step told_stmt_step (Jsx-F.Container at None)
told-Jsx-Container at (Some e) = ap told_jsx (sym (jsx.rolls-Container at (Some e))) ∙ fold-roll-Jsx Told Told Told Told Told Told Told Told Told Told told_access_step told_control_step told_expr_step told_jsx_step told_key_step told_link_step told_operation_step told_pat_step told_prop_step told_stmt_step (Jsx-F.Container at (Some e))

pub told-Jsx-Spread : (at : Option Span) (e : Box Expr Global) → told_jsx (jsx.Spread at e) ≡ told_node at (told_expr e.value ∷ [])
told-Jsx-Spread at e = ap told_jsx (sym (jsx.rolls-Spread at e)) ∙ fold-roll-Jsx Told Told Told Told Told Told Told Told Told Told told_access_step told_control_step told_expr_step told_jsx_step told_key_step told_link_step told_operation_step told_pat_step told_prop_step told_stmt_step (Jsx-F.«Jsx::Spread» at e)

pub told-Jsx-Attribute : (at : Option Span) (a : AttrName) (v : Option (Box Jsx Global)) → told_jsx (jsx.Attribute at a v) ≡ told_node at (told_attr_name a ∷ told_optional told_jsx v ∷ [])
told-Jsx-Attribute at a None = ap told_jsx (sym (jsx.rolls-Attribute at a None)) ∙ fold-roll-Jsx Told Told Told Told Told Told Told Told Told Told told_access_step told_control_step told_expr_step told_jsx_step told_key_step told_link_step told_operation_step told_pat_step told_prop_step told_stmt_step (Jsx-F.Attribute at a None)
told-Jsx-Attribute at a (Some v) = ap told_jsx (sym (jsx.rolls-Attribute at a (Some v))) ∙ fold-roll-Jsx Told Told Told Told Told Told Told Told Told Told told_access_step told_control_step told_expr_step told_jsx_step told_key_step told_link_step told_operation_step told_pat_step told_prop_step told_stmt_step (Jsx-F.Attribute at a (Some v))

pub ruleset telling = (told-Expr-Ident, told-Expr-Literal, told-Expr-Word, told-Expr-Operation, told-Expr-Access, told-Expr-Array, told-Expr-Object, told-Expr-Template, told-Expr-Function, told-Expr-Class, told-Expr-Jsx, told-Expr-Paren, told-Operation-Seq, told-Operation-Assign, told-Operation-OpAssign, told-Operation-Arrow, told-Operation-ArrowBlock, told-Operation-BareArrow, told-Operation-BareArrowBlock, told-Operation-Cond, told-Operation-Binary, told-Operation-Unary, told-Operation-Update, told-Operation-Spread, told-Operation-Hole, told-Access-Call, told-Access-Member, told-Access-Index, told-Access-Tagged, told-Access-New, told-Access-NewWithoutArguments, told-Access-SuperCall, told-Access-SuperMember, told-Access-SuperIndex, told-Access-ImportCall, told-Access-Chain, told-Link-Member, told-Link-Index, told-Link-Call, told-Prop-Pair, told-Prop-Shorthand, told-Prop-Spread, told-Prop-Method, told-Prop-Getter, told-Prop-Setter, told-Prop-Field, told-Key-Name, told-Key-Literal, told-Key-Computed, told-Pat-Ident, told-Pat-Array, told-Pat-Object, told-Pat-Target, told-Pat-Paren, told-Pat-Binding, told-Pat-WithInit, told-Pat-Rest, told-Pat-Hole, told-Pat-Pair, told-Pat-Shorthand, told-Pat-RestProperty, told-Pat-Declaration, told-Pat-Head, told-Stmt-Block, told-Stmt-Var, told-Stmt-Empty, told-Stmt-Expr, told-Stmt-Control, told-Stmt-Continue, told-Stmt-Break, told-Stmt-Return, told-Stmt-Throw, told-Stmt-Debugger, told-Stmt-Function, told-Stmt-Class, told-Control-If, told-Control-Do, told-Control-While, told-Control-For, told-Control-ForIn, told-Control-ForOf, told-Control-Label, told-Control-Switch, told-Control-Case, told-Control-Try, told-Control-Catch, told-Jsx-Element, told-Jsx-ElementWithChildren, told-Jsx-Fragment, told-Jsx-Text, told-Jsx-Str, told-Jsx-Container, told-Jsx-Spread, told-Jsx-Attribute)
