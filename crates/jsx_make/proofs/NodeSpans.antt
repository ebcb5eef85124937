-- The span of each kind of node.
use Rattle.std.proofs.Common.{◌≡◌, ap, sym, ◌∙◌, Option, None, Box, Vec, Global}
use Rattle.jsx_base.specs.declared.place.Span.{Span}
use Rattle.jsx_tree.specs.declared.text.Text.{Text}
use Rattle.jsx_tree.specs.declared.text.Ident.{Ident}
use Rattle.jsx_tree.specs.declared.text.LiteralKind.{LiteralKind}
use Rattle.jsx_tree.specs.declared.text.Word.{Word}
use Rattle.jsx_tree.specs.declared.text.DeclareWord as declared
use Rattle.jsx_tree.specs.declared.operator.BinaryOp as code_binary
use Rattle.jsx_tree.specs.declared.operator.AssignOp.{AssignOp}
use Rattle.jsx_tree.specs.declared.operator.UnaryOp as code_unary
use Rattle.jsx_tree.specs.declared.operator.UpdateOp as code_update
use Rattle.jsx_tree.specs.declared.operator.UpdateSide.{UpdateSide}
use Rattle.jsx_tree.specs.declared.tree.Tag.{Tag}
use Rattle.jsx_tree.specs.declared.tree.AttrName.{AttrName}
use Rattle.jsx_tree.specs.declared.tree.Expr.{Expr}
use Rattle.jsx_tree.specs.declared.tree.Operation.{Operation}
use Rattle.jsx_tree.specs.declared.tree.Access.{Access}
use Rattle.jsx_tree.specs.declared.tree.Link.{Link}
use Rattle.jsx_tree.specs.declared.tree.Prop.{Prop}
use Rattle.jsx_tree.specs.declared.tree.Key.{Key}
use Rattle.jsx_tree.specs.declared.tree.Pat.{Pat}
use Rattle.jsx_tree.specs.declared.tree.Stmt.{Stmt}
use Rattle.jsx_tree.specs.declared.tree.Control.{Control}
use Rattle.jsx_tree.specs.declared.tree.Jsx.{Jsx}
use Rattle.jsx_tree.specs.declared.tree.Expr.TheVariants as expr
use Rattle.jsx_tree.specs.declared.tree.Operation.TheVariants as operation
use Rattle.jsx_tree.specs.declared.tree.Access.TheVariants as access
use Rattle.jsx_tree.specs.declared.tree.Pat.TheVariants as pat
use Rattle.jsx_tree.specs.declared.tree.Stmt.TheVariants as stmt
use Rattle.jsx_tree.specs.declared.tree.Control.TheVariants as control
use Rattle.jsx_tree.specs.declared.tree.Jsx.TheVariants as jsx
use Rattle.jsx_tree.specs.declared.tree.Access.TheOpen.{Access-F, Control-F, Expr-F, Jsx-F, Operation-F, Pat-F, Stmt-F}
use Rattle.jsx_tree.specs.declared.tree.Access.TheFolds.{fold-roll-Access, fold-roll-Control, fold-roll-Expr, fold-roll-Jsx, fold-roll-Operation, fold-roll-Pat, fold-roll-Stmt}
use Rattle.jsx_make.specs.NodeSpans.{At, access_at_step, control_at_step, expr_at_step, jsx_at_step, key_at_step, link_at_step, operation_at_step, pat_at_step, member_at_step, stmt_at_step, expr_at, operation_at, access_at, pat_at, stmt_at, control_at, jsx_at}

pub at-Expr-Ident : (at : Option Span) (a : Ident) → expr_at (expr.Ident at a) ≡ at
at-Expr-Ident at a = ap expr_at (sym (expr.rolls-Ident at a)) ∙ fold-roll-Expr At At At At At At At At At At access_at_step control_at_step expr_at_step jsx_at_step key_at_step link_at_step operation_at_step pat_at_step member_at_step stmt_at_step (Expr-F.«Expr::Ident» at a)

pub at-Expr-Literal : (at : Option Span) (k : LiteralKind) (a : Text) → expr_at (expr.Literal at k a) ≡ at
at-Expr-Literal at k a = ap expr_at (sym (expr.rolls-Literal at k a)) ∙ fold-roll-Expr At At At At At At At At At At access_at_step control_at_step expr_at_step jsx_at_step key_at_step link_at_step operation_at_step pat_at_step member_at_step stmt_at_step (Expr-F.«Expr::Literal» at k a)

pub at-Expr-Word : (at : Option Span) (w : Word) → expr_at (expr.Word at w) ≡ at
at-Expr-Word at w = ap expr_at (sym (expr.rolls-Word at w)) ∙ fold-roll-Expr At At At At At At At At At At access_at_step control_at_step expr_at_step jsx_at_step key_at_step link_at_step operation_at_step pat_at_step member_at_step stmt_at_step (Expr-F.Word at w)

pub at-Expr-Operation : (a : Operation) → expr_at (expr.Operation a) ≡ operation_at a
at-Expr-Operation a = ap expr_at (sym (expr.rolls-Operation a)) ∙ fold-roll-Expr At At At At At At At At At At access_at_step control_at_step expr_at_step jsx_at_step key_at_step link_at_step operation_at_step pat_at_step member_at_step stmt_at_step (Expr-F.Operation a)

pub at-Expr-Access : (a : Access) → expr_at (expr.Access a) ≡ access_at a
at-Expr-Access a = ap expr_at (sym (expr.rolls-Access a)) ∙ fold-roll-Expr At At At At At At At At At At access_at_step control_at_step expr_at_step jsx_at_step key_at_step link_at_step operation_at_step pat_at_step member_at_step stmt_at_step (Expr-F.Access a)

pub at-Expr-Array : (at : Option Span) (xs : Vec (Box Expr Global) Global) → expr_at (expr.Array at xs) ≡ at
at-Expr-Array at xs = ap expr_at (sym (expr.rolls-Array at xs)) ∙ fold-roll-Expr At At At At At At At At At At access_at_step control_at_step expr_at_step jsx_at_step key_at_step link_at_step operation_at_step pat_at_step member_at_step stmt_at_step (Expr-F.«Expr::Array» at xs)

pub at-Expr-Object : (at : Option Span) (xs : Vec (Box Prop Global) Global) → expr_at (expr.Object at xs) ≡ at
at-Expr-Object at xs = ap expr_at (sym (expr.rolls-Object at xs)) ∙ fold-roll-Expr At At At At At At At At At At access_at_step control_at_step expr_at_step jsx_at_step key_at_step link_at_step operation_at_step pat_at_step member_at_step stmt_at_step (Expr-F.«Expr::Object» at xs)

pub at-Expr-Template : (at : Option Span) (ps : Vec Text Global) (xs : Vec (Box Expr Global) Global) → expr_at (expr.Template at ps xs) ≡ at
at-Expr-Template at ps xs = ap expr_at (sym (expr.rolls-Template at ps xs)) ∙ fold-roll-Expr At At At At At At At At At At access_at_step control_at_step expr_at_step jsx_at_step key_at_step link_at_step operation_at_step pat_at_step member_at_step stmt_at_step (Expr-F.Template at ps xs)

pub at-Expr-Function : (at : Option Span) (a : Option (Box Ident Global)) (ps : Vec (Box Pat Global) Global) (ds : Vec Text Global) (ss : Vec (Box Stmt Global) Global) → expr_at (expr.Function at a ps ds ss) ≡ at
at-Expr-Function at a ps ds ss = ap expr_at (sym (expr.rolls-Function at a ps ds ss)) ∙ fold-roll-Expr At At At At At At At At At At access_at_step control_at_step expr_at_step jsx_at_step key_at_step link_at_step operation_at_step pat_at_step member_at_step stmt_at_step (Expr-F.«Expr::Function» at a ps ds ss)

pub at-Expr-Class : (at : Option Span) (a : Option (Box Ident Global)) (e : Option (Box Expr Global)) (ms : Vec (Box Prop Global) Global) → expr_at (expr.Class at a e ms) ≡ at
at-Expr-Class at a e ms = ap expr_at (sym (expr.rolls-Class at a e ms)) ∙ fold-roll-Expr At At At At At At At At At At access_at_step control_at_step expr_at_step jsx_at_step key_at_step link_at_step operation_at_step pat_at_step member_at_step stmt_at_step (Expr-F.«Expr::Class» at a e ms)

pub at-Expr-Jsx : (a : Box Jsx Global) → expr_at (expr.Jsx a) ≡ jsx_at a.value
at-Expr-Jsx a = ap expr_at (sym (expr.rolls-Jsx a)) ∙ fold-roll-Expr At At At At At At At At At At access_at_step control_at_step expr_at_step jsx_at_step key_at_step link_at_step operation_at_step pat_at_step member_at_step stmt_at_step (Expr-F.Jsx a)

pub at-Expr-Paren : (at : Option Span) (a : Box Expr Global) → expr_at (expr.Paren at a) ≡ at
at-Expr-Paren at a = ap expr_at (sym (expr.rolls-Paren at a)) ∙ fold-roll-Expr At At At At At At At At At At access_at_step control_at_step expr_at_step jsx_at_step key_at_step link_at_step operation_at_step pat_at_step member_at_step stmt_at_step (Expr-F.«Expr::Paren» at a)

pub at-Operation-Seq : (at : Option Span) (xs : Vec (Box Expr Global) Global) → operation_at (operation.Seq at xs) ≡ at
at-Operation-Seq at xs = ap operation_at (sym (operation.rolls-Seq at xs)) ∙ fold-roll-Operation At At At At At At At At At At access_at_step control_at_step expr_at_step jsx_at_step key_at_step link_at_step operation_at_step pat_at_step member_at_step stmt_at_step (Operation-F.Seq at xs)

pub at-Expr-Operation-Seq : (at : Option Span) (xs : Vec (Box Expr Global) Global) → expr_at (expr.Operation (operation.Seq at xs)) ≡ at
at-Expr-Operation-Seq at xs = at-Expr-Operation (operation.Seq at xs) ∙ at-Operation-Seq at xs

pub at-Operation-Assign : (at : Option Span) (p : Box Pat Global) (a : Box Expr Global) → operation_at (operation.Assign at p a) ≡ at
at-Operation-Assign at p a = ap operation_at (sym (operation.rolls-Assign at p a)) ∙ fold-roll-Operation At At At At At At At At At At access_at_step control_at_step expr_at_step jsx_at_step key_at_step link_at_step operation_at_step pat_at_step member_at_step stmt_at_step (Operation-F.Assign at p a)

pub at-Expr-Operation-Assign : (at : Option Span) (p : Box Pat Global) (a : Box Expr Global) → expr_at (expr.Operation (operation.Assign at p a)) ≡ at
at-Expr-Operation-Assign at p a = at-Expr-Operation (operation.Assign at p a) ∙ at-Operation-Assign at p a

pub at-Operation-OpAssign : (at : Option Span) (o : AssignOp) (a : Box Pat Global) (b : Box Expr Global) → operation_at (operation.OpAssign at o a b) ≡ at
at-Operation-OpAssign at o a b = ap operation_at (sym (operation.rolls-OpAssign at o a b)) ∙ fold-roll-Operation At At At At At At At At At At access_at_step control_at_step expr_at_step jsx_at_step key_at_step link_at_step operation_at_step pat_at_step member_at_step stmt_at_step (Operation-F.OpAssign at o a b)

pub at-Expr-Operation-OpAssign : (at : Option Span) (o : AssignOp) (a : Box Pat Global) (b : Box Expr Global) → expr_at (expr.Operation (operation.OpAssign at o a b)) ≡ at
at-Expr-Operation-OpAssign at o a b = at-Expr-Operation (operation.OpAssign at o a b) ∙ at-Operation-OpAssign at o a b

pub at-Operation-Arrow : (at : Option Span) (ps : Vec (Box Pat Global) Global) (b : Box Expr Global) → operation_at (operation.Arrow at ps b) ≡ at
at-Operation-Arrow at ps b = ap operation_at (sym (operation.rolls-Arrow at ps b)) ∙ fold-roll-Operation At At At At At At At At At At access_at_step control_at_step expr_at_step jsx_at_step key_at_step link_at_step operation_at_step pat_at_step member_at_step stmt_at_step (Operation-F.Arrow at ps b)

pub at-Expr-Operation-Arrow : (at : Option Span) (ps : Vec (Box Pat Global) Global) (b : Box Expr Global) → expr_at (expr.Operation (operation.Arrow at ps b)) ≡ at
at-Expr-Operation-Arrow at ps b = at-Expr-Operation (operation.Arrow at ps b) ∙ at-Operation-Arrow at ps b

pub at-Operation-ArrowBlock : (at : Option Span) (ps : Vec (Box Pat Global) Global) (ds : Vec Text Global) (ss : Vec (Box Stmt Global) Global) → operation_at (operation.ArrowBlock at ps ds ss) ≡ at
at-Operation-ArrowBlock at ps ds ss = ap operation_at (sym (operation.rolls-ArrowBlock at ps ds ss)) ∙ fold-roll-Operation At At At At At At At At At At access_at_step control_at_step expr_at_step jsx_at_step key_at_step link_at_step operation_at_step pat_at_step member_at_step stmt_at_step (Operation-F.ArrowBlock at ps ds ss)

pub at-Expr-Operation-ArrowBlock : (at : Option Span) (ps : Vec (Box Pat Global) Global) (ds : Vec Text Global) (ss : Vec (Box Stmt Global) Global) → expr_at (expr.Operation (operation.ArrowBlock at ps ds ss)) ≡ at
at-Expr-Operation-ArrowBlock at ps ds ss = at-Expr-Operation (operation.ArrowBlock at ps ds ss) ∙ at-Operation-ArrowBlock at ps ds ss

pub at-Operation-BareArrow : (at : Option Span) (a : Ident) (b : Box Expr Global) → operation_at (operation.BareArrow at a b) ≡ at
at-Operation-BareArrow at a b = ap operation_at (sym (operation.rolls-BareArrow at a b)) ∙ fold-roll-Operation At At At At At At At At At At access_at_step control_at_step expr_at_step jsx_at_step key_at_step link_at_step operation_at_step pat_at_step member_at_step stmt_at_step (Operation-F.BareArrow at a b)

pub at-Expr-Operation-BareArrow : (at : Option Span) (a : Ident) (b : Box Expr Global) → expr_at (expr.Operation (operation.BareArrow at a b)) ≡ at
at-Expr-Operation-BareArrow at a b = at-Expr-Operation (operation.BareArrow at a b) ∙ at-Operation-BareArrow at a b

pub at-Operation-BareArrowBlock : (at : Option Span) (a : Ident) (ds : Vec Text Global) (ss : Vec (Box Stmt Global) Global) → operation_at (operation.BareArrowBlock at a ds ss) ≡ at
at-Operation-BareArrowBlock at a ds ss = ap operation_at (sym (operation.rolls-BareArrowBlock at a ds ss)) ∙ fold-roll-Operation At At At At At At At At At At access_at_step control_at_step expr_at_step jsx_at_step key_at_step link_at_step operation_at_step pat_at_step member_at_step stmt_at_step (Operation-F.BareArrowBlock at a ds ss)

pub at-Expr-Operation-BareArrowBlock : (at : Option Span) (a : Ident) (ds : Vec Text Global) (ss : Vec (Box Stmt Global) Global) → expr_at (expr.Operation (operation.BareArrowBlock at a ds ss)) ≡ at
at-Expr-Operation-BareArrowBlock at a ds ss = at-Expr-Operation (operation.BareArrowBlock at a ds ss) ∙ at-Operation-BareArrowBlock at a ds ss

pub at-Operation-Cond : (at : Option Span) (a : Box Expr Global) (b : Box Expr Global) (c : Box Expr Global) → operation_at (operation.Cond at a b c) ≡ at
at-Operation-Cond at a b c = ap operation_at (sym (operation.rolls-Cond at a b c)) ∙ fold-roll-Operation At At At At At At At At At At access_at_step control_at_step expr_at_step jsx_at_step key_at_step link_at_step operation_at_step pat_at_step member_at_step stmt_at_step (Operation-F.Cond at a b c)

pub at-Expr-Operation-Cond : (at : Option Span) (a : Box Expr Global) (b : Box Expr Global) (c : Box Expr Global) → expr_at (expr.Operation (operation.Cond at a b c)) ≡ at
at-Expr-Operation-Cond at a b c = at-Expr-Operation (operation.Cond at a b c) ∙ at-Operation-Cond at a b c

pub at-Operation-Binary : (at : Option Span) (o : code_binary.BinaryOp) (a : Box Expr Global) (b : Box Expr Global) → operation_at (operation.Binary at o a b) ≡ at
at-Operation-Binary at o a b = ap operation_at (sym (operation.rolls-Binary at o a b)) ∙ fold-roll-Operation At At At At At At At At At At access_at_step control_at_step expr_at_step jsx_at_step key_at_step link_at_step operation_at_step pat_at_step member_at_step stmt_at_step (Operation-F.Binary at o a b)

pub at-Expr-Operation-Binary : (at : Option Span) (o : code_binary.BinaryOp) (a : Box Expr Global) (b : Box Expr Global) → expr_at (expr.Operation (operation.Binary at o a b)) ≡ at
at-Expr-Operation-Binary at o a b = at-Expr-Operation (operation.Binary at o a b) ∙ at-Operation-Binary at o a b

pub at-Operation-Unary : (at : Option Span) (o : code_unary.UnaryOp) (a : Box Expr Global) → operation_at (operation.Unary at o a) ≡ at
at-Operation-Unary at o a = ap operation_at (sym (operation.rolls-Unary at o a)) ∙ fold-roll-Operation At At At At At At At At At At access_at_step control_at_step expr_at_step jsx_at_step key_at_step link_at_step operation_at_step pat_at_step member_at_step stmt_at_step (Operation-F.Unary at o a)

pub at-Expr-Operation-Unary : (at : Option Span) (o : code_unary.UnaryOp) (a : Box Expr Global) → expr_at (expr.Operation (operation.Unary at o a)) ≡ at
at-Expr-Operation-Unary at o a = at-Expr-Operation (operation.Unary at o a) ∙ at-Operation-Unary at o a

pub at-Operation-Update : (at : Option Span) (o : code_update.UpdateOp) (s : UpdateSide) (a : Box Pat Global) → operation_at (operation.Update at o s a) ≡ at
at-Operation-Update at o s a = ap operation_at (sym (operation.rolls-Update at o s a)) ∙ fold-roll-Operation At At At At At At At At At At access_at_step control_at_step expr_at_step jsx_at_step key_at_step link_at_step operation_at_step pat_at_step member_at_step stmt_at_step (Operation-F.Update at o s a)

pub at-Expr-Operation-Update : (at : Option Span) (o : code_update.UpdateOp) (s : UpdateSide) (a : Box Pat Global) → expr_at (expr.Operation (operation.Update at o s a)) ≡ at
at-Expr-Operation-Update at o s a = at-Expr-Operation (operation.Update at o s a) ∙ at-Operation-Update at o s a

pub at-Operation-Spread : (at : Option Span) (a : Box Expr Global) → operation_at (operation.Spread at a) ≡ at
at-Operation-Spread at a = ap operation_at (sym (operation.rolls-Spread at a)) ∙ fold-roll-Operation At At At At At At At At At At access_at_step control_at_step expr_at_step jsx_at_step key_at_step link_at_step operation_at_step pat_at_step member_at_step stmt_at_step (Operation-F.«Operation::Spread» at a)

pub at-Expr-Operation-Spread : (at : Option Span) (a : Box Expr Global) → expr_at (expr.Operation (operation.Spread at a)) ≡ at
at-Expr-Operation-Spread at a = at-Expr-Operation (operation.Spread at a) ∙ at-Operation-Spread at a

pub at-Operation-Hole : operation_at operation.Hole ≡ None
at-Operation-Hole = ap operation_at (sym operation.rolls-Hole) ∙ fold-roll-Operation At At At At At At At At At At access_at_step control_at_step expr_at_step jsx_at_step key_at_step link_at_step operation_at_step pat_at_step member_at_step stmt_at_step Operation-F.«Operation::Hole»

pub at-Expr-Operation-Hole : expr_at (expr.Operation operation.Hole) ≡ None
at-Expr-Operation-Hole = at-Expr-Operation operation.Hole ∙ at-Operation-Hole

pub at-Access-Call : (at : Option Span) (f : Box Expr Global) (xs : Vec (Box Expr Global) Global) → access_at (access.Call at f xs) ≡ at
at-Access-Call at f xs = ap access_at (sym (access.rolls-Call at f xs)) ∙ fold-roll-Access At At At At At At At At At At access_at_step control_at_step expr_at_step jsx_at_step key_at_step link_at_step operation_at_step pat_at_step member_at_step stmt_at_step (Access-F.«Access::Call» at f xs)

pub at-Expr-Access-Call : (at : Option Span) (f : Box Expr Global) (xs : Vec (Box Expr Global) Global) → expr_at (expr.Access (access.Call at f xs)) ≡ at
at-Expr-Access-Call at f xs = at-Expr-Access (access.Call at f xs) ∙ at-Access-Call at f xs

pub at-Access-Member : (at : Option Span) (a : Box Expr Global) (b : Text) → access_at (access.Member at a b) ≡ at
at-Access-Member at a b = ap access_at (sym (access.rolls-Member at a b)) ∙ fold-roll-Access At At At At At At At At At At access_at_step control_at_step expr_at_step jsx_at_step key_at_step link_at_step operation_at_step pat_at_step member_at_step stmt_at_step (Access-F.«Access::Member» at a b)

pub at-Expr-Access-Member : (at : Option Span) (a : Box Expr Global) (b : Text) → expr_at (expr.Access (access.Member at a b)) ≡ at
at-Expr-Access-Member at a b = at-Expr-Access (access.Member at a b) ∙ at-Access-Member at a b

pub at-Access-Index : (at : Option Span) (a : Box Expr Global) (b : Box Expr Global) → access_at (access.Index at a b) ≡ at
at-Access-Index at a b = ap access_at (sym (access.rolls-Index at a b)) ∙ fold-roll-Access At At At At At At At At At At access_at_step control_at_step expr_at_step jsx_at_step key_at_step link_at_step operation_at_step pat_at_step member_at_step stmt_at_step (Access-F.«Access::Index» at a b)

pub at-Expr-Access-Index : (at : Option Span) (a : Box Expr Global) (b : Box Expr Global) → expr_at (expr.Access (access.Index at a b)) ≡ at
at-Expr-Access-Index at a b = at-Expr-Access (access.Index at a b) ∙ at-Access-Index at a b

pub at-Access-Tagged : (at : Option Span) (a : Box Expr Global) (here : Option Span) (ps : Vec Text Global) (xs : Vec (Box Expr Global) Global) → access_at (access.Tagged at a here ps xs) ≡ at
at-Access-Tagged at a here ps xs = ap access_at (sym (access.rolls-Tagged at a here ps xs)) ∙ fold-roll-Access At At At At At At At At At At access_at_step control_at_step expr_at_step jsx_at_step key_at_step link_at_step operation_at_step pat_at_step member_at_step stmt_at_step (Access-F.Tagged at a here ps xs)

pub at-Expr-Access-Tagged : (at : Option Span) (a : Box Expr Global) (here : Option Span) (ps : Vec Text Global) (xs : Vec (Box Expr Global) Global) → expr_at (expr.Access (access.Tagged at a here ps xs)) ≡ at
at-Expr-Access-Tagged at a here ps xs = at-Expr-Access (access.Tagged at a here ps xs) ∙ at-Access-Tagged at a here ps xs

pub at-Access-New : (at : Option Span) (f : Box Expr Global) (xs : Vec (Box Expr Global) Global) → access_at (access.New at f xs) ≡ at
at-Access-New at f xs = ap access_at (sym (access.rolls-New at f xs)) ∙ fold-roll-Access At At At At At At At At At At access_at_step control_at_step expr_at_step jsx_at_step key_at_step link_at_step operation_at_step pat_at_step member_at_step stmt_at_step (Access-F.New at f xs)

pub at-Expr-Access-New : (at : Option Span) (f : Box Expr Global) (xs : Vec (Box Expr Global) Global) → expr_at (expr.Access (access.New at f xs)) ≡ at
at-Expr-Access-New at f xs = at-Expr-Access (access.New at f xs) ∙ at-Access-New at f xs

pub at-Access-NewWithoutArguments : (at : Option Span) (f : Box Expr Global) → access_at (access.NewWithoutArguments at f) ≡ at
at-Access-NewWithoutArguments at f = ap access_at (sym (access.rolls-NewWithoutArguments at f)) ∙ fold-roll-Access At At At At At At At At At At access_at_step control_at_step expr_at_step jsx_at_step key_at_step link_at_step operation_at_step pat_at_step member_at_step stmt_at_step (Access-F.NewWithoutArguments at f)

pub at-Expr-Access-NewWithoutArguments : (at : Option Span) (f : Box Expr Global) → expr_at (expr.Access (access.NewWithoutArguments at f)) ≡ at
at-Expr-Access-NewWithoutArguments at f = at-Expr-Access (access.NewWithoutArguments at f) ∙ at-Access-NewWithoutArguments at f

pub at-Access-SuperCall : (at : Option Span) (xs : Vec (Box Expr Global) Global) → access_at (access.SuperCall at xs) ≡ at
at-Access-SuperCall at xs = ap access_at (sym (access.rolls-SuperCall at xs)) ∙ fold-roll-Access At At At At At At At At At At access_at_step control_at_step expr_at_step jsx_at_step key_at_step link_at_step operation_at_step pat_at_step member_at_step stmt_at_step (Access-F.SuperCall at xs)

pub at-Expr-Access-SuperCall : (at : Option Span) (xs : Vec (Box Expr Global) Global) → expr_at (expr.Access (access.SuperCall at xs)) ≡ at
at-Expr-Access-SuperCall at xs = at-Expr-Access (access.SuperCall at xs) ∙ at-Access-SuperCall at xs

pub at-Access-SuperMember : (at : Option Span) (b : Text) → access_at (access.SuperMember at b) ≡ at
at-Access-SuperMember at b = ap access_at (sym (access.rolls-SuperMember at b)) ∙ fold-roll-Access At At At At At At At At At At access_at_step control_at_step expr_at_step jsx_at_step key_at_step link_at_step operation_at_step pat_at_step member_at_step stmt_at_step (Access-F.SuperMember at b)

pub at-Expr-Access-SuperMember : (at : Option Span) (b : Text) → expr_at (expr.Access (access.SuperMember at b)) ≡ at
at-Expr-Access-SuperMember at b = at-Expr-Access (access.SuperMember at b) ∙ at-Access-SuperMember at b

pub at-Access-SuperIndex : (at : Option Span) (b : Box Expr Global) → access_at (access.SuperIndex at b) ≡ at
at-Access-SuperIndex at b = ap access_at (sym (access.rolls-SuperIndex at b)) ∙ fold-roll-Access At At At At At At At At At At access_at_step control_at_step expr_at_step jsx_at_step key_at_step link_at_step operation_at_step pat_at_step member_at_step stmt_at_step (Access-F.SuperIndex at b)

pub at-Expr-Access-SuperIndex : (at : Option Span) (b : Box Expr Global) → expr_at (expr.Access (access.SuperIndex at b)) ≡ at
at-Expr-Access-SuperIndex at b = at-Expr-Access (access.SuperIndex at b) ∙ at-Access-SuperIndex at b

pub at-Access-ImportCall : (at : Option Span) (a : Box Expr Global) → access_at (access.ImportCall at a) ≡ at
at-Access-ImportCall at a = ap access_at (sym (access.rolls-ImportCall at a)) ∙ fold-roll-Access At At At At At At At At At At access_at_step control_at_step expr_at_step jsx_at_step key_at_step link_at_step operation_at_step pat_at_step member_at_step stmt_at_step (Access-F.ImportCall at a)

pub at-Expr-Access-ImportCall : (at : Option Span) (a : Box Expr Global) → expr_at (expr.Access (access.ImportCall at a)) ≡ at
at-Expr-Access-ImportCall at a = at-Expr-Access (access.ImportCall at a) ∙ at-Access-ImportCall at a

pub at-Access-Chain : (at : Option Span) (a : Box Expr Global) (xs : Vec (Box Link Global) Global) → access_at (access.Chain at a xs) ≡ at
at-Access-Chain at a xs = ap access_at (sym (access.rolls-Chain at a xs)) ∙ fold-roll-Access At At At At At At At At At At access_at_step control_at_step expr_at_step jsx_at_step key_at_step link_at_step operation_at_step pat_at_step member_at_step stmt_at_step (Access-F.Chain at a xs)

pub at-Expr-Access-Chain : (at : Option Span) (a : Box Expr Global) (xs : Vec (Box Link Global) Global) → expr_at (expr.Access (access.Chain at a xs)) ≡ at
at-Expr-Access-Chain at a xs = at-Expr-Access (access.Chain at a xs) ∙ at-Access-Chain at a xs

pub at-Pat-Ident : (at : Option Span) (a : Ident) → pat_at (pat.Ident at a) ≡ at
at-Pat-Ident at a = ap pat_at (sym (pat.rolls-Ident at a)) ∙ fold-roll-Pat At At At At At At At At At At access_at_step control_at_step expr_at_step jsx_at_step key_at_step link_at_step operation_at_step pat_at_step member_at_step stmt_at_step (Pat-F.«Pat::Ident» at a)

pub at-Pat-Array : (at : Option Span) (xs : Vec (Box Pat Global) Global) → pat_at (pat.Array at xs) ≡ at
at-Pat-Array at xs = ap pat_at (sym (pat.rolls-Array at xs)) ∙ fold-roll-Pat At At At At At At At At At At access_at_step control_at_step expr_at_step jsx_at_step key_at_step link_at_step operation_at_step pat_at_step member_at_step stmt_at_step (Pat-F.«Pat::Array» at xs)

pub at-Pat-Object : (at : Option Span) (xs : Vec (Box Pat Global) Global) → pat_at (pat.Object at xs) ≡ at
at-Pat-Object at xs = ap pat_at (sym (pat.rolls-Object at xs)) ∙ fold-roll-Pat At At At At At At At At At At access_at_step control_at_step expr_at_step jsx_at_step key_at_step link_at_step operation_at_step pat_at_step member_at_step stmt_at_step (Pat-F.«Pat::Object» at xs)

pub at-Pat-Target : (a : Box Expr Global) → pat_at (pat.Target a) ≡ expr_at a.value
at-Pat-Target a = ap pat_at (sym (pat.rolls-Target a)) ∙ fold-roll-Pat At At At At At At At At At At access_at_step control_at_step expr_at_step jsx_at_step key_at_step link_at_step operation_at_step pat_at_step member_at_step stmt_at_step (Pat-F.Target a)

pub at-Pat-Paren : (at : Option Span) (p : Box Pat Global) → pat_at (pat.Paren at p) ≡ at
at-Pat-Paren at p = ap pat_at (sym (pat.rolls-Paren at p)) ∙ fold-roll-Pat At At At At At At At At At At access_at_step control_at_step expr_at_step jsx_at_step key_at_step link_at_step operation_at_step pat_at_step member_at_step stmt_at_step (Pat-F.«Pat::Paren» at p)

pub at-Pat-Binding : (at : Option Span) (p : Box Pat Global) (i : Option (Box Expr Global)) → pat_at (pat.Binding at p i) ≡ at
at-Pat-Binding at p i = ap pat_at (sym (pat.rolls-Binding at p i)) ∙ fold-roll-Pat At At At At At At At At At At access_at_step control_at_step expr_at_step jsx_at_step key_at_step link_at_step operation_at_step pat_at_step member_at_step stmt_at_step (Pat-F.Binding at p i)

pub at-Pat-WithInit : (at : Option Span) (p : Box Pat Global) (a : Box Expr Global) → pat_at (pat.WithInit at p a) ≡ at
at-Pat-WithInit at p a = ap pat_at (sym (pat.rolls-WithInit at p a)) ∙ fold-roll-Pat At At At At At At At At At At access_at_step control_at_step expr_at_step jsx_at_step key_at_step link_at_step operation_at_step pat_at_step member_at_step stmt_at_step (Pat-F.WithInit at p a)

pub at-Pat-Rest : (at : Option Span) (p : Box Pat Global) → pat_at (pat.Rest at p) ≡ at
at-Pat-Rest at p = ap pat_at (sym (pat.rolls-Rest at p)) ∙ fold-roll-Pat At At At At At At At At At At access_at_step control_at_step expr_at_step jsx_at_step key_at_step link_at_step operation_at_step pat_at_step member_at_step stmt_at_step (Pat-F.Rest at p)

pub at-Pat-Hole : pat_at pat.Hole ≡ None
at-Pat-Hole = ap pat_at (sym pat.rolls-Hole) ∙ fold-roll-Pat At At At At At At At At At At access_at_step control_at_step expr_at_step jsx_at_step key_at_step link_at_step operation_at_step pat_at_step member_at_step stmt_at_step Pat-F.«Pat::Hole»

pub at-Pat-Pair : (at : Option Span) (k : Key) (p : Box Pat Global) → pat_at (pat.Pair at k p) ≡ at
at-Pat-Pair at k p = ap pat_at (sym (pat.rolls-Pair at k p)) ∙ fold-roll-Pat At At At At At At At At At At access_at_step control_at_step expr_at_step jsx_at_step key_at_step link_at_step operation_at_step pat_at_step member_at_step stmt_at_step (Pat-F.«Pat::Pair» at k p)

pub at-Pat-Shorthand : (at : Option Span) (a : Ident) (e : Option (Box Expr Global)) → pat_at (pat.Shorthand at a e) ≡ at
at-Pat-Shorthand at a e = ap pat_at (sym (pat.rolls-Shorthand at a e)) ∙ fold-roll-Pat At At At At At At At At At At access_at_step control_at_step expr_at_step jsx_at_step key_at_step link_at_step operation_at_step pat_at_step member_at_step stmt_at_step (Pat-F.«Pat::Shorthand» at a e)

pub at-Pat-RestProperty : (at : Option Span) (a : Ident) → pat_at (pat.RestProperty at a) ≡ at
at-Pat-RestProperty at a = ap pat_at (sym (pat.rolls-RestProperty at a)) ∙ fold-roll-Pat At At At At At At At At At At access_at_step control_at_step expr_at_step jsx_at_step key_at_step link_at_step operation_at_step pat_at_step member_at_step stmt_at_step (Pat-F.RestProperty at a)

pub at-Pat-Declaration : (at : Option Span) (w : declared.DeclareWord) (ps : Vec (Box Pat Global) Global) → pat_at (pat.Declaration at w ps) ≡ at
at-Pat-Declaration at w ps = ap pat_at (sym (pat.rolls-Declaration at w ps)) ∙ fold-roll-Pat At At At At At At At At At At access_at_step control_at_step expr_at_step jsx_at_step key_at_step link_at_step operation_at_step pat_at_step member_at_step stmt_at_step (Pat-F.Declaration at w ps)

pub at-Pat-Head : (at : Option Span) (w : declared.DeclareWord) (p : Box Pat Global) → pat_at (pat.Head at w p) ≡ at
at-Pat-Head at w p = ap pat_at (sym (pat.rolls-Head at w p)) ∙ fold-roll-Pat At At At At At At At At At At access_at_step control_at_step expr_at_step jsx_at_step key_at_step link_at_step operation_at_step pat_at_step member_at_step stmt_at_step (Pat-F.Head at w p)

pub at-Stmt-Block : (at : Option Span) (ss : Vec (Box Stmt Global) Global) → stmt_at (stmt.Block at ss) ≡ at
at-Stmt-Block at ss = ap stmt_at (sym (stmt.rolls-Block at ss)) ∙ fold-roll-Stmt At At At At At At At At At At access_at_step control_at_step expr_at_step jsx_at_step key_at_step link_at_step operation_at_step pat_at_step member_at_step stmt_at_step (Stmt-F.Block at ss)

pub at-Stmt-Var : (at : Option Span) (w : declared.DeclareWord) (ps : Vec (Box Pat Global) Global) → stmt_at (stmt.Var at w ps) ≡ at
at-Stmt-Var at w ps = ap stmt_at (sym (stmt.rolls-Var at w ps)) ∙ fold-roll-Stmt At At At At At At At At At At access_at_step control_at_step expr_at_step jsx_at_step key_at_step link_at_step operation_at_step pat_at_step member_at_step stmt_at_step (Stmt-F.Var at w ps)

pub at-Stmt-Empty : (at : Option Span) → stmt_at (stmt.Empty at) ≡ at
at-Stmt-Empty at = ap stmt_at (sym (stmt.rolls-Empty at)) ∙ fold-roll-Stmt At At At At At At At At At At access_at_step control_at_step expr_at_step jsx_at_step key_at_step link_at_step operation_at_step pat_at_step member_at_step stmt_at_step (Stmt-F.Empty at)

pub at-Stmt-Expr : (at : Option Span) (e : Box Expr Global) → stmt_at (stmt.Expr at e) ≡ at
at-Stmt-Expr at e = ap stmt_at (sym (stmt.rolls-Expr at e)) ∙ fold-roll-Stmt At At At At At At At At At At access_at_step control_at_step expr_at_step jsx_at_step key_at_step link_at_step operation_at_step pat_at_step member_at_step stmt_at_step (Stmt-F.Expr at e)

pub at-Stmt-Control : (a : Control) → stmt_at (stmt.Control a) ≡ control_at a
at-Stmt-Control a = ap stmt_at (sym (stmt.rolls-Control a)) ∙ fold-roll-Stmt At At At At At At At At At At access_at_step control_at_step expr_at_step jsx_at_step key_at_step link_at_step operation_at_step pat_at_step member_at_step stmt_at_step (Stmt-F.Control a)

pub at-Stmt-Continue : (at : Option Span) (a : Option Ident) → stmt_at (stmt.Continue at a) ≡ at
at-Stmt-Continue at a = ap stmt_at (sym (stmt.rolls-Continue at a)) ∙ fold-roll-Stmt At At At At At At At At At At access_at_step control_at_step expr_at_step jsx_at_step key_at_step link_at_step operation_at_step pat_at_step member_at_step stmt_at_step (Stmt-F.Continue at a)

pub at-Stmt-Break : (at : Option Span) (a : Option Ident) → stmt_at (stmt.Break at a) ≡ at
at-Stmt-Break at a = ap stmt_at (sym (stmt.rolls-Break at a)) ∙ fold-roll-Stmt At At At At At At At At At At access_at_step control_at_step expr_at_step jsx_at_step key_at_step link_at_step operation_at_step pat_at_step member_at_step stmt_at_step (Stmt-F.Break at a)

pub at-Stmt-Return : (at : Option Span) (e : Option (Box Expr Global)) → stmt_at (stmt.Return at e) ≡ at
at-Stmt-Return at e = ap stmt_at (sym (stmt.rolls-Return at e)) ∙ fold-roll-Stmt At At At At At At At At At At access_at_step control_at_step expr_at_step jsx_at_step key_at_step link_at_step operation_at_step pat_at_step member_at_step stmt_at_step (Stmt-F.Return at e)

pub at-Stmt-Throw : (at : Option Span) (e : Box Expr Global) → stmt_at (stmt.Throw at e) ≡ at
at-Stmt-Throw at e = ap stmt_at (sym (stmt.rolls-Throw at e)) ∙ fold-roll-Stmt At At At At At At At At At At access_at_step control_at_step expr_at_step jsx_at_step key_at_step link_at_step operation_at_step pat_at_step member_at_step stmt_at_step (Stmt-F.Throw at e)

pub at-Stmt-Debugger : (at : Option Span) → stmt_at (stmt.Debugger at) ≡ at
at-Stmt-Debugger at = ap stmt_at (sym (stmt.rolls-Debugger at)) ∙ fold-roll-Stmt At At At At At At At At At At access_at_step control_at_step expr_at_step jsx_at_step key_at_step link_at_step operation_at_step pat_at_step member_at_step stmt_at_step (Stmt-F.Debugger at)

pub at-Stmt-Function : (at : Option Span) (a : Ident) (ps : Vec (Box Pat Global) Global) (ds : Vec Text Global) (ss : Vec (Box Stmt Global) Global) → stmt_at (stmt.Function at a ps ds ss) ≡ at
at-Stmt-Function at a ps ds ss = ap stmt_at (sym (stmt.rolls-Function at a ps ds ss)) ∙ fold-roll-Stmt At At At At At At At At At At access_at_step control_at_step expr_at_step jsx_at_step key_at_step link_at_step operation_at_step pat_at_step member_at_step stmt_at_step (Stmt-F.«Stmt::Function» at a ps ds ss)

pub at-Stmt-Class : (at : Option Span) (a : Ident) (e : Option (Box Expr Global)) (ms : Vec (Box Prop Global) Global) → stmt_at (stmt.Class at a e ms) ≡ at
at-Stmt-Class at a e ms = ap stmt_at (sym (stmt.rolls-Class at a e ms)) ∙ fold-roll-Stmt At At At At At At At At At At access_at_step control_at_step expr_at_step jsx_at_step key_at_step link_at_step operation_at_step pat_at_step member_at_step stmt_at_step (Stmt-F.«Stmt::Class» at a e ms)

pub at-Control-If : (at : Option Span) (e : Box Expr Global) (s : Box Stmt Global) (o : Option (Box Stmt Global)) → control_at (control.If at e s o) ≡ at
at-Control-If at e s o = ap control_at (sym (control.rolls-If at e s o)) ∙ fold-roll-Control At At At At At At At At At At access_at_step control_at_step expr_at_step jsx_at_step key_at_step link_at_step operation_at_step pat_at_step member_at_step stmt_at_step (Control-F.If at e s o)

pub at-Control-Do : (at : Option Span) (s : Box Stmt Global) (e : Box Expr Global) → control_at (control.Do at s e) ≡ at
at-Control-Do at s e = ap control_at (sym (control.rolls-Do at s e)) ∙ fold-roll-Control At At At At At At At At At At access_at_step control_at_step expr_at_step jsx_at_step key_at_step link_at_step operation_at_step pat_at_step member_at_step stmt_at_step (Control-F.Do at s e)

pub at-Control-While : (at : Option Span) (e : Box Expr Global) (s : Box Stmt Global) → control_at (control.While at e s) ≡ at
at-Control-While at e s = ap control_at (sym (control.rolls-While at e s)) ∙ fold-roll-Control At At At At At At At At At At access_at_step control_at_step expr_at_step jsx_at_step key_at_step link_at_step operation_at_step pat_at_step member_at_step stmt_at_step (Control-F.While at e s)

pub at-Control-For : (at : Option Span) (i : Option (Box Pat Global)) (e : Option (Box Expr Global)) (u : Option (Box Expr Global)) (s : Box Stmt Global) → control_at (control.For at i e u s) ≡ at
at-Control-For at i e u s = ap control_at (sym (control.rolls-For at i e u s)) ∙ fold-roll-Control At At At At At At At At At At access_at_step control_at_step expr_at_step jsx_at_step key_at_step link_at_step operation_at_step pat_at_step member_at_step stmt_at_step (Control-F.For at i e u s)

pub at-Control-ForIn : (at : Option Span) (h : Box Pat Global) (e : Box Expr Global) (s : Box Stmt Global) → control_at (control.ForIn at h e s) ≡ at
at-Control-ForIn at h e s = ap control_at (sym (control.rolls-ForIn at h e s)) ∙ fold-roll-Control At At At At At At At At At At access_at_step control_at_step expr_at_step jsx_at_step key_at_step link_at_step operation_at_step pat_at_step member_at_step stmt_at_step (Control-F.ForIn at h e s)

pub at-Control-ForOf : (at : Option Span) (h : Box Pat Global) (e : Box Expr Global) (s : Box Stmt Global) → control_at (control.ForOf at h e s) ≡ at
at-Control-ForOf at h e s = ap control_at (sym (control.rolls-ForOf at h e s)) ∙ fold-roll-Control At At At At At At At At At At access_at_step control_at_step expr_at_step jsx_at_step key_at_step link_at_step operation_at_step pat_at_step member_at_step stmt_at_step (Control-F.ForOf at h e s)

pub at-Control-Label : (at : Option Span) (a : Ident) (s : Box Stmt Global) → control_at (control.Label at a s) ≡ at
at-Control-Label at a s = ap control_at (sym (control.rolls-Label at a s)) ∙ fold-roll-Control At At At At At At At At At At access_at_step control_at_step expr_at_step jsx_at_step key_at_step link_at_step operation_at_step pat_at_step member_at_step stmt_at_step (Control-F.Label at a s)

pub at-Control-Switch : (at : Option Span) (e : Box Expr Global) (cs : Vec (Box Control Global) Global) → control_at (control.Switch at e cs) ≡ at
at-Control-Switch at e cs = ap control_at (sym (control.rolls-Switch at e cs)) ∙ fold-roll-Control At At At At At At At At At At access_at_step control_at_step expr_at_step jsx_at_step key_at_step link_at_step operation_at_step pat_at_step member_at_step stmt_at_step (Control-F.Switch at e cs)

pub at-Control-Case : (at : Option Span) (e : Option (Box Expr Global)) (ss : Vec (Box Stmt Global) Global) → control_at (control.Case at e ss) ≡ at
at-Control-Case at e ss = ap control_at (sym (control.rolls-Case at e ss)) ∙ fold-roll-Control At At At At At At At At At At access_at_step control_at_step expr_at_step jsx_at_step key_at_step link_at_step operation_at_step pat_at_step member_at_step stmt_at_step (Control-F.Case at e ss)

pub at-Control-Try : (at : Option Span) (b : Box Stmt Global) (c : Option (Box Control Global)) (f : Option (Box Stmt Global)) → control_at (control.Try at b c f) ≡ at
at-Control-Try at b c f = ap control_at (sym (control.rolls-Try at b c f)) ∙ fold-roll-Control At At At At At At At At At At access_at_step control_at_step expr_at_step jsx_at_step key_at_step link_at_step operation_at_step pat_at_step member_at_step stmt_at_step (Control-F.Try at b c f)

pub at-Control-Catch : (at : Option Span) (p : Option (Box Pat Global)) (s : Box Stmt Global) → control_at (control.Catch at p s) ≡ at
at-Control-Catch at p s = ap control_at (sym (control.rolls-Catch at p s)) ∙ fold-roll-Control At At At At At At At At At At access_at_step control_at_step expr_at_step jsx_at_step key_at_step link_at_step operation_at_step pat_at_step member_at_step stmt_at_step (Control-F.Catch at p s)

pub at-Jsx-Element : (at : Option Span) (t : Tag) (as' : Vec (Box Jsx Global) Global) → jsx_at (jsx.Element at t as') ≡ at
at-Jsx-Element at t as' = ap jsx_at (sym (jsx.rolls-Element at t as')) ∙ fold-roll-Jsx At At At At At At At At At At access_at_step control_at_step expr_at_step jsx_at_step key_at_step link_at_step operation_at_step pat_at_step member_at_step stmt_at_step (Jsx-F.Element at t as')

pub at-Jsx-ElementWithChildren : (at : Option Span) (t : Tag) (as' : Vec (Box Jsx Global) Global) (xs : Vec (Box Jsx Global) Global) (u : Box Tag Global) → jsx_at (jsx.ElementWithChildren at t as' xs u) ≡ at
at-Jsx-ElementWithChildren at t as' xs u = ap jsx_at (sym (jsx.rolls-ElementWithChildren at t as' xs u)) ∙ fold-roll-Jsx At At At At At At At At At At access_at_step control_at_step expr_at_step jsx_at_step key_at_step link_at_step operation_at_step pat_at_step member_at_step stmt_at_step (Jsx-F.ElementWithChildren at t as' xs u)

pub at-Jsx-Fragment : (at : Option Span) (xs : Vec (Box Jsx Global) Global) → jsx_at (jsx.Fragment at xs) ≡ at
at-Jsx-Fragment at xs = ap jsx_at (sym (jsx.rolls-Fragment at xs)) ∙ fold-roll-Jsx At At At At At At At At At At access_at_step control_at_step expr_at_step jsx_at_step key_at_step link_at_step operation_at_step pat_at_step member_at_step stmt_at_step (Jsx-F.Fragment at xs)

pub at-Jsx-Text : (at : Option Span) (a : Text) → jsx_at (jsx.Text at a) ≡ at
at-Jsx-Text at a = ap jsx_at (sym (jsx.rolls-Text at a)) ∙ fold-roll-Jsx At At At At At At At At At At access_at_step control_at_step expr_at_step jsx_at_step key_at_step link_at_step operation_at_step pat_at_step member_at_step stmt_at_step (Jsx-F.Text at a)

pub at-Jsx-Str : (at : Option Span) (a : Text) → jsx_at (jsx.Str at a) ≡ at
at-Jsx-Str at a = ap jsx_at (sym (jsx.rolls-Str at a)) ∙ fold-roll-Jsx At At At At At At At At At At access_at_step control_at_step expr_at_step jsx_at_step key_at_step link_at_step operation_at_step pat_at_step member_at_step stmt_at_step (Jsx-F.Str at a)

pub at-Jsx-Container : (at : Option Span) (e : Option (Box Expr Global)) → jsx_at (jsx.Container at e) ≡ at
at-Jsx-Container at e = ap jsx_at (sym (jsx.rolls-Container at e)) ∙ fold-roll-Jsx At At At At At At At At At At access_at_step control_at_step expr_at_step jsx_at_step key_at_step link_at_step operation_at_step pat_at_step member_at_step stmt_at_step (Jsx-F.Container at e)

pub at-Jsx-Spread : (at : Option Span) (e : Box Expr Global) → jsx_at (jsx.Spread at e) ≡ at
at-Jsx-Spread at e = ap jsx_at (sym (jsx.rolls-Spread at e)) ∙ fold-roll-Jsx At At At At At At At At At At access_at_step control_at_step expr_at_step jsx_at_step key_at_step link_at_step operation_at_step pat_at_step member_at_step stmt_at_step (Jsx-F.«Jsx::Spread» at e)

pub at-Jsx-Attribute : (at : Option Span) (a : AttrName) (v : Option (Box Jsx Global)) → jsx_at (jsx.Attribute at a v) ≡ at
at-Jsx-Attribute at a v = ap jsx_at (sym (jsx.rolls-Attribute at a v)) ∙ fold-roll-Jsx At At At At At At At At At At access_at_step control_at_step expr_at_step jsx_at_step key_at_step link_at_step operation_at_step pat_at_step member_at_step stmt_at_step (Jsx-F.Attribute at a v)

pub ruleset node_spans = (at-Expr-Ident, at-Expr-Literal, at-Expr-Word, at-Expr-Operation, at-Expr-Access, at-Expr-Array, at-Expr-Object, at-Expr-Template, at-Expr-Function, at-Expr-Class, at-Expr-Jsx, at-Expr-Paren, at-Operation-Seq, at-Expr-Operation-Seq, at-Operation-Assign, at-Expr-Operation-Assign, at-Operation-OpAssign, at-Expr-Operation-OpAssign, at-Operation-Arrow, at-Expr-Operation-Arrow, at-Operation-ArrowBlock, at-Expr-Operation-ArrowBlock, at-Operation-BareArrow, at-Expr-Operation-BareArrow, at-Operation-BareArrowBlock, at-Expr-Operation-BareArrowBlock, at-Operation-Cond, at-Expr-Operation-Cond, at-Operation-Binary, at-Expr-Operation-Binary, at-Operation-Unary, at-Expr-Operation-Unary, at-Operation-Update, at-Expr-Operation-Update, at-Operation-Spread, at-Expr-Operation-Spread, at-Operation-Hole, at-Expr-Operation-Hole, at-Access-Call, at-Expr-Access-Call, at-Access-Member, at-Expr-Access-Member, at-Access-Index, at-Expr-Access-Index, at-Access-Tagged, at-Expr-Access-Tagged, at-Access-New, at-Expr-Access-New, at-Access-NewWithoutArguments, at-Expr-Access-NewWithoutArguments, at-Access-SuperCall, at-Expr-Access-SuperCall, at-Access-SuperMember, at-Expr-Access-SuperMember, at-Access-SuperIndex, at-Expr-Access-SuperIndex, at-Access-ImportCall, at-Expr-Access-ImportCall, at-Access-Chain, at-Expr-Access-Chain, at-Pat-Ident, at-Pat-Array, at-Pat-Object, at-Pat-Target, at-Pat-Paren, at-Pat-Binding, at-Pat-WithInit, at-Pat-Rest, at-Pat-Hole, at-Pat-Pair, at-Pat-Shorthand, at-Pat-RestProperty, at-Pat-Declaration, at-Pat-Head, at-Stmt-Block, at-Stmt-Var, at-Stmt-Empty, at-Stmt-Expr, at-Stmt-Control, at-Stmt-Continue, at-Stmt-Break, at-Stmt-Return, at-Stmt-Throw, at-Stmt-Debugger, at-Stmt-Function, at-Stmt-Class, at-Control-If, at-Control-Do, at-Control-While, at-Control-For, at-Control-ForIn, at-Control-ForOf, at-Control-Label, at-Control-Switch, at-Control-Case, at-Control-Try, at-Control-Catch, at-Jsx-Element, at-Jsx-ElementWithChildren, at-Jsx-Fragment, at-Jsx-Text, at-Jsx-Str, at-Jsx-Container, at-Jsx-Spread, at-Jsx-Attribute)
