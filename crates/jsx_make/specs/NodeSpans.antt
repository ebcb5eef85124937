-- The span that each node of the code's tree has, whatever spans its parts have.
use Rattle.std.specs.Prelude.{Option, None}
use Rattle.jsx_base.specs.declared.place.Span.{Span}
use Rattle.jsx_tree.specs.declared.tree.Expr.{Expr}
use Rattle.jsx_tree.specs.declared.tree.Operation.{Operation}
use Rattle.jsx_tree.specs.declared.tree.Access.{Access}
use Rattle.jsx_tree.specs.declared.tree.Link.{Link}
use Rattle.jsx_tree.specs.declared.tree.Prop.{Prop}
use Rattle.jsx_tree.specs.declared.tree.Key.{Key}
use Rattle.jsx_tree.specs.declared.tree.Pat.{Pat}
use Rattle.jsx_tree.specs.declared.tree.Stmt.{Stmt}
use Rattle.jsx_tree.specs.declared.tree.Control.{Control}
use Rattle.jsx_tree.specs.declared.tree.Jsx.{Jsx}
use Rattle.jsx_tree.specs.declared.tree.Access.TheOpen.{Access-F, Control-F, Expr-F, Jsx-F, Key-F, Link-F, Operation-F, Pat-F, Prop-F, Stmt-F}
use Rattle.jsx_tree.specs.declared.tree.Access.TheFolds.{fold-Access, fold-Control, fold-Expr, fold-Jsx, fold-Key, fold-Link, fold-Operation, fold-Pat, fold-Prop, fold-Stmt}

abbrev pub At : Type 0
At = Option Span

abbrev pub expr_at_step : Expr-F At At At At At At At At At At → At
expr_at_step (Expr-F.«Expr::Ident» at _) = at
expr_at_step (Expr-F.«Expr::Literal» at _ _) = at
expr_at_step (Expr-F.Word at _) = at
expr_at_step (Expr-F.Operation a) = a
expr_at_step (Expr-F.Access a) = a
expr_at_step (Expr-F.«Expr::Array» at _) = at
expr_at_step (Expr-F.«Expr::Object» at _) = at
expr_at_step (Expr-F.Template at _ _) = at
expr_at_step (Expr-F.«Expr::Function» at _ _ _ _) = at
expr_at_step (Expr-F.«Expr::Class» at _ _ _) = at
expr_at_step (Expr-F.Jsx a) = a.value
expr_at_step (Expr-F.«Expr::Paren» at _) = at

abbrev pub operation_at_step : Operation-F At At At At At At At At At At → At
operation_at_step (Operation-F.Seq at _) = at
operation_at_step (Operation-F.Assign at _ _) = at
operation_at_step (Operation-F.OpAssign at _ _ _) = at
operation_at_step (Operation-F.Arrow at _ _) = at
operation_at_step (Operation-F.ArrowBlock at _ _ _) = at
operation_at_step (Operation-F.BareArrow at _ _) = at
operation_at_step (Operation-F.BareArrowBlock at _ _ _) = at
operation_at_step (Operation-F.Cond at _ _ _) = at
operation_at_step (Operation-F.Binary at _ _ _) = at
operation_at_step (Operation-F.Unary at _ _) = at
operation_at_step (Operation-F.Update at _ _ _) = at
operation_at_step (Operation-F.«Operation::Spread» at _) = at
operation_at_step Operation-F.«Operation::Hole» = None

abbrev pub access_at_step : Access-F At At At At At At At At At At → At
access_at_step (Access-F.«Access::Call» at _ _) = at
access_at_step (Access-F.«Access::Member» at _ _) = at
access_at_step (Access-F.«Access::Index» at _ _) = at
access_at_step (Access-F.Tagged at _ _ _ _) = at
access_at_step (Access-F.New at _ _) = at
access_at_step (Access-F.NewWithoutArguments at _) = at
access_at_step (Access-F.SuperCall at _) = at
access_at_step (Access-F.SuperMember at _) = at
access_at_step (Access-F.SuperIndex at _) = at
access_at_step (Access-F.ImportCall at _) = at
access_at_step (Access-F.Chain at _ _) = at

abbrev pub link_at_step : Link-F At At At At At At At At At At → At
link_at_step (Link-F.«Link::Member» at _ _) = at
link_at_step (Link-F.«Link::Index» at _ _) = at
link_at_step (Link-F.«Link::Call» at _ _) = at

abbrev pub member_at_step : Prop-F At At At At At At At At At At → At
member_at_step (Prop-F.«Prop::Pair» at _ _) = at
member_at_step (Prop-F.«Prop::Shorthand» at _) = at
member_at_step (Prop-F.«Prop::Spread» at _) = at
member_at_step (Prop-F.Method at _ _ _ _ _) = at
member_at_step (Prop-F.Getter at _ _ _ _) = at
member_at_step (Prop-F.Setter at _ _ _ _ _) = at
member_at_step (Prop-F.Field at _ _ _) = at

abbrev pub key_at_step : Key-F At At At At At At At At At At → At
key_at_step (Key-F.Name _) = None
key_at_step (Key-F.«Key::Literal» _ _) = None
key_at_step (Key-F.Computed at _) = at

abbrev pub pat_at_step : Pat-F At At At At At At At At At At → At
pat_at_step (Pat-F.«Pat::Ident» at _) = at
pat_at_step (Pat-F.«Pat::Array» at _) = at
pat_at_step (Pat-F.«Pat::Object» at _) = at
pat_at_step (Pat-F.Target a) = a.value
pat_at_step (Pat-F.«Pat::Paren» at _) = at
pat_at_step (Pat-F.Binding at _ _) = at
pat_at_step (Pat-F.WithInit at _ _) = at
pat_at_step (Pat-F.Rest at _) = at
pat_at_step Pat-F.«Pat::Hole» = None
pat_at_step (Pat-F.«Pat::Pair» at _ _) = at
pat_at_step (Pat-F.«Pat::Shorthand» at _ _) = at
pat_at_step (Pat-F.RestProperty at _) = at
pat_at_step (Pat-F.Declaration at _ _) = at
pat_at_step (Pat-F.Head at _ _) = at

abbrev pub stmt_at_step : Stmt-F At At At At At At At At At At → At
stmt_at_step (Stmt-F.Block at _) = at
stmt_at_step (Stmt-F.Var at _ _) = at
stmt_at_step (Stmt-F.Empty at) = at
stmt_at_step (Stmt-F.Expr at _) = at
stmt_at_step (Stmt-F.Control a) = a
stmt_at_step (Stmt-F.Continue at _) = at
stmt_at_step (Stmt-F.Break at _) = at
stmt_at_step (Stmt-F.Return at _) = at
stmt_at_step (Stmt-F.Throw at _) = at
stmt_at_step (Stmt-F.Debugger at) = at
stmt_at_step (Stmt-F.«Stmt::Function» at _ _ _ _) = at
stmt_at_step (Stmt-F.«Stmt::Class» at _ _ _) = at

abbrev pub control_at_step : Control-F At At At At At At At At At At → At
control_at_step (Control-F.If at _ _ _) = at
control_at_step (Control-F.Do at _ _) = at
control_at_step (Control-F.While at _ _) = at
control_at_step (Control-F.For at _ _ _ _) = at
control_at_step (Control-F.ForIn at _ _ _) = at
control_at_step (Control-F.ForOf at _ _ _) = at
control_at_step (Control-F.Label at _ _) = at
control_at_step (Control-F.Switch at _ _) = at
control_at_step (Control-F.Case at _ _) = at
control_at_step (Control-F.Try at _ _ _) = at
control_at_step (Control-F.Catch at _ _) = at

abbrev pub jsx_at_step : Jsx-F At At At At At At At At At At → At
jsx_at_step (Jsx-F.Element at _ _) = at
jsx_at_step (Jsx-F.ElementWithChildren at _ _ _ _) = at
jsx_at_step (Jsx-F.Fragment at _) = at
jsx_at_step (Jsx-F.Text at _) = at
jsx_at_step (Jsx-F.Str at _) = at
jsx_at_step (Jsx-F.Container at _) = at
jsx_at_step (Jsx-F.«Jsx::Spread» at _) = at
jsx_at_step (Jsx-F.Attribute at _ _) = at

abbrev pub expr_at : Expr → At
expr_at = fold-Expr At At At At At At At At At At access_at_step control_at_step expr_at_step jsx_at_step key_at_step link_at_step operation_at_step pat_at_step member_at_step stmt_at_step

abbrev pub operation_at : Operation → At
operation_at = fold-Operation At At At At At At At At At At access_at_step control_at_step expr_at_step jsx_at_step key_at_step link_at_step operation_at_step pat_at_step member_at_step stmt_at_step

abbrev pub access_at : Access → At
access_at = fold-Access At At At At At At At At At At access_at_step control_at_step expr_at_step jsx_at_step key_at_step link_at_step operation_at_step pat_at_step member_at_step stmt_at_step

abbrev pub link_at : Link → At
link_at = fold-Link At At At At At At At At At At access_at_step control_at_step expr_at_step jsx_at_step key_at_step link_at_step operation_at_step pat_at_step member_at_step stmt_at_step

abbrev pub member_at : Prop → At
member_at = fold-Prop At At At At At At At At At At access_at_step control_at_step expr_at_step jsx_at_step key_at_step link_at_step operation_at_step pat_at_step member_at_step stmt_at_step

abbrev pub key_at : Key → At
key_at = fold-Key At At At At At At At At At At access_at_step control_at_step expr_at_step jsx_at_step key_at_step link_at_step operation_at_step pat_at_step member_at_step stmt_at_step

abbrev pub pat_at : Pat → At
pat_at = fold-Pat At At At At At At At At At At access_at_step control_at_step expr_at_step jsx_at_step key_at_step link_at_step operation_at_step pat_at_step member_at_step stmt_at_step

abbrev pub stmt_at : Stmt → At
stmt_at = fold-Stmt At At At At At At At At At At access_at_step control_at_step expr_at_step jsx_at_step key_at_step link_at_step operation_at_step pat_at_step member_at_step stmt_at_step

abbrev pub control_at : Control → At
control_at = fold-Control At At At At At At At At At At access_at_step control_at_step expr_at_step jsx_at_step key_at_step link_at_step operation_at_step pat_at_step member_at_step stmt_at_step

abbrev pub jsx_at : Jsx → At
jsx_at = fold-Jsx At At At At At At At At At At access_at_step control_at_step expr_at_step jsx_at_step key_at_step link_at_step operation_at_step pat_at_step member_at_step stmt_at_step
