-- What a printer has written and what it has left to write.
use Rattle.std.specs.Prelude.{ℕ, List, [], ◌∷◌, map, codes, drop, reverse, Option, Some, None, Box}
use Rattle.std.specs.Global.{Global}
use Rattle.std.specs.Str.{chars}
use Rattle.jsx_base.specs.Token as token
use Rattle.jsx_base.specs.declared.place.Span.{Span}
use Rattle.jsx_tree.specs.Kinds as kinds
use Rattle.jsx_tree.specs.Kinds.{Tree, leaf, node, list, Forest, none, part}
use Rattle.jsx_tree.specs.Grammar.{NoTrailing, Lines, TopLines, OneOrMore}
use Rattle.jsx_tree.specs.Spelling.{gathered}
use Rattle.jsx_tree.specs.Signs.{Sign}
use Rattle.jsx_tree.specs.View as view
use Rattle.jsx_tree.specs.View.{directive, forest, forest_at, inside, members_of_class, members_of_object, text_of}
use Rattle.jsx_tree.specs.ViewProgram.{view_specifier}
use Rattle.jsx_tree.specs.declared.program.ImportClause.{ImportClause}
use Rattle.jsx_tree.specs.declared.program.ImportClause.TheVariants as import_clause
use Rattle.jsx_tree.specs.declared.program.ImportNames.{ImportNames}
use Rattle.jsx_tree.specs.declared.program.ImportNames.TheVariants as import_names
use Rattle.jsx_tree.specs.declared.program.Specifier.{Specifier}
use Rattle.jsx_tree.specs.declared.program.Specifier.TheVariants as specifier
use Rattle.jsx_tree.specs.declared.text.Ident.{Ident}
use Rattle.jsx_tree.specs.declared.text.Text.{Text}
use Rattle.jsx_plan.specs.Noted.{noted_control, noted_expr, noted_item, noted_link, noted_member, noted_pattern, noted_stmt}
use Rattle.jsx_plan.specs.declared.node.Node.{Node}
use Rattle.jsx_plan.specs.declared.node.Node.TheVariants as nodes
use Rattle.jsx_plan.specs.declared.node.Owner.{Owner}
use Rattle.jsx_plan.specs.declared.node.Owner.TheVariants as owner
use Rattle.jsx_plan.specs.declared.node.Role.{Role}
use Rattle.jsx_plan.specs.declared.node.Role.TheVariants as role
use Rattle.jsx_plan.specs.declared.node.Side.{Side}
use Rattle.jsx_plan.specs.declared.node.Side.TheVariants as side
use Rattle.jsx_pen.specs.declared.step.Step.{Step}
use Rattle.jsx_pen.specs.declared.step.Step.TheVariants as step
use Rattle.jsx_plan.specs.declared.printer.Printer.{Printer}
use Rattle.jsx_pen.specs.Pen.{State, begin, inked, later, piece, placed, puts, raw, rows, signs, spanned}
use Rattle.jsx_pen.specs.Steps.{stepped}

abbrev pub role_of : Role → kinds.Role
role_of role.Binds = kinds.Binds
role_of role.Assigns = kinds.Assigns

abbrev pub side_of : Side → kinds.Side
side_of side.Imported = kinds.Imported
side_of side.Exported = kinds.Exported
side_of side.From = kinds.From

abbrev pub owner_of : Owner → view.Owner
owner_of owner.Object = view.OfObject
owner_of owner.Class = view.OfClass

-- how the trees of one place stand: with commas, and with one before the first too; each on a line, or with the end of its line; with nothing between
pub data Shape : Type 0 where
  Commas : Shape
  MoreCommas : Shape
  OnLines : Shape
  Ended : Shape
  Joined : Shape

-- what is left to write
pub data Task : Type 0 where
  -- a token, and a piece of a template; a text that needs no blank before it; the place of a call
  Ink : token.Text → Task
  Piece : token.Text → Task
  Lead : token.Text → Task
  Place : ℕ → Task
  Does : Step → Task
  Put : Tree → Task
  Many : Shape → Forest → Task
  -- the pieces of a template behind the first one, and the expressions before them
  Spans : List Text → List Tree → Task

abbrev pub arranged : Shape → State → List (List Sign) → State
arranged Commas p xs = puts p (gathered NoTrailing xs)
arranged MoreCommas p xs = puts p (later xs)
arranged OnLines p xs = puts p (gathered Lines xs)
arranged Ended p xs = puts p (gathered TopLines xs)
arranged Joined p xs = puts p (gathered OneOrMore xs)

-- what a task adds to the text
abbrev pub did : State → Task → State
did p (Ink t) = inked p t
did p (Piece t) = piece p t
did p (Lead t) = raw p t
did p (Place x) = placed p x
did p (Does s) = stepped s p
did p (Put t) = puts p (signs t)
did p (Many s ts) = arranged s p (rows ts)
did p (Spans as' ts) = spanned p as' ts

-- what a node of the printer's list is
abbrev pub seen : Node → Task
seen (nodes.Sign s) = Ink (chars s.now)
seen (nodes.Raw s) = Lead (chars s.now)
seen (nodes.Step s) = Does s
seen (nodes.Place b) = Place b.0
seen (nodes.Word t) = Ink (text_of t.now)
seen (nodes.Piece t) = Piece (text_of t.now)
seen (nodes.Expr x) = Put (noted_expr x.now.value)
seen (nodes.Stmt x) = Put (noted_stmt x.now.value)
seen (nodes.Control x) = Put (noted_control x.now.value)
seen (nodes.Pat x r) = Put (noted_pattern x.now.value (role_of r))
seen (nodes.Member x o) = Put (noted_member x.now.value (owner_of o))
seen (nodes.Link x) = Put (noted_link x.now.value)
seen (nodes.Exprs xs) = Many Commas (forest (map (inside noted_expr) xs.now))
seen (nodes.MoreExprs xs) = Many MoreCommas (forest (map (inside noted_expr) xs.now))
seen (nodes.Pats xs r) = Many Commas (forest_at (role_of r) (map (inside noted_pattern) xs.now))
seen (nodes.MorePats xs r) = Many MoreCommas (forest_at (role_of r) (map (inside noted_pattern) xs.now))
seen (nodes.Props xs) = Many Commas (members_of_object (map (inside noted_member) xs.now))
seen (nodes.MoreProps xs) = Many MoreCommas (members_of_object (map (inside noted_member) xs.now))
seen (nodes.Members xs) = Many OnLines (members_of_class (map (inside noted_member) xs.now))
seen (nodes.Stmts xs) = Many OnLines (forest (map (inside noted_stmt) xs.now))
seen (nodes.TopStmts xs) = Many Ended (forest (map (inside noted_stmt) xs.now))
seen (nodes.Cases xs) = Many OnLines (forest (map (inside noted_control) xs.now))
seen (nodes.Links xs) = Many Joined (forest (map (inside noted_link) xs.now))
seen (nodes.Directives xs) = Many OnLines (forest (map directive xs.now))
seen (nodes.TopDirectives xs) = Many Ended (forest (map directive xs.now))
seen (nodes.Items xs i) = Many Ended (forest (map noted_item (drop i xs.now.items)))
seen (nodes.Specifiers xs s i) = Many Commas (forest (map (view_specifier (side_of s)) (drop i xs.now.items)))
seen (nodes.MoreSpecifiers xs s i) = Many MoreCommas (forest (map (view_specifier (side_of s)) (drop i xs.now.items)))
seen (nodes.Spans as' xs) = Spans as'.now (map (inside noted_expr) xs.now)

abbrev pub runs : State → List Task → State
runs p [] = p
runs p (x ∷ xs) = runs (did p x) xs

-- the text so far, and the tasks that are left, the next one first
pub record Job : Type 0 where
  pub pen : State
  pub todo : List Task

-- nothing written yet, and nothing to write
abbrev pub fresh : Job
fresh = record { pen = begin; todo = [] }

unfoldable pub job_of : Printer → Job
job_of p = record { pen = p.pen; todo = map seen (reverse p.todo.items) }

unfoldable pub pushed : Job → Task → Job
pushed j x = record { pen = j.pen; todo = x ∷ j.todo }

unfoldable pub pen_of : Job → State
pen_of j = j.pen

-- the text once all that is left is written, where the text so far is p
unfoldable pub behind : Job → State → State
behind j p = runs p j.todo

abbrev pub outcome : Job → State
outcome j = behind j (pen_of j)

-- the same where a tree comes first
abbrev pub with_tree : Job → Tree → State
with_tree j t = behind j (puts (pen_of j) (signs t))

-- a body in braces, and trees on lines in braces
abbrev pub filled : Job → Forest → Forest → Job
filled j ds ss = pushed (pushed (pushed (pushed (pushed (pushed j (Ink (codes "}"))) (Does step.Outdent)) (Many OnLines ss)) (Many OnLines ds)) (Does step.Indent)) (Ink (codes "{"))

-- where a call begins, if it has a place
unfoldable pub may_place : Job → Option Span → Job
may_place j None = j
may_place j (Some s) = pushed j (Place s.lo.0)

-- a part that may be absent, and one with this before it
unfoldable pub may : Job → Tree → Job
may j (list (part t ts)) = pushed j (Put t)
may j t = j

unfoldable pub led : Job → token.Text → Tree → Job
led j a (list (part t ts)) = pushed (pushed j (Put t)) (Lead a)
led j a t = j

-- the same of a name
unfoldable pub may_name : Job → Option Ident → Job
may_name j None = j
may_name j (Some a) = pushed j (Ink (text_of a.text))

unfoldable pub led_name : Job → token.Text → Option Ident → Job
led_name j b None = j
led_name j b (Some a) = pushed (pushed j (Ink (text_of a.text))) (Lead b)

unfoldable pub may_boxed : Job → Option (Box Ident Global) → Job
may_boxed j None = j
may_boxed j (Some a) = pushed j (Ink (text_of a.value.text))

unfoldable pub led_boxed : Job → token.Text → Option (Box Ident Global) → Job
led_boxed j b None = j
led_boxed j b (Some a) = pushed (pushed j (Ink (text_of a.value.text))) (Lead b)

-- the key of a member
unfoldable pub keyed : Job → Tree → Job
keyed j (leaf s t) = pushed j (Ink t)
keyed j (node k (part e none)) = pushed (pushed (pushed j (Ink (codes "]"))) (Put e)) (Ink (codes "["))
keyed j t = j

-- a template
unfoldable pub templ : Job → List Text → List Tree → Job
templ j [] ts = j
templ j (a ∷ as') ts = pushed (pushed j (Spans as' ts)) (Ink (text_of a))

-- specifiers in braces, and what is imported
abbrev pub braced : Job → Forest → Job
braced j ts = pushed (pushed (pushed (pushed (pushed j (Ink (codes "}"))) (Does step.Pad)) (Many Commas ts)) (Does step.Pad)) (Ink (codes "{"))

unfoldable pub names_in : Job → ImportNames → Job
names_in j (import_names.All at a) = pushed (pushed j (Ink (text_of a.text))) (Ink (codes "* as "))
names_in j (import_names.List at ss) = braced j (forest (map (view_specifier kinds.Imported) ss.items))

unfoldable pub clause_in : Job → ImportClause → Job
clause_in j (import_clause.Default a) = pushed j (Ink (text_of a.text))
clause_in j (import_clause.Names ns) = names_in j ns
clause_in j (import_clause.Both at a ns) = pushed (pushed (names_in j ns) (Ink (codes ", "))) (Ink (text_of a.text))

unfoldable pub renamed : Job → Specifier → Job
renamed j (specifier.Same at a) = pushed j (Ink (text_of a))
renamed j (specifier.As at a b) = pushed (pushed (pushed j (Ink (text_of b))) (Lead (codes " as "))) (Ink (text_of a))
