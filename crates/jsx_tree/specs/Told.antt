-- What each variant of the code's tree tells of places: its span, and the places of its texts. The span of a whole program is apart, since it is the text's. Parentheses tell what stands in them.
use Rattle.std.specs.Prelude.{List, [], ◌∷◌, map, Option, Some, None, Box}
use Rattle.std.specs.Global.{Global}
use Rattle.jsx_base.specs.declared.place.BytePos.{BytePos}
use Rattle.jsx_base.specs.declared.place.Span.{Span}
use Rattle.jsx_tree.specs.Spans.{Told, tells, Tales, no_tales, tale, spans, comes, default_is}
use Rattle.jsx_tree.specs.View.{inside, contents}
use Rattle.jsx_tree.specs.declared.text.Text.{Text}
use Rattle.jsx_tree.specs.declared.text.Ident.{Ident}
use Rattle.jsx_tree.specs.declared.program.Specifier.{Specifier}
use Rattle.jsx_tree.specs.declared.program.Specifier.TheVariants as specifier
use Rattle.jsx_tree.specs.declared.program.ImportClause.{ImportClause}
use Rattle.jsx_tree.specs.declared.program.ImportClause.TheVariants as import_clause
use Rattle.jsx_tree.specs.declared.program.ImportNames.{ImportNames}
use Rattle.jsx_tree.specs.declared.program.ImportNames.TheVariants as import_names
use Rattle.jsx_tree.specs.declared.program.Item.{Item}
use Rattle.jsx_tree.specs.declared.program.Item.TheVariants as item
use Rattle.jsx_tree.specs.declared.program.Program.{Program}
use Rattle.jsx_tree.specs.declared.program.Program.TheVariants as programs
use Rattle.jsx_tree.specs.declared.tree.Expr.{Expr}
use Rattle.jsx_tree.specs.declared.tree.Operation.{Operation}
use Rattle.jsx_tree.specs.declared.tree.Access.{Access}
use Rattle.jsx_tree.specs.declared.tree.Link.{Link}
use Rattle.jsx_tree.specs.declared.tree.Prop.{Prop}
use Rattle.jsx_tree.specs.declared.tree.Key.{Key}
use Rattle.jsx_tree.specs.declared.tree.Pat.{Pat}
use Rattle.jsx_tree.specs.declared.tree.Stmt.{Stmt}
use Rattle.jsx_tree.specs.declared.tree.Control.{Control}
use Rattle.jsx_tree.specs.declared.tree.Jsx.{Jsx}
use Rattle.jsx_tree.specs.declared.tree.Tag.{Tag}
use Rattle.jsx_tree.specs.declared.tree.Tag.TheVariants as tag
use Rattle.jsx_tree.specs.declared.tree.AttrName.{AttrName}
use Rattle.jsx_tree.specs.declared.tree.AttrName.TheVariants as attr_name
use Rattle.jsx_tree.specs.declared.tree.Access.TheOpen.{Access-F, Control-F, Expr-F, Jsx-F, Key-F, Link-F, Operation-F, Pat-F, Prop-F, Stmt-F}
use Rattle.jsx_tree.specs.declared.tree.Access.TheFolds.{fold-Access, fold-Control, fold-Expr, fold-Jsx, fold-Key, fold-Link, fold-Operation, fold-Pat, fold-Prop, fold-Stmt}

abbrev pub tales : List Told → Tales
tales [] = no_tales
tales (d ∷ ds) = tale d (tales ds)

-- the trees of one place that may hold none, or many
abbrev pub told_list : List Told → Told
told_list ds = tells [] (tales ds)

abbrev pub own : Told → Told
own d = d

abbrev pub told_optional : {A : Type 0} → (A → Told) → Option (Box A Global) → Told
told_optional f None = told_list []
told_optional f (Some x) = told_list (f x.value ∷ [])

-- a part that a node has or hasn't, before others
abbrev pub led_by : {A : Type 0} → (A → Told) → Option (Box A Global) → List Told → List Told
led_by f None ds = ds
led_by f (Some x) ds = f x.value ∷ ds

-- a text alone, and one that is a node by itself
abbrev pub told_text : Text → Told
told_text a = tells (comes a ∷ []) no_tales

abbrev pub told_leaf : Option Span → Text → Told
told_leaf at a = tells (spans at ∷ comes a ∷ []) no_tales

abbrev pub told_node : Option Span → List Told → Told
told_node at ds = tells (spans at ∷ []) (tales ds)

-- an export of the default, with the place of that word
abbrev pub told_default : Option Span → BytePos → List Told → Told
told_default at b ds = tells (spans at ∷ default_is b ∷ []) (tales ds)

abbrev pub told_name : Option Ident → Told
told_name None = told_list []
told_name (Some a) = told_list (told_text a.text ∷ [])

abbrev pub told_ident : Ident → Told
told_ident a = told_text a.text

abbrev pub told_directive : Text → Told
told_directive a = tells [] (tale (told_text a) no_tales)

-- the body of a function: its directives and its statements
abbrev pub told_body : List Text → List Told → Told
told_body ds ss = tells [] (tales (told_list (map told_directive ds) ∷ told_list ss ∷ []))

-- a template: its first piece, each expression with the piece behind it, and the last of these
abbrev pub told_middles : List Text → List Told → List Told
told_middles (p ∷ q ∷ ps) (d ∷ ds) = tells [] (tales (d ∷ told_text p ∷ [])) ∷ told_middles (q ∷ ps) ds
told_middles ps ds = []

abbrev pub told_closing : List Text → List Told → List Told
told_closing (p ∷ []) (d ∷ []) = d ∷ told_text p ∷ []
told_closing (p ∷ ps) (d ∷ ds) = told_closing ps ds
told_closing ps ds = []

abbrev pub told_template : Option Span → List Text → List Told → Told
told_template at (p ∷ []) [] = told_node at (told_text p ∷ [])
told_template at (p ∷ ps) ds = told_node at (told_text p ∷ told_list (told_middles ps ds) ∷ told_closing ps ds)
told_template at [] ds = told_node at []

abbrev pub told_tag : Tag → Told
told_tag (tag.Name a) = told_text a
told_tag (tag.Namespaced at a b) = told_node at (told_text a ∷ told_text b ∷ [])
told_tag (tag.Member at a bs) = told_node at (told_text a ∷ told_list (map told_text bs.items) ∷ [])

abbrev pub told_attr_name : AttrName → Told
told_attr_name (attr_name.Name a) = told_text a
told_attr_name (attr_name.Namespaced at a b) = told_node at (told_text a ∷ told_text b ∷ [])

abbrev pub told_expr_step : Expr-F Told Told Told Told Told Told Told Told Told Told → Told
told_expr_step (Expr-F.«Expr::Ident» at a) = told_leaf at a.text
told_expr_step (Expr-F.«Expr::Literal» at k a) = told_leaf at a
told_expr_step (Expr-F.Word at w) = told_node at []
told_expr_step (Expr-F.Operation a) = a
told_expr_step (Expr-F.Access a) = a
told_expr_step (Expr-F.«Expr::Array» at xs) = told_node at (told_list (contents xs.items) ∷ [])
told_expr_step (Expr-F.«Expr::Object» at xs) = told_node at (told_list (contents xs.items) ∷ [])
told_expr_step (Expr-F.Template at ps xs) = told_template at ps.items (contents xs.items)
told_expr_step (Expr-F.«Expr::Function» at a ps ds ss) = told_node at (told_optional told_ident a ∷ told_list (contents ps.items) ∷ told_body ds.items (contents ss.items) ∷ [])
told_expr_step (Expr-F.«Expr::Class» at a e ms) = told_node at (told_optional told_ident a ∷ told_optional own e ∷ told_list (contents ms.items) ∷ [])
told_expr_step (Expr-F.Jsx a) = a.value
told_expr_step (Expr-F.«Expr::Paren» at a) = a.value

abbrev pub told_operation_step : Operation-F Told Told Told Told Told Told Told Told Told Told → Told
told_operation_step (Operation-F.Seq at xs) = told_node at (told_list (contents xs.items) ∷ [])
told_operation_step (Operation-F.Assign at p a) = told_node at (p.value ∷ a.value ∷ [])
told_operation_step (Operation-F.OpAssign at o a b) = told_node at (a.value ∷ b.value ∷ [])
told_operation_step (Operation-F.Arrow at ps b) = told_node at (told_list (contents ps.items) ∷ b.value ∷ [])
told_operation_step (Operation-F.ArrowBlock at ps ds ss) = told_node at (told_list (contents ps.items) ∷ told_body ds.items (contents ss.items) ∷ [])
told_operation_step (Operation-F.BareArrow at a b) = told_node at (told_text a.text ∷ b.value ∷ [])
told_operation_step (Operation-F.BareArrowBlock at a ds ss) = told_node at (told_text a.text ∷ told_body ds.items (contents ss.items) ∷ [])
told_operation_step (Operation-F.Cond at a b c) = told_node at (a.value ∷ b.value ∷ c.value ∷ [])
told_operation_step (Operation-F.Binary at o a b) = told_node at (a.value ∷ b.value ∷ [])
told_operation_step (Operation-F.Unary at o a) = told_node at (a.value ∷ [])
told_operation_step (Operation-F.Update at o s a) = told_node at (a.value ∷ [])
told_operation_step (Operation-F.«Operation::Spread» at a) = told_node at (a.value ∷ [])
told_operation_step Operation-F.«Operation::Hole» = tells [] no_tales

abbrev pub told_access_step : Access-F Told Told Told Told Told Told Told Told Told Told → Told
told_access_step (Access-F.«Access::Call» at f xs) = told_node at (f.value ∷ told_list (contents xs.items) ∷ [])
told_access_step (Access-F.«Access::Member» at a b) = told_node at (a.value ∷ told_text b ∷ [])
told_access_step (Access-F.«Access::Index» at a b) = told_node at (a.value ∷ b.value ∷ [])
told_access_step (Access-F.Tagged at a here ps xs) = told_node at (a.value ∷ told_template here ps.items (contents xs.items) ∷ [])
told_access_step (Access-F.New at f xs) = told_node at (f.value ∷ told_list (contents xs.items) ∷ [])
told_access_step (Access-F.NewWithoutArguments at f) = told_node at (f.value ∷ [])
told_access_step (Access-F.SuperCall at xs) = told_node at (told_list (contents xs.items) ∷ [])
told_access_step (Access-F.SuperMember at b) = told_node at (told_text b ∷ [])
told_access_step (Access-F.SuperIndex at b) = told_node at (b.value ∷ [])
told_access_step (Access-F.ImportCall at a) = told_node at (a.value ∷ [])
told_access_step (Access-F.Chain at a xs) = told_node at (a.value ∷ told_list (contents xs.items) ∷ [])

abbrev pub told_link_step : Link-F Told Told Told Told Told Told Told Told Told Told → Told
told_link_step (Link-F.«Link::Member» at q b) = told_node at (told_text b ∷ [])
told_link_step (Link-F.«Link::Index» at q b) = told_node at (b.value ∷ [])
told_link_step (Link-F.«Link::Call» at q xs) = told_node at (told_list (contents xs.items) ∷ [])

abbrev pub told_prop_step : Prop-F Told Told Told Told Told Told Told Told Told Told → Told
told_prop_step (Prop-F.«Prop::Pair» at k a) = told_node at (k ∷ a.value ∷ [])
told_prop_step (Prop-F.«Prop::Shorthand» at a) = told_node at (told_text a.text ∷ [])
told_prop_step (Prop-F.«Prop::Spread» at a) = told_node at (a.value ∷ [])
told_prop_step (Prop-F.Method at p k ps ds ss) = told_node at (k ∷ told_list (contents ps.items) ∷ told_body ds.items (contents ss.items) ∷ [])
told_prop_step (Prop-F.Getter at p k ds ss) = told_node at (k ∷ told_body ds.items (contents ss.items) ∷ [])
told_prop_step (Prop-F.Setter at p k q ds ss) = told_node at (k ∷ q.value ∷ told_body ds.items (contents ss.items) ∷ [])
told_prop_step (Prop-F.Field at p k e) = told_node at (k ∷ told_optional own e ∷ [])

abbrev pub told_key_step : Key-F Told Told Told Told Told Told Told Told Told Told → Told
told_key_step (Key-F.Name a) = told_text a
told_key_step (Key-F.«Key::Literal» k a) = told_text a
told_key_step (Key-F.Computed at a) = told_node at (a.value ∷ [])

abbrev pub told_pat_step : Pat-F Told Told Told Told Told Told Told Told Told Told → Told
told_pat_step (Pat-F.«Pat::Ident» at a) = told_leaf at a.text
told_pat_step (Pat-F.«Pat::Array» at xs) = told_node at (told_list (contents xs.items) ∷ [])
told_pat_step (Pat-F.«Pat::Object» at xs) = told_node at (told_list (contents xs.items) ∷ [])
told_pat_step (Pat-F.Target a) = a.value
told_pat_step (Pat-F.«Pat::Paren» at p) = p.value
told_pat_step (Pat-F.Binding at p i) = told_node at (p.value ∷ told_optional own i ∷ [])
told_pat_step (Pat-F.WithInit at p a) = told_node at (p.value ∷ a.value ∷ [])
told_pat_step (Pat-F.Rest at p) = told_node at (p.value ∷ [])
told_pat_step Pat-F.«Pat::Hole» = tells [] no_tales
told_pat_step (Pat-F.«Pat::Pair» at k p) = told_node at (k ∷ p.value ∷ [])
told_pat_step (Pat-F.«Pat::Shorthand» at a e) = told_node at (told_text a.text ∷ led_by own e [])
told_pat_step (Pat-F.RestProperty at a) = told_node at (told_text a.text ∷ [])
told_pat_step (Pat-F.Declaration at w ps) = told_node at (told_list (contents ps.items) ∷ [])
told_pat_step (Pat-F.Head at w p) = told_node at (p.value ∷ [])

abbrev pub told_stmt_step : Stmt-F Told Told Told Told Told Told Told Told Told Told → Told
told_stmt_step (Stmt-F.Block at ss) = told_node at (told_list (contents ss.items) ∷ [])
told_stmt_step (Stmt-F.Var at w ps) = told_node at (told_list (contents ps.items) ∷ [])
told_stmt_step (Stmt-F.Empty at) = told_node at []
told_stmt_step (Stmt-F.Expr at e) = told_node at (e.value ∷ [])
told_stmt_step (Stmt-F.Control a) = a
told_stmt_step (Stmt-F.Continue at a) = told_node at (told_name a ∷ [])
told_stmt_step (Stmt-F.Break at a) = told_node at (told_name a ∷ [])
told_stmt_step (Stmt-F.Return at e) = told_node at (told_optional own e ∷ [])
told_stmt_step (Stmt-F.Throw at e) = told_node at (e.value ∷ [])
told_stmt_step (Stmt-F.Debugger at) = told_node at []
told_stmt_step (Stmt-F.«Stmt::Function» at a ps ds ss) = told_node at (told_text a.text ∷ told_list (contents ps.items) ∷ told_body ds.items (contents ss.items) ∷ [])
told_stmt_step (Stmt-F.«Stmt::Class» at a e ms) = told_node at (told_text a.text ∷ told_optional own e ∷ told_list (contents ms.items) ∷ [])

abbrev pub told_control_step : Control-F Told Told Told Told Told Told Told Told Told Told → Told
told_control_step (Control-F.If at e s o) = told_node at (e.value ∷ s.value ∷ told_optional own o ∷ [])
told_control_step (Control-F.Do at s e) = told_node at (s.value ∷ e.value ∷ [])
told_control_step (Control-F.While at e s) = told_node at (e.value ∷ s.value ∷ [])
told_control_step (Control-F.For at i e u s) = told_node at (told_optional own i ∷ told_optional own e ∷ told_optional own u ∷ s.value ∷ [])
told_control_step (Control-F.ForIn at h e s) = told_node at (h.value ∷ e.value ∷ s.value ∷ [])
told_control_step (Control-F.ForOf at h e s) = told_node at (h.value ∷ e.value ∷ s.value ∷ [])
told_control_step (Control-F.Label at a s) = told_node at (told_text a.text ∷ s.value ∷ [])
told_control_step (Control-F.Switch at e cs) = told_node at (e.value ∷ told_list (contents cs.items) ∷ [])
told_control_step (Control-F.Case at e ss) = told_node at (led_by own e (told_list (contents ss.items) ∷ []))
told_control_step (Control-F.Try at b c f) = told_node at (b.value ∷ told_optional own c ∷ told_optional own f ∷ [])
told_control_step (Control-F.Catch at p s) = told_node at (told_optional own p ∷ s.value ∷ [])

abbrev pub told_jsx_step : Jsx-F Told Told Told Told Told Told Told Told Told Told → Told
told_jsx_step (Jsx-F.Element at t as') = told_node at (told_tag t ∷ told_list (contents as'.items) ∷ [])
told_jsx_step (Jsx-F.ElementWithChildren at t as' xs u) = told_node at (told_tag t ∷ told_list (contents as'.items) ∷ told_list (contents xs.items) ∷ told_tag u.value ∷ [])
told_jsx_step (Jsx-F.Fragment at xs) = told_node at (told_list (contents xs.items) ∷ [])
told_jsx_step (Jsx-F.Text at a) = told_leaf at a
told_jsx_step (Jsx-F.Str at a) = told_leaf at a
told_jsx_step (Jsx-F.Container at e) = told_node at (led_by own e [])
told_jsx_step (Jsx-F.«Jsx::Spread» at e) = told_node at (e.value ∷ [])
told_jsx_step (Jsx-F.Attribute at a v) = told_node at (told_attr_name a ∷ told_optional own v ∷ [])

abbrev pub told_expr : Expr → Told
told_expr = fold-Expr Told Told Told Told Told Told Told Told Told Told told_access_step told_control_step told_expr_step told_jsx_step told_key_step told_link_step told_operation_step told_pat_step told_prop_step told_stmt_step

abbrev pub told_operation : Operation → Told
told_operation = fold-Operation Told Told Told Told Told Told Told Told Told Told told_access_step told_control_step told_expr_step told_jsx_step told_key_step told_link_step told_operation_step told_pat_step told_prop_step told_stmt_step

abbrev pub told_access : Access → Told
told_access = fold-Access Told Told Told Told Told Told Told Told Told Told told_access_step told_control_step told_expr_step told_jsx_step told_key_step told_link_step told_operation_step told_pat_step told_prop_step told_stmt_step

abbrev pub told_link : Link → Told
told_link = fold-Link Told Told Told Told Told Told Told Told Told Told told_access_step told_control_step told_expr_step told_jsx_step told_key_step told_link_step told_operation_step told_pat_step told_prop_step told_stmt_step

abbrev pub told_prop : Prop → Told
told_prop = fold-Prop Told Told Told Told Told Told Told Told Told Told told_access_step told_control_step told_expr_step told_jsx_step told_key_step told_link_step told_operation_step told_pat_step told_prop_step told_stmt_step

abbrev pub told_key : Key → Told
told_key = fold-Key Told Told Told Told Told Told Told Told Told Told told_access_step told_control_step told_expr_step told_jsx_step told_key_step told_link_step told_operation_step told_pat_step told_prop_step told_stmt_step

abbrev pub told_pat : Pat → Told
told_pat = fold-Pat Told Told Told Told Told Told Told Told Told Told told_access_step told_control_step told_expr_step told_jsx_step told_key_step told_link_step told_operation_step told_pat_step told_prop_step told_stmt_step

abbrev pub told_stmt : Stmt → Told
told_stmt = fold-Stmt Told Told Told Told Told Told Told Told Told Told told_access_step told_control_step told_expr_step told_jsx_step told_key_step told_link_step told_operation_step told_pat_step told_prop_step told_stmt_step

abbrev pub told_control : Control → Told
told_control = fold-Control Told Told Told Told Told Told Told Told Told Told told_access_step told_control_step told_expr_step told_jsx_step told_key_step told_link_step told_operation_step told_pat_step told_prop_step told_stmt_step

abbrev pub told_jsx : Jsx → Told
told_jsx = fold-Jsx Told Told Told Told Told Told Told Told Told Told told_access_step told_control_step told_expr_step told_jsx_step told_key_step told_link_step told_operation_step told_pat_step told_prop_step told_stmt_step

abbrev pub told_specifier : Specifier → Told
told_specifier (specifier.Same at a) = told_node at (told_text a ∷ [])
told_specifier (specifier.As at a b) = told_node at (told_text a ∷ told_text b ∷ [])

abbrev pub told_import_names : ImportNames → Told
told_import_names (import_names.All at a) = told_node at (told_text a.text ∷ [])
told_import_names (import_names.List at ss) = told_node at (told_list (map told_specifier ss.items) ∷ [])

abbrev pub told_import_clause : ImportClause → Told
told_import_clause (import_clause.Default a) = told_text a.text
told_import_clause (import_clause.Names a) = told_import_names a
told_import_clause (import_clause.Both at a b) = told_node at (told_text a.text ∷ told_import_names b ∷ [])

abbrev pub told_item : Item → Told
told_item (item.Stmt s) = told_stmt s.value
told_item (item.ImportBare at a) = told_node at (told_text a ∷ [])
told_item (item.Import at c a) = told_node at (told_import_clause c ∷ told_text a ∷ [])
told_item (item.ExportNames at ss) = told_node at (told_list (map told_specifier ss.items) ∷ [])
told_item (item.ExportFrom at ss a) = told_node at (told_list (map told_specifier ss.items) ∷ told_text a ∷ [])
told_item (item.ExportAll at a) = told_node at (told_text a ∷ [])
told_item (item.ExportAllAs at a b) = told_node at (told_text a ∷ told_text b ∷ [])
told_item (item.ExportDecl at s) = told_node at (told_stmt s.value ∷ [])
told_item (item.ExportDefaultFn at b a ps ds ss) = told_default at b (told_name a ∷ told_list (map (inside told_pat) ps.items) ∷ told_body ds.items (map (inside told_stmt) ss.items) ∷ [])
told_item (item.ExportDefaultClass at b c) = told_default at b (told_expr c.value ∷ [])
told_item (item.ExportDefaultExpr at b e) = told_default at b (told_expr e.value ∷ [])

abbrev pub told : Program → Told
told (programs.Module m) = tells [] (tales (told_list (map told_directive m.directives.items) ∷ told_list (map told_item m.body.items) ∷ []))
told (programs.Script m) = tells [] (tales (told_list (map told_directive m.directives.items) ∷ told_list (map (inside told_stmt) m.body.items) ∷ []))
