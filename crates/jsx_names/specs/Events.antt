-- What a program's text says of names, in the order of the text: where scopes begin and end, what is declared, referred to and exported, and where `eval` is called.
use Rattle.std.specs.Prelude.{ℕ, suc, List, [], ◌∷◌, ◌++◌, Bool, true, false, cond, not, ◌&&◌, ◌||◌}
use Rattle.jsx_base.specs.Token.{Text, TokenKind, IdentifierName}
use Rattle.jsx_tree.specs.Kinds.{Exported, From, Module, Script, Specifier, SpecifierAs, ExportAllAs, ExportDecl, ExportDefaultFn, ExportDefaultClass, ExportDefaultExpr, Import, Block, Var, For, ForDeclaration, ForIn, ForOf, ForBinding, Switch, Catch, FunctionDecl, ClassDecl, Binds, FunctionExpr, ClassExpr, Arrow, BareArrow, Kind, program, statement, function, expression, Tree, leaf, node, list, Forest, none, part}
use Rattle.jsx_tree.specs.Nonterminals.{Nonterminal, Expr, BindingIdent, Pat, Declarators, Declaration, Body, BlockOnly, CaseClause, ImportClause, WholeProgram}
use Rattle.jsx_tree.specs.Form.{Position, position, positions}
use Rattle.jsx_tree.specs.Scopes.{Path, below, Sort, AsParameter, AsFunction, AsLexical, sort_of, binds, is_function, is_parameter, is_catch, is_name_at}
use Rattle.jsx_tree.specs.Clashes.{Place, AtName, Export, export_name, export_default, export_specifier, evals_here}

-- whose scope it is. Each `var` goes through `OfBlock` and `OfCatch`; `OfName` is that of the own name of a function or class expression.
pub data Frame : Type 0 where
  OfModule : Frame
  OfScript : Frame
  OfFunction : Frame
  OfBlock : Frame
  OfCatch : Frame
  OfName : Frame

pub data Event : Type 0 where
  -- a scope of the node at the path begins
  Opens : Frame → Path → Event
  -- the parameters of a function, or the pattern of a catch clause, are over: from here on its other names are seen
  Enters : Event
  Closes : Event
  -- whether the name is seen before the head of its scope is over
  Declares : Bool → Sort → Text → Path → Event
  Refers : Text → Path → Event
  Exports : Text → Place → Event
  -- a name that the module exports and must declare
  Wants : Text → Place → Event
  -- a direct call of `eval`, at its name
  Evals : Path → Event

-- how a name is declared: as others are, exported with that, or in the head of a scope
pub data Way : Type 0 where
  Simply : Way
  Exported' : Way
  InHead : Way

abbrev pub is_head : Way → Bool
is_head InHead = true
is_head w = false

-- what a name at a place is: one that is declared, or as its place says. What `export` stands before is declared as it is elsewhere, and exported.
pub data Mode : Type 0 where
  Plain : Mode
  Exporting : Mode
  Binding : Way → Sort → Mode

abbrev pub way : Mode → Way
way Exporting = Exported'
way m = Simply

-- in patterns, declarators and imports as around them
abbrev pub inherited : Nonterminal → Mode → Mode
inherited c m = cond (binds c) m Plain

-- the mode of a part of a node, by the node's own
abbrev pub mode : Mode → Kind → Nonterminal → Mode
mode m (program Import) ImportClause = Binding Simply AsLexical
mode m (program ExportDecl) Declaration = Exporting
mode m (program ExportDefaultFn) BindingIdent = Binding Simply AsFunction
mode m (statement (Var v)) Declarators = Binding (way m) (sort_of v)
mode m (statement (ForDeclaration v)) Declarators = Binding Simply (sort_of v)
mode m (statement (ForBinding v)) (Pat Binds) = Binding Simply (sort_of v)
mode m (statement FunctionDecl) BindingIdent = Binding (way m) AsFunction
mode m (statement ClassDecl) BindingIdent = Binding (way m) AsLexical
mode m (statement Catch) (Pat Binds) = Binding InHead AsLexical
mode m (function FunctionExpr) BindingIdent = Binding Simply AsLexical
mode m (function ClassExpr) BindingIdent = Binding Simply AsLexical
mode m k c = cond (is_parameter k c) (Binding InHead AsParameter) (inherited c m)

-- whether a node's whole text is in a scope of its own; `q` is the kind of the node around. The name behind `export default class` is the module's.
abbrev pub is_scope : Kind → Kind → Bool
is_scope q (program Module) = true
is_scope q (program Script) = true
is_scope q (statement Block) = not (is_catch q)
is_scope q (statement For) = true
is_scope q (statement ForIn) = true
is_scope q (statement ForOf) = true
is_scope q (statement Catch) = true
is_scope q (function FunctionExpr) = true
is_scope (program ExportDefaultClass) (function ClassExpr) = false
is_scope q (function ClassExpr) = true
is_scope q k = false

abbrev pub frame : Kind → Frame
frame (program Module) = OfModule
frame (program Script) = OfScript
frame (statement Catch) = OfCatch
frame (function k) = OfName
frame k = OfBlock

-- whether its last parts are in a scope: the cases of a switch, the parameters and the body of a function
abbrev pub has_scope : Kind → Bool
has_scope (statement Switch) = true
has_scope k = is_function k

abbrev pub inner : Kind → Frame
inner (statement Switch) = OfBlock
inner k = OfFunction

-- a function's body, or an arrow's expression
abbrev pub is_code : Kind → Nonterminal → Bool
is_code k Body = true
is_code (expression Arrow) (Expr n) = true
is_code (expression BareArrow) (Expr n) = true
is_code k c = false

-- which parts these are
abbrev pub is_inner : Kind → Nonterminal → Bool
is_inner (statement Switch) CaseClause = true
is_inner (statement Switch) c = false
is_inner k c = not (is_function k) || (is_parameter k c || is_code k c)

-- whether a scope has a head, and the parts behind it
abbrev pub has_head : Kind → Bool
has_head k = is_catch k || is_function k

abbrev pub is_last : Kind → Nonterminal → Bool
is_last k BlockOnly = true
is_last k c = is_code k c

abbrev pub is_behind : Kind → Nonterminal → Bool
is_behind k c = has_head k && is_last k c

abbrev pub entering : Bool → List Event
entering b = cond b (Enters ∷ []) []

abbrev pub around : Bool → Frame → Path → List Event → List Event
around b f p es = cond b (Opens f p ∷ (es ++ Closes ∷ [])) es

-- what a node exports by a name that it doesn't declare, and what of it the module must declare
abbrev pub exported_here : Kind → Path → Forest → List Export
exported_here (program (Specifier Exported)) p cs = export_specifier p (node (program (Specifier Exported)) cs)
exported_here (program (SpecifierAs Exported)) p cs = export_specifier p (node (program (SpecifierAs Exported)) cs)
exported_here (program (Specifier From)) p cs = export_specifier p (node (program (Specifier From)) cs)
exported_here (program (SpecifierAs From)) p cs = export_specifier p (node (program (SpecifierAs From)) cs)
exported_here (program ExportAllAs) p (part n cs) = export_name (below p 0) n
exported_here (program ExportDefaultFn) p cs = export_default p
exported_here (program ExportDefaultClass) p cs = export_default p
exported_here (program ExportDefaultExpr) p cs = export_default p
exported_here k p cs = []

abbrev pub wanted_here : Kind → Path → Forest → List Export
wanted_here (program (Specifier Exported)) p (part n cs) = export_name (below p 0) n
wanted_here (program (SpecifierAs Exported)) p (part n cs) = export_name (below p 0) n
wanted_here k p cs = []

abbrev pub exported : List Export → List Event
exported [] = []
exported (e ∷ es) = Exports e.name e.place ∷ exported es

abbrev pub wanted : List Export → List Event
wanted [] = []
wanted (e ∷ es) = Wants e.name e.place ∷ wanted es

abbrev pub called : List Path → List Event
called [] = []
called (p ∷ ps) = Evals p ∷ called ps

abbrev pub of_node : Kind → Path → Forest → List Event
of_node k p cs = wanted (wanted_here k p cs) ++ (exported (exported_here k p cs) ++ called (evals_here k p cs))

abbrev pub exporting : Way → Text → Path → List Event
exporting Exported' t p = Exports t (AtName p) ∷ []
exporting w t p = []

abbrev pub of_leaf : Mode → Kind → Nonterminal → Path → TokenKind → Text → List Event
of_leaf (Binding w r) q c p IdentifierName t = Declares (is_head w) r t p ∷ exporting w t p
of_leaf m q c p s t = cond (is_name_at q c s t) (Refers t p ∷ []) []

abbrev mutual
  -- the events of a tree at a place of a node of kind `q`
  pub events_below : Mode → Kind → Nonterminal → Path → Tree → List Event
  events_below m q c p (leaf s t) = of_leaf m q c p s t
  events_below m q c p (node k cs) =
      around (is_scope q k) (frame k) p (of_node k p cs ++ (events_parts false m k p 0 (positions k) cs ++ around (has_scope k) (inner k) p (events_parts true m k p 0 (positions k) cs)))
  events_below m q c p (list ts) = events_each m q c p 0 ts

  -- of the parts inside of a node's inner scope, or outside of it
  pub events_parts : Bool → Mode → Kind → Path → ℕ → List Position → Forest → List Event
  events_parts b m k p i [] ts = []
  events_parts b m k p i (s ∷ ss) none = []
  events_parts true m k p i (position f c g o a ∷ ss) (part t ts) =
      entering (is_behind k c) ++ (cond (is_inner k c) (events_below (mode m k c) k c (below p i) t) [] ++ events_parts true m k p (suc i) ss ts)
  events_parts false m k p i (position f c g o a ∷ ss) (part t ts) =
      cond (is_inner k c) [] (events_below (mode m k c) k c (below p i) t) ++ events_parts false m k p (suc i) ss ts

  pub events_each : Mode → Kind → Nonterminal → Path → ℕ → Forest → List Event
  events_each m q c p i none = []
  events_each m q c p i (part t ts) = events_below m q c (below p i) t ++ events_each m q c p (suc i) ts

abbrev pub events : Tree → List Event
events t = events_below Plain (program Script) WholeProgram [] t
