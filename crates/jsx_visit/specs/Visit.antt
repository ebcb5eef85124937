-- A tree that is visited: each expression, and each target in parentheses, is made anew after its parts (ECMA-262 section 13). What stands in JSX isn't entered.
use Rattle.std.specs.Prelude.{Bool, true, false, cond, not}
use Rattle.jsx_base.specs.declared.place.Span.{Span}
use Rattle.jsx_tree.specs.declared.program.Program.{Program}
use Rattle.jsx_tree.specs.declared.program.Program.TheVariants as programs
use Rattle.jsx_tree.specs.Kinds.{ExpressionKind, Property, Shorthand, Spread, NameLink, IndexLink, CallLink, PlainTemplate, SubstitutedTemplate, TemplateSpan, FunctionKind, FunctionExpr, ClassExpr, ParenTarget, Kind, program, statement, function, expression, jsx, Tree, leaf, node, list, Forest, none, part}

-- what stands as an expression by itself, and not as a property, a spread, a link of a chain or a piece of a template
abbrev pub is_whole : ExpressionKind → Bool
is_whole Property = false
is_whole Shorthand = false
is_whole Spread = false
is_whole (NameLink q) = false
is_whole (IndexLink q) = false
is_whole (CallLink q) = false
is_whole (PlainTemplate tagged) = not tagged
is_whole (SubstitutedTemplate tagged) = not tagged
is_whole (TemplateSpan tagged) = false
is_whole k = true

-- functions and classes that are expressions
abbrev pub is_value : FunctionKind → Bool
is_value FunctionExpr = true
is_value ClassExpr = true
is_value k = false

-- the kinds of node that a visitor is handed: expressions, and targets in parentheses
abbrev pub is_handed : Kind → Bool
is_handed (program k) = false
is_handed (statement k) = false
is_handed (function ParenTarget) = true
is_handed (function k) = is_value k
is_handed (expression k) = is_whole k
is_handed (jsx k) = true

-- a node that the visitor makes anew, where it is handed it
abbrev pub renewed : (Kind → Forest → Tree) → Kind → Forest → Tree
renewed f k cs = cond (is_handed k) (f k cs) (node k cs)

-- what a visitor makes of an expression
abbrev pub changed : (Kind → Forest → Tree) → Tree → Tree
changed f (leaf s t) = leaf s t
changed f (node k cs) = renewed f k cs
changed f (list ts) = list ts

-- what it makes of a pattern: a target in parentheses is made anew, and all else is left
abbrev pub changed_target : (Kind → Forest → Tree) → Tree → Tree
changed_target f (node (function ParenTarget) cs) = f (function ParenTarget) cs
changed_target f t = t

abbrev mutual
  -- what a visit makes of a tree
  pub visited : (Kind → Forest → Tree) → Tree → Tree
  visited f (leaf s t) = leaf s t
  visited f (node (program k) cs) = node (program k) (visiteds f cs)
  visited f (node (statement k) cs) = node (statement k) (visiteds f cs)
  visited f (node (function k) cs) = renewed f (function k) (visiteds f cs)
  visited f (node (expression k) cs) = renewed f (expression k) (visiteds f cs)
  visited f (node (jsx k) cs) = f (jsx k) cs
  visited f (list ts) = list (visiteds f ts)

  pub visiteds : (Kind → Forest → Tree) → Forest → Forest
  visiteds f none = none
  visiteds f (part t ts) = part (visited f t) (visiteds f ts)

-- the span of a whole program
abbrev pub span_of : Program → Span
span_of (programs.Module m) = m.span
span_of (programs.Script m) = m.span

-- a tree whose parts are visited, and that isn't made anew itself
abbrev pub within : (Kind → Forest → Tree) → Tree → Tree
within f (leaf s t) = leaf s t
within f (node (jsx k) cs) = node (jsx k) cs
within f (node k cs) = node k (visiteds f cs)
within f (list ts) = list (visiteds f ts)
