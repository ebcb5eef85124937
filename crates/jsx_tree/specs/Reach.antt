-- The depth of a tree part by part, whatever its form: of what has its form it is the depth of its signs.
use Rattle.std.specs.Prelude.{ℕ, suc, max, Bool, true, false, cond, List, [], ◌∷◌}
use Rattle.jsx_base.specs.Token.{TokenKind, Elision}
use Rattle.jsx_tree.specs.Signs.{One}
use Rattle.jsx_tree.specs.Kinds.{Module, Script, FunctionBody, Directive, ImportAll, ImportList, ImportBoth, Specifier, SpecifierAs, Declarator, ExprStmt, ForDeclaration, ForBinding, Catch, ComputedKey, RestPat, RestProperty, ShorthandInit, Seq, NameLink, IndexLink, CallLink, Spread, TemplateSpan, NamespacedName, MemberName, Kind, program, statement, function, expression, jsx, Tree, leaf, node, list, Forest, none, part}
use Rattle.jsx_tree.specs.Grammar.{Fixed, Production, production}
use Rattle.jsx_tree.specs.Depth.{frame, depth_of}

-- a hole is no token
abbrev pub weighs : TokenKind → Bool
weighs Elision = false
weighs k = true

-- a declarator counts from its `=` on
abbrev pub has_value : Forest → Bool
has_value (part p (part (list (part e es)) ts)) = true
has_value ts = false

-- whether a node with these parts counts
abbrev pub counts : Kind → Forest → Bool
counts (program Module) ts = false
counts (program Script) ts = false
counts (program FunctionBody) ts = false
counts (program Directive) ts = false
counts (program ImportAll) ts = false
counts (program ImportList) ts = false
counts (program ImportBoth) ts = false
counts (program (Specifier s)) ts = false
counts (program (SpecifierAs s)) ts = false
counts (statement Declarator) ts = has_value ts
counts (statement ExprStmt) ts = false
counts (statement (ForDeclaration w)) ts = false
counts (statement (ForBinding w)) ts = false
counts (statement Catch) ts = false
counts (function ComputedKey) ts = false
counts (function (RestPat r)) ts = false
counts (function (RestProperty r)) ts = false
counts (expression Seq) ts = false
counts (expression (NameLink b)) ts = false
counts (expression (IndexLink b)) ts = false
counts (expression (CallLink b)) ts = false
counts (expression Spread) ts = false
counts (expression (TemplateSpan b)) ts = false
counts (jsx NamespacedName) ts = false
counts (jsx MemberName) ts = false
counts k ts = true

-- `{ a = b }` counts twice: a property, and a name with a default
abbrev pub counts_twice : Kind → Bool
counts_twice (function (ShorthandInit r)) = true
counts_twice k = false

abbrev pub once_more : Bool → ℕ → ℕ
once_more true n = suc n
once_more false n = n

-- the words `static`, `get` and `set`
abbrev pub ones : Production → ℕ
ones [] = 0
ones (Fixed One ∷ ps) = max 1 (ones ps)
ones (_ ∷ ps) = ones ps

abbrev mutual
  pub reach : Tree → ℕ
  reach (leaf k t) = cond (weighs k) 1 0
  reach (node k ts) = depth_of (frame (counts k ts) (max (ones (production k)) (once_more (counts_twice k) (reach_all ts))))
  reach (list ts) = reach_all ts

  pub reach_all : Forest → ℕ
  reach_all none = 0
  reach_all (part t ts) = max (reach t) (reach_all ts)
